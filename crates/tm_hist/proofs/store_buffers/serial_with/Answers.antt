use Rattle.std.proofs.Common.{◌≡◌, ◌⊎◌, ◌++◌, length, map, take, drop, sym, ◌∙◌, ap, subst, inr}
use Rattle.std.specs.Prelude.{IfErr, IfOk}
use Rattle.std.specs.List.{AllByRecursion, range_with_len}
use Rattle.ia_image.specs.Program.{ProgramValue as Program}
use Rattle.tm_model.specs.Setting.{program_setting}
use Rattle.tm_model.specs.State.{opening_state}
use Rattle.tm_hist.specs.History.{pairs_of}
use Rattle.tm_hist.specs.Queues.{Holds, IsQueue, Queued, queue_at, queued_in, queues_of}
use Rattle.tm_hist.specs.Replay.{IsRefused, IsReplay}
use Rattle.tm_hist.specs.Serial.{first_core}
use Rattle.tm_hist.specs.declared.replay.SerialFault.TheVariants.{NoMemory}
use Rattle.tm_hist.proofs.QueueRuns.{ends_back, first_holds, first_own, own_lists, queues_refused, queues_replayed}
use Rattle.tm_hist.proofs.Runs.{first_closed, opening_size, written_back}
use Rattle.tm_hist.proofs.store_buffers.serial_with.Goals as goal
use Rattle.tm_hist.proofs.store_buffers.serial_with.Goals.{After-run_queued}

pub run_queued-requires-clause-size : goal.run_queued-requires-clause-size
run_queued-requires-clause-size c =
    ap length (c.deref_mut.ensures.value ∙ c.in_ok-memory.ensures.memory)
    ∙ opening_size c.args.program.now c.mem_size.ensures.sound ∙ sym c.mem_size.ensures.size

pub run_queued-requires-clause-closed : goal.run_queued-requires-clause-closed
run_queued-requires-clause-closed c =
    first_closed c.args.program.now c.deref_mut-3.result.now (c.deref_mut-3.ensures.value ∙ c.in_ok-cores.ensures.ok)

pub run_queued-requires-clause-count : goal.run_queued-requires-clause-count
run_queued-requires-clause-count c =
    ap length c.deref_mut-2.ensures.value
    ∙ first_own c.args.program.now c.deref_mut-3.result.now c.cores.result (length c.in_ok-pending.pending.items)
    (c.deref_mut-3.ensures.value ∙ c.in_ok-cores.ensures.ok) c.cores.ensures.number c.in_ok-pending.ensures.ok.number

pub run_queued-requires-clause-queues : goal.run_queued-requires-clause-queues
run_queued-requires-clause-queues c =
    subst (AllByRecursion (IsQueue c.mem_size.result c.args.stores)) (sym c.deref_mut-2.ensures.value)
    (c.in_ok-pending.ensures.ok.each c.mem_size.result)

pub returns-then-stores-eq0-clause-ok : goal.returns-then-stores-eq0-clause-ok
returns-then-stores-eq0-clause-ok c =
    subst (λ n. IfOk c.serial.result (λ s. IsReplay c.args.program.now n (pairs_of c.args.history) s))
    (sym c.if-stores-eq0.true) c.serial.ensures.ok

pub returns-then-stores-eq0-clause-err : goal.returns-then-stores-eq0-clause-err
returns-then-stores-eq0-clause-err c =
    subst (λ n. IfErr c.serial.result (λ fault. (fault ≡ NoMemory)
    ⊎ IsRefused c.args.program.now n (pairs_of c.args.history) fault))
    (sym c.if-stores-eq0.true) c.serial.ensures.err

-- the lists before the first step
module _ (c : After-run_queued) where
  abbrev program : Program
  program = c.args.program.now

  abbrev start : Queued
  start = queued_in c.deref_mut.result.now c.deref_mut-2.result.now c.deref_mut-3.result.now

  cores_are : c.deref_mut-3.result.now ≡ map (first_core program) (range_with_len 0 (length program.entries))
  cores_are = c.deref_mut-3.ensures.value ∙ c.in_ok-cores.ensures.ok

  holds : Holds (opening_state program) start
  holds =
      first_holds program c.deref_mut.result.now (queues_of c.deref_mut-2.result.now) c.deref_mut-3.result.now
      (c.deref_mut.ensures.value ∙ c.in_ok-memory.ensures.memory) cores_are
      (λ core. ap (λ qs. queue_at (queues_of qs) core) c.deref_mut-2.ensures.value
      ∙ c.in_ok-pending.ensures.ok.none core)

  own : length start.queues ≡ length start.cores
  own =
      own_lists c.deref_mut-2.result.now c.deref_mut-3.result.now
      (ap length c.deref_mut-2.ensures.value
      ∙ first_own program c.deref_mut-3.result.now c.cores.result (length c.in_ok-pending.pending.items) cores_are
      c.cores.ensures.number c.in_ok-pending.ensures.ok.number)

pub returns-in-Ok-clause-ok : goal.returns-in-Ok-clause-ok
returns-in-Ok-clause-ok c =
    let p = c.args.program.now in
    let h = pairs_of c.args.history in
    let k = program_setting p 0 0 c.args.stores in
    let m = c.in_ok-memory.memory in
    let qs = c.in_ok-pending.pending in
    let cs = c.in_ok-cores.cores in
    let m2 = c.run_queued.new.memory in
    let q2 = c.run_queued.new.queues in
    let c2 = c.run_queued.new.cores in
    let back_m : take m.len (m2 ++ drop (length m2) m.items) ≡ m2 =
    written_back m.items m2 m.len (c.run_queued.auto.memory ∙ ap length c.deref_mut.ensures.value)
    (sym c.deref_mut.ensures.len ∙ ap length c.deref_mut.ensures.value) in
    let back_q : take qs.len (q2 ++ drop (length q2) qs.items) ≡ q2 =
    written_back qs.items q2 qs.len (c.run_queued.auto.queues ∙ ap length c.deref_mut-2.ensures.value)
    (sym c.deref_mut-2.ensures.len ∙ ap length c.deref_mut-2.ensures.value) in
    let back_c : take cs.len (c2 ++ drop (length c2) cs.items) ≡ c2 =
    written_back cs.items c2 cs.len (c.run_queued.auto.cores ∙ ap length c.deref_mut-3.ensures.value)
    (sym c.deref_mut-3.ensures.len ∙ ap length c.deref_mut-3.ensures.value) in
    let after = (goal.at.returns-in-Ok-clause-ok c).After-run_queued in
    ends_back k (opening_state p) h _ m2 _ q2 _ c2 (sym back_m) (sym back_q) (sym back_c)
    (queues_replayed p c.args.stores h c.code.result.now c.base.result c.mem_size.result (start after)
    c.code.ensures.code c.base.ensures.base c.mem_size.ensures.size (holds after) (own after)
    (queued_in m2 q2 c2) c.in-Ok.ensures.ok)

pub returns-in-Err-clause-err : goal.returns-in-Err-clause-err
returns-in-Err-clause-err c =
    let after = (goal.at.returns-in-Err-clause-err c).After-run_queued in
    inr (queues_refused c.args.program.now c.args.stores (pairs_of c.args.history) c.code.result.now c.base.result
    c.mem_size.result (start after) c.code.ensures.code c.base.ensures.base c.mem_size.ensures.size (holds after)
    (own after) c.in-Err.index c.in-Err.ensures.err)
