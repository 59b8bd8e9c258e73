use Rattle.std.proofs.Common.{◌≡◌, ℕ, List, ◌++◌, length, map, take, drop, sym, ◌∙◌, ap, subst, inr}
use Rattle.tm_model.specs.Setting.{program_setting}
use Rattle.tm_model.specs.State.{opening_state}
use Rattle.tm_hist.specs.History.{pairs_of}
use Rattle.tm_hist.specs.Serial.{EndsWith, core_of}
use Rattle.tm_hist.proofs.QueueRuns.{ends_with_none}
use Rattle.tm_hist.proofs.Runs.{first_closed, opening_size, refused, replayed, written_back}
use Rattle.tm_hist.specs.declared.serial_core.SerialCore.{SerialCore}
use Rattle.tm_hist.proofs.one_memory.serial.Goals as goal

pub run_history-requires-clause-size : goal.run_history-requires-clause-size
run_history-requires-clause-size c =
    ap length (c.deref_mut.ensures.value ∙ c.in_ok-memory.ensures.memory)
    ∙ opening_size c.args.program.now c.mem_size.ensures.sound ∙ sym c.mem_size.ensures.size

pub run_history-requires-clause-closed : goal.run_history-requires-clause-closed
run_history-requires-clause-closed c =
    first_closed c.args.program.now c.deref_mut-2.result.now (c.deref_mut-2.ensures.value ∙ c.in_ok-cores.ensures.ok)

pub returns-in-Ok-clause-ok : goal.returns-in-Ok-clause-ok
returns-in-Ok-clause-ok c =
    let p = c.args.program.now in
    let h = (pairs_of c.args.history) in
    let m = c.in_ok-memory.memory.items in
    let cores = c.in_ok-cores.cores.items in
    let m2 = c.run_history.new.memory in
    let cores2 = c.run_history.new.cores in
    let back_m : take c.in_ok-memory.memory.len (m2 ++ drop (length m2) m) ≡ m2 =
    written_back m m2 c.in_ok-memory.memory.len
    (c.run_history.auto.memory ∙ ap length c.deref_mut.ensures.value)
    (sym c.deref_mut.ensures.len ∙ ap length c.deref_mut.ensures.value) in
    let back_c : take c.in_ok-cores.cores.len (cores2 ++ drop (length cores2) cores) ≡ cores2 =
    written_back cores cores2 c.in_ok-cores.cores.len
    (c.run_history.auto.cores ∙ ap length c.deref_mut-2.ensures.value)
    (sym c.deref_mut-2.ensures.len ∙ ap length c.deref_mut-2.ensures.value) in
    let P : List ℕ → Type 0 =
    λ x. EndsWith (program_setting p 0 0 0) (opening_state p) h x
    (map core_of (take c.in_ok-cores.cores.len (cores2 ++ drop (length cores2) cores))) in
    let Q : List SerialCore → Type 0 = λ x. EndsWith (program_setting p 0 0 0) (opening_state p) h m2 (map core_of x) in
    ends_with_none (program_setting p 0 0 0) (opening_state p) h _ _ _ c.new.ensures.items
    (subst P (sym back_m) (subst Q (sym back_c)
    (replayed p h c.code.result.now c.base.result c.mem_size.result c.deref_mut.result.now m2 c.deref_mut-2.result.now
    (map core_of cores2)
    c.code.ensures.code c.base.ensures.base c.mem_size.ensures.size
    (c.deref_mut.ensures.value ∙ c.in_ok-memory.ensures.memory) (c.deref_mut-2.ensures.value ∙ c.in_ok-cores.ensures.ok)
    c.in-Ok.ensures.ok)))

pub returns-in-Err-clause-err : goal.returns-in-Err-clause-err
returns-in-Err-clause-err c =
    inr (refused c.args.program.now (pairs_of c.args.history) c.code.result.now c.base.result c.mem_size.result
    c.deref_mut.result.now c.deref_mut-2.result.now c.in-Err.index
    c.code.ensures.code c.base.ensures.base c.mem_size.ensures.size
    (c.deref_mut.ensures.value ∙ c.in_ok-memory.ensures.memory) (c.deref_mut-2.ensures.value ∙ c.in_ok-cores.ensures.ok)
    c.in-Err.ensures.err)
