use Rattle.std.proofs.Common.{◌≡◌, ◌*◌, ◌^◌, ◌<◌, ◌≤◌, ◌∙◌, ℕ, List, length, reverse, suc, sym, ap, subst}
use Rattle.std.proofs.Common.{arith}
use Rattle.std.specs.Prelude.{All}
use Rattle.std.proofs.lemmas.List.{length_push}
use Rattle.std.proofs.lemmas.List.Elements.{All-push}
use Rattle.tm_sets.specs.Content.{Content}
use Rattle.tm_model.specs.State.{Pending, seen_memory}
use Rattle.tm_core.specs.declared.ahead.Ahead.TheVariants as ahead
use Rattle.tm_core.specs.declared.cpu.Cpu.{Cpu}
use Rattle.tm_core.specs.Representation.{cpu_at, cpu_views, setting_with}
use Rattle.tm_core.specs.StoreBuffers.{IsAhead, IsStorable}
use Rattle.tm_core.proofs.OtherCores.{length-seen}
use Rattle.tm_core.proofs.StoreBuffers.{foreseen_waits, others_storable, parts_like, steps_there, steps_with_store}
use Rattle.tm_core.proofs.StoreBuffers.{waits_and_drains}
use Rattle.tm_core.proofs.Table.{load_lines}
use Rattle.tm_core.proofs.store_buffer.step_pending.Goals as goal

pub of-seen-requires : goal.of-seen-requires
of-seen-requires g c =
    subst (All (IsStorable (length c.args.memory.now))) (sym c.deref.ensures.value) c.requires.storable

pub foresee-requires-clause-parts : goal.foresee-requires-clause-parts
foresee-requires-clause-parts g c =
    parts_like c.args.listing.now.code.bytes.now c.args.listing.now.code.base c.args.memory.now c.of-seen.result
    (g.S.Sets.content c.args.sets.now) c.args.cpus.now
    (ap length c.of-seen.ensures ∙ length-seen c.args.memory.now c.deref.result.now) c.requires.parts

pub lay_over-requires-clause-storable : goal.lay_over-requires-clause-storable
lay_over-requires-clause-storable g c =
    subst (All (IsStorable (length c.args.memory.now))) (sym c.deref-in-Goes.ensures.value) c.requires.storable

pub step_parts-outcome-requires-clause-parts : goal.step_parts-outcome-requires-clause-parts
step_parts-outcome-requires-clause-parts g c =
    parts_like c.args.listing.now.code.bytes.now c.args.listing.now.code.base c.args.memory.now c.lay_over.new.memory
    (g.S.Sets.content c.args.sets.now) c.args.cpus.now c.lay_over.auto.memory c.requires.parts

pub returns-in-Goes-clause-step : goal.returns-in-Goes-clause-step
returns-in-Goes-clause-step g c =
    let a : Content = g.S.Sets.content c.args.sets.now in
    let code : List ℕ = c.args.listing.now.code.bytes.now in
    let base : ℕ = c.args.listing.now.code.base in
    let m : List ℕ = c.args.memory.now in
    let n : List ℕ = c.lay_over.new.memory in
    let cpus : List Cpu = c.args.cpus.now in
    let p : Pending = c.args.pending.now.items in
    let under : Pending = c.lay_over.new.under.items in
    let laid : n ≡ seen_memory m p = c.lay_over.ensures.seen ∙ ap (seen_memory m) c.deref-in-Goes.ensures.value in
    let seen : c.of-seen.result ≡ n = c.of-seen.ensures ∙ ap (seen_memory m) c.deref.ensures.value ∙ sym laid in
    steps_there code base c.args.most m a (g.S.Sets.content c.step_parts-outcome.new.sets) cpus
    c.step_parts-outcome.new.cpus p c.args.c c.requires.parts c.requires.exists n c.step_parts-outcome.new.memory
    c.take_off.new.memory under c.step_parts-outcome.result laid
    (subst (λ (l : List ℕ). IsAhead (setting_with code base (length l) a c.args.most) l p (cpu_views a cpus c.args.c)
    (cpu_at cpus c.args.c).state ahead.Goes) seen
    (subst (λ q. IsAhead (setting_with code base (length c.of-seen.result) a c.args.most) c.of-seen.result q
    (cpu_views a cpus c.args.c) (cpu_at cpus c.args.c).state ahead.Goes) c.deref-2.ensures.value c.in-Goes.ensures))
    c.step_parts-outcome.ensures c.lay_over.ensures.back
    (c.lay_over.ensures.count ∙ ap length c.deref-in-Goes.ensures.value)
    (c.take_off.ensures
    ∙ ap (λ (u : Pending). seen_memory c.step_parts-outcome.new.memory (reverse u)) c.deref-in-Goes-2.ensures.value)

-- ---- its store is pending now

pub pend-requires : goal.pend-requires
pend-requires g c =
    let a : Content = g.S.Sets.content c.args.sets.now in
    let size : ℕ = length c.of-seen.result in
    let same : size ≡ length c.args.memory.now =
    ap length c.of-seen.ensures ∙ length-seen c.args.memory.now c.deref.result.now in
    let will = c.in-Stores.ensures in
    record {
      core = record {
        exists = c.requires.exists;
        few = c.requires.parts.few;
        known = c.requires.parts.known;
      };
      access = load_lines size a.fixed.line_count c.in-Stores.step.access will.within
          (subst (λ z. z ≤ a.fixed.line_count * 64) (sym same) c.requires.parts.within)
          (subst (λ z. z < 2 ^ 32) (sym same) c.requires.parts.small);
      room = omega (arith, will.room, c.requires.room, ap length c.deref-2.ensures.value);
    }

pub returns-in-Stores-clause-step : goal.returns-in-Stores-clause-step
returns-in-Stores-clause-step g c =
    let a : Content = g.S.Sets.content c.args.sets.now in
    let code : List ℕ = c.args.listing.now.code.bytes.now in
    let base : ℕ = c.args.listing.now.code.base in
    let m : List ℕ = c.args.memory.now in
    let n : List ℕ = c.of-seen.result in
    let cpus : List Cpu = c.args.cpus.now in
    let p : Pending = c.args.pending.now.items in
    steps_with_store code base c.args.most m a (g.S.Sets.content c.pend.new.sets) cpus c.pend.new.cpus p c.args.c
    c.requires.parts c.requires.exists n c.in-Stores.step c.pend.new.pending.items
    (c.of-seen.ensures ∙ ap (seen_memory m) c.deref.ensures.value) c.requires.some
    (subst (λ q. IsAhead (setting_with code base (length n) a c.args.most) n q (cpu_views a cpus c.args.c)
    (cpu_at cpus c.args.c).state (ahead.Stores c.in-Stores.step)) c.deref-2.ensures.value c.in-Stores.ensures)
    c.pend.ensures.hits c.pend.ensures.pending

pub returns-in-Stores-clause-storable : goal.returns-in-Stores-clause-storable
returns-in-Stores-clause-storable g c =
    let m : List ℕ = c.args.memory.now in
    let same : length c.of-seen.result ≡ length m =
    ap length c.of-seen.ensures ∙ length-seen m c.deref.result.now in
    subst (All (IsStorable (length m))) (sym c.pend.ensures.pending)
    (All-push (IsStorable (length m)) c.args.pending.now.items c.in-Stores.step.store c.requires.storable
    (subst (λ z. IsStorable z c.in-Stores.step.store) same c.in-Stores.ensures.storable))

pub returns-in-Stores-clause-few : goal.returns-in-Stores-clause-few
returns-in-Stores-clause-few g c =
    let count = ap length c.pend.ensures.pending ∙ length_push c.args.pending.now.items c.in-Stores.step.store in
    omega (arith, count, c.in-Stores.ensures.room, ap length c.deref-2.ensures.value)

-- ---- a drain in its place

pub drain_oldest-requires : goal.drain_oldest-requires
drain_oldest-requires g c =
    let a : Content = g.S.Sets.content c.args.sets.now in
    let n : List ℕ = c.of-seen.result in
    let cpus : List Cpu = c.args.cpus.now in
    record {
      core = record {
        exists = c.requires.exists;
        few = c.requires.parts.few;
        known = c.requires.parts.known;
      };
      small = c.requires.parts.small;
      within = c.requires.parts.within;
      some = subst (λ (q : Pending). 0 < length q) c.deref-2.ensures.value
          (foreseen_waits
          (setting_with c.args.listing.now.code.bytes.now c.args.listing.now.code.base (length n) a c.args.most) n
          c.deref-2.result.now (cpu_views a cpus c.args.c) (cpu_at cpus c.args.c).state c.in-Waits._wait
          c.in-Waits.ensures);
      storable = c.requires.storable;
    }

pub returns-in-Waits-clause-step : goal.returns-in-Waits-clause-step
returns-in-Waits-clause-step g c =
    let a : Content = g.S.Sets.content c.args.sets.now in
    let code : List ℕ = c.args.listing.now.code.bytes.now in
    let base : ℕ = c.args.listing.now.code.base in
    let m : List ℕ = c.args.memory.now in
    let n : List ℕ = c.of-seen.result in
    let cpus : List Cpu = c.args.cpus.now in
    let p : Pending = c.args.pending.now.items in
    waits_and_drains code base c.args.most m a (g.S.Sets.content c.drain_oldest.new.sets) cpus
    c.drain_oldest.new.cpus p c.args.c c.requires.parts c.requires.exists n c.drain_oldest.new.memory
    c.drain_oldest.new.pending.items c.in-Waits._wait (c.of-seen.ensures ∙ ap (seen_memory m) c.deref.ensures.value)
    (subst (λ q. IsAhead (setting_with code base (length n) a c.args.most) n q (cpu_views a cpus c.args.c)
    (cpu_at cpus c.args.c).state (ahead.Waits c.in-Waits._wait)) c.deref-2.ensures.value c.in-Waits.ensures)
    c.drain_oldest.ensures.drains

pub returns-in-Waits-clause-storable : goal.returns-in-Waits-clause-storable
returns-in-Waits-clause-storable g c =
    let m : List ℕ = c.args.memory.now in
    subst (λ z. All (IsStorable z) c.drain_oldest.new.pending.items) (sym c.drain_oldest.auto.memory)
    (others_storable (length m) c.args.pending.now.items c.drain_oldest.new.pending.items
    c.drain_oldest.ensures.drains.oldest c.drain_oldest.ensures.drains.was c.requires.storable)

pub returns-in-Waits-clause-few : goal.returns-in-Waits-clause-few
returns-in-Waits-clause-few g c =
    let count : length c.args.pending.now.items ≡ suc (length c.drain_oldest.new.pending.items) =
    ap length c.drain_oldest.ensures.drains.was in
    omega (arith, count, c.requires.few)
