use Rattle.std.proofs.Common.{◌≡◌, ◌<◌, ℕ, length, subst, sym}
use Rattle.tm_core.specs.declared.foretell.Touches.TheVariants.{WriteSet}
use Rattle.tm_core.specs.ExplainedViews.{AreWithin, IsTold, touched_told}
use Rattle.tm_core.specs.Representation.{AreLines}
use Rattle.tm_core.specs.Theorem.{ShownMachine, view_at}
use Rattle.tm_core.proofs.Buffered.{core_of}
use Rattle.tm_core.proofs.ExplainMachine.{machine_hit}
use Rattle.tm_core.proofs.machine.Machine.hit_by.Goals as goal

pub hit_by-requires : goal.hit_by-requires
hit_by-requires g c = record {
  exists = core_of c.self.invariant c.self.view_is c.args.preview.now.core c.requires.exists;
  other = core_of c.self.invariant c.self.view_is c.args.victim
      (subst (λ n. c.args.victim < n) c.cores.ensures.count c.if-victim-cores.false);
  within = subst (λ (s : ShownMachine). AreWithin (length s.memory) c.args.preview.now.touched) (sym c.self.view_is)
      c.requires.within;
  written = subst (λ (s : ShownMachine). c.args.preview.now.touched ≡ WriteSet →
      AreLines (view_at s c.args.preview.now.core).writes (length s.memory)) (sym c.self.view_is) c.requires.written;
}

pub returns-clause-told : goal.returns-clause-told
returns-clause-told g c apart st d stands =
    let core : ℕ = c.args.preview.now.core in
    machine_hit c.args.self.now st d stands core c.requires.exists c.args.victim
    (subst (λ n. c.args.victim < n) c.cores.ensures.count c.if-victim-cores.false) c.hit_by.result
    (subst (λ touched. IsTold touched (view_at c.args.self.now c.args.victim) c.hit_by.result) c.requires.touches
    (subst (λ (s : ShownMachine). IsTold (touched_told (view_at s core).writes c.args.preview.now.touched)
    (view_at s c.args.victim) c.hit_by.result) c.self.view_is (c.hit_by.ensures.told apart)))
