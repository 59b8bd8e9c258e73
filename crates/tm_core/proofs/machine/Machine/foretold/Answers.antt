use Rattle.std.proofs.Common.{◌≤◌, ◌∙◌, length, subst, sym}
use Rattle.std.specs.Prelude.{All}
use Rattle.tm_core.specs.Buffered.{setting_at}
use Rattle.tm_core.specs.Previewed.{IsForetold}
use Rattle.tm_core.specs.StoreBuffers.{IsStorable}
use Rattle.tm_core.specs.Theorem.{ShownMachine, machine_setting, pending_at, view_at}
use Rattle.tm_core.proofs.Buffered.{core_of}
use Rattle.tm_core.proofs.ExplainMachine.{machine_reach, machine_reason}
use Rattle.tm_core.proofs.machine.Machine.foretold.Goals as goal

pub foretold-requires : goal.foretold-requires
foretold-requires g c = record {
  exists = core_of c.self.invariant c.self.view_is c.args.core c.requires;
  storable = subst (λ (s : ShownMachine). All (IsStorable (length s.memory)) c.pending_of.result.now)
      (sym c.self.view_is) c.pending_of.ensures.storable;
  few = subst (λ (s : ShownMachine). length c.pending_of.result.now ≤ s.store_buffer) (sym c.self.view_is)
      c.pending_of.ensures.few;
}

pub returns-clause-touches : goal.returns-clause-touches
returns-clause-touches g c =
    (subst (λ (s : ShownMachine). IsForetold (machine_setting s) s.memory (pending_at c.args.self.now c.args.core)
    (view_at s c.args.core) c.foretold.result) c.self.view_is
    (subst (λ p. IsForetold (setting_at c.self.inside.unbuffered c.self.inside.most) c.self.inside.unbuffered.memory p
    (view_at c.self.inside.unbuffered c.args.core) c.foretold.result) c.pending_of.ensures.shown
    c.foretold.ensures)).touches

pub returns-clause-within : goal.returns-clause-within
returns-clause-within g c =
    (subst (λ (s : ShownMachine). IsForetold (machine_setting s) s.memory (pending_at c.args.self.now c.args.core)
    (view_at s c.args.core) c.foretold.result) c.self.view_is
    (subst (λ p. IsForetold (setting_at c.self.inside.unbuffered c.self.inside.most) c.self.inside.unbuffered.memory p
    (view_at c.self.inside.unbuffered c.args.core) c.foretold.result) c.pending_of.ensures.shown
    c.foretold.ensures)).within

pub returns-clause-written : goal.returns-clause-written
returns-clause-written g c =
    (subst (λ (s : ShownMachine). IsForetold (machine_setting s) s.memory (pending_at c.args.self.now c.args.core)
    (view_at s c.args.core) c.foretold.result) c.self.view_is
    (subst (λ p. IsForetold (setting_at c.self.inside.unbuffered c.self.inside.most) c.self.inside.unbuffered.memory p
    (view_at c.self.inside.unbuffered c.args.core) c.foretold.result) c.pending_of.ensures.shown
    c.foretold.ensures)).written

pub returns-clause-reason : goal.returns-clause-reason
returns-clause-reason g c st d stands =
    (subst (λ (s : ShownMachine). IsForetold (machine_setting s) s.memory (pending_at c.args.self.now c.args.core)
    (view_at s c.args.core) c.foretold.result) c.self.view_is
    (subst (λ p. IsForetold (setting_at c.self.inside.unbuffered c.self.inside.most) c.self.inside.unbuffered.memory p
    (view_at c.self.inside.unbuffered c.args.core) c.foretold.result) c.pending_of.ensures.shown
    c.foretold.ensures)).reason
    ∙ machine_reason c.args.self.now st d stands c.args.core c.requires

pub returns-clause-reach : goal.returns-clause-reach
returns-clause-reach g c st d stands =
    machine_reach c.args.self.now st d stands c.args.core c.requires c.foretold.result.reach
    (subst (λ (s : ShownMachine). IsForetold (machine_setting s) s.memory (pending_at c.args.self.now c.args.core)
    (view_at s c.args.core) c.foretold.result) c.self.view_is
    (subst (λ p. IsForetold (setting_at c.self.inside.unbuffered c.self.inside.most) c.self.inside.unbuffered.memory p
    (view_at c.self.inside.unbuffered c.args.core) c.foretold.result) c.pending_of.ensures.shown
    c.foretold.ensures)).reach
