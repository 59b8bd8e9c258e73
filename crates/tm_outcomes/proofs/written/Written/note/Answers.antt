use Rattle.std.proofs.Common.{◌/◌, sym, subst}
use Rattle.std.specs.Prelude.{Contains}
use Rattle.tm_core.specs.Theorem.{machine_setting}
use Rattle.tm_model.specs.Conflicts.{addresses_drained}
use Rattle.tm_model.specs.State.{Pending}
use Rattle.tm_outcomes.proofs.Digests.{more_then}
use Rattle.tm_outcomes.proofs.Noted.{both_noted}
use Rattle.tm_outcomes.proofs.written.Written.note.Goals as goal

pub returns-clause-grown : goal.returns-clause-grown
returns-clause-grown c =
    more_then c.args.self.now.lines.items c.add_drained.new.self.lines.items c.add_made.new.self.lines.items
    c.in_ok-add_drained.ensures.grown c.in_ok-add_made.ensures.grown

pub returns-clause-noted : goal.returns-clause-noted
returns-clause-noted c = λ now stands.
    both_noted (machine_setting c.args.machine.now) c.add_made.new.self.lines.items now c.args.core
    (λ address among. c.in_ok-add_made.ensures.keeps.kept (address / 64)
    (c.in_ok-add_drained.ensures.all address
    (subst (λ (q : Pending). Contains (addresses_drained q) address)
    (sym (stands.same_pending c.args.core c.requires)) among)))
    (λ none. c.in_ok-add_made.ensures.noted now stands none)
