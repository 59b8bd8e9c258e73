use Rattle.std.proofs.Common.{◌≡◌, List, ℕ, Some, sym, subst}
use Rattle.std.specs.Prelude.{Contains}
use Rattle.tm_core.specs.Reopening.{IsSameElsewhere}
use Rattle.tm_core.specs.Theorem.{machine_setting, view_at}
use Rattle.tm_model.proofs.NonePending.{seen_is}
use Rattle.tm_model.specs.Access.{loaded_addresses}
use Rattle.tm_model.specs.Explained.{addresses_stored_at}
use Rattle.tm_model.specs.Owed.{owed_outcome}
use Rattle.tm_model.specs.Shown.{view_of}
use Rattle.tm_outcomes.proofs.Noted.{makes, reach_noted, stays, step_made, untouched}
use Rattle.tm_outcomes.proofs.Stored.{on_lines}
use Rattle.tm_outcomes.proofs.written.Written.add_reached.Goals as goal

pub returns-clause-noted : goal.returns-clause-noted
returns-clause-noted c = λ now stands left event next e.
    let machine = c.args.machine.now in
    let core = c.args.core in
    let setting = machine_setting machine in
    let after : List ℕ = c.add_access.new.self.lines.items in
    let memory = now.state.memory in
    let told : loaded_addresses c.in-Ok.preview.reach.store ≡ addresses_stored_at setting memory (now.state.cores core)
    (owed_outcome setting memory (now.state.cores core) (now.doomed core)) =
    subst (λ (seen : List ℕ). loaded_addresses c.in-Ok.preview.reach.store
    ≡ addresses_stored_at setting seen (now.state.cores core)
    (owed_outcome setting seen (now.state.cores core) (now.doomed core))) (seen_is now.state core left)
    (c.in-Ok.ensures.reach now.state now.doomed stands).stores in
    let shown : view_of setting memory (now.state.cores core) (now.doomed core) ≡ Some (view_at machine core) =
    subst (λ (seen : List ℕ). view_of setting seen (now.state.cores core) (now.doomed core)
    ≡ Some (view_at machine core)) (seen_is now.state core left) (stands.each core c.requires.core) in
    let stored : List ℕ =
    addresses_stored_at setting memory (now.state.cores core)
    (owed_outcome setting memory (now.state.cores core) (now.doomed core)) in
    elim (step_made setting now next core event left e) [
      | stays same ↦ untouched after next.state.memory memory same
      | makes made is_made same ↦
          subst (λ m. IsSameElsewhere after m memory) (sym same)
          (on_lines stored after made.0 memory
          (reach_noted event setting memory (now.state.cores core) (now.doomed core) (view_at machine core) shown
          c.requires.closed made is_made)
          (λ address among. c.in_ok-add_access.ensures.all address
          (subst (λ (xs : List ℕ). Contains xs address) (sym told) among)))
    ]
