use Rattle.std.proofs.Common.{◌≡◌, List, [], ℕ, Some, ◌∙◌, sym, ap, subst, arith}
use Rattle.std.specs.FinSet as set
use Rattle.std.specs.Ordering.{nat_cmp}
use Rattle.tm_core.specs.Reopening.{IsSameElsewhere}
use Rattle.tm_core.specs.Theorem.{machine_setting, view_at}
use Rattle.tm_model.proofs.NonePending.{seen_is}
use Rattle.tm_model.specs.Shown.{view_of}
use Rattle.tm_outcomes.proofs.Noted.{makes, open_noted, stays, step_made, untouched}
use Rattle.tm_outcomes.proofs.Stored.{on_more}
use Rattle.tm_outcomes.proofs.written.Written.add_written.Goals as goal

pub returns-clause-noted : goal.returns-clause-noted
returns-clause-noted c = λ now stands left event next e.
    let machine = c.args.machine.now in
    let core = c.args.core in
    let setting = machine_setting machine in
    let lines : List ℕ = c.as_slice.result.now in
    let after : List ℕ = c.add_all.new.self.lines.items in
    let memory = now.state.memory in
    let shown : view_of setting memory (now.state.cores core) (now.doomed core) ≡ Some (view_at machine core) =
    subst (λ (seen : List ℕ). view_of setting seen (now.state.cores core) (now.doomed core)
    ≡ Some (view_at machine core)) (seen_is now.state core left) (stands.each core c.requires.core) in
    elim (step_made setting now next core event left e) [
      | stays same ↦ untouched after next.state.memory memory same
      | makes made is_made same ↦
          subst (λ m. IsSameElsewhere after m memory) (sym same)
          (on_more lines after made.0 memory c.in_ok-add_all.ensures.all
          (open_noted event setting memory (now.state.cores core) (now.doomed core) (view_at machine core) lines shown
          c.requires.open
          (ap (λ (xs : List ℕ). set.from_list {R = nat_cmp} xs) c.as_slice.ensures.value
          ∙ c.in-Ok-sets.ensures.shown) made is_made))
    ]

-- where it has stored nothing, to no line
pub returns-then-counts-eq0-clause-noted : goal.returns-then-counts-eq0-clause-noted
returns-then-counts-eq0-clause-noted c = λ now stands left event next e.
    let machine = c.args.machine.now in
    let core = c.args.core in
    let setting = machine_setting machine in
    let after : List ℕ = c.args.self.now.lines.items in
    let memory = now.state.memory in
    let shown : view_of setting memory (now.state.cores core) (now.doomed core) ≡ Some (view_at machine core) =
    subst (λ (seen : List ℕ). view_of setting seen (now.state.cores core) (now.doomed core)
    ≡ Some (view_at machine core)) (seen_is now.state core left) (stands.each core c.requires.core) in
    let no_writes : set.len (view_at machine core).writes ≡ 0 = omega (arith, c.in-Ok.ensures.writes) in
    elim (step_made setting now next core event left e) [
      | stays same ↦ untouched after next.state.memory memory same
      | makes made is_made same ↦
          subst (λ m. IsSameElsewhere after m memory) (sym same)
          (on_more [] after made.0 memory (λ line (k, below, is). absurd (omega arith))
          (open_noted event setting memory (now.state.cores core) (now.doomed core) (view_at machine core) [] shown
          c.requires.open (sym (set.empty_of_len (view_at machine core).writes no_writes)) made is_made))
    ]
