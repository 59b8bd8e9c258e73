use Rattle.std.proofs.Common.{◌≡◌, ◌⊎◌, inl, inr, ℕ, Bool, true, false, List, [], length, refl, sym, ap, ◌∙◌, subst}
use Rattle.std.specs.Prelude.{slice_index_or}
use Rattle.tm_core.specs.Reopening.{IsSameElsewhere}
use Rattle.tm_core.specs.Theorem.{no_regs}
use Rattle.tm_model.specs.Shown.{View, view_outside}
use Rattle.tm_model.specs.State.{Pending}
use Rattle.tm_model.specs.declared.outcome.CoreState.TheVariants.{Running}
use Rattle.tm_outcomes.proofs.Stored.{then_same, turned}
use Rattle.tm_outcomes.proofs.place.Place.copy.Goals as goal

answered : (is : Bool) → (is ≡ true) ⊎ (is ≡ false)
answered true = inl refl
answered false = inr refl

pub copy_lines-requires-clause-same : goal.copy_lines-requires-clause-same
copy_lines-requires-clause-same c = c.requires.same

pub copy_lines-requires-clause-elsewhere : goal.copy_lines-requires-clause-elsewhere
copy_lines-requires-clause-elsewhere c =
    let lines : List ℕ = c.args.written.now.lines.items in
    let opening : List ℕ = c.args.written.now.opening.items in
    let here : List ℕ = c.args.self.now.machine.memory in
    let there : List ℕ = c.args.other.now.machine.memory in
    subst (λ ls. IsSameElsewhere ls here there) (sym c.as_slice.ensures.value)
    (then_same lines here opening there c.requires.memory (turned lines there opening c.requires.others))

pub returns-clause-at : goal.returns-clause-at
returns-clause-at c = λ copied trial schedule at.
    let same = c.copy_lines.ensures.same in
    record {
      now = at.now;
      is_run = at.is_run;
      rules = same.rules ∙ (sym c.requires.same.rules ∙ at.rules);
      count = same.cores ∙ (sym c.requires.same.cores ∙ at.count);
      stands = c.copy_lines.ensures.stands copied at.now.state at.now.doomed at.stands;
    }

pub returns-clause-place : goal.returns-clause-place
returns-clause-place c = λ trial here other.
    let same = c.copy_lines.ensures.same in
    let lines : List ℕ = c.args.written.now.lines.items in
    let opening : List ℕ = c.args.written.now.opening.items in
    record {
      place = record { rules = same.rules ∙ here.place.rules; count = same.cores ∙ here.place.count };
      opening = here.opening;
      memory = elim (answered c.copy_lines.result) [
        | inl copied ↦
            subst (λ m. IsSameElsewhere lines m opening) (sym (c.copy_lines.ensures.memory copied)) other.memory
        | inr stays ↦ subst (λ m. IsSameElsewhere lines m opening)
            (sym (ap (λ m. m.memory) (c.copy_lines.ensures.none stays))) here.memory
      ];
    }

pub returns-clause-alike : goal.returns-clause-alike
returns-clause-alike c = λ copied.
    let views = c.copy_lines.ensures.views copied in
    record {
      memory = c.copy_lines.ensures.memory copied;
      count = ap (λ (vs : List View). length vs) views;
      each = λ core below. ap (λ (vs : List View). slice_index_or vs core (view_outside Running no_regs)) views;
      pending = λ core below.
          ap (λ (left : List Pending). slice_index_or left core []) (c.copy_lines.ensures.pending copied);
    }

pub returns-clause-stays : goal.returns-clause-stays
returns-clause-stays c = λ stays. ap (λ m. record { machine = m }) (c.copy_lines.ensures.none stays)
