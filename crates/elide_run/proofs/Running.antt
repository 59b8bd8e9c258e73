-- The lines of the cores that have not stopped, one core after another.
use Rattle.std.proofs.Common.{◌≡◌, ◌∙◌, ℕ, ◌+◌, Bool, true, false, List, [], ◌∷◌, ◌++◌, ◌&&◌, sym, ap, subst}
use Rattle.std.proofs.Common.{append-nil, refl, zero-add, map-id, if◌then◌else◌}
use Rattle.std.proofs.lemmas.List.Concat.{flat_map-append}
use Rattle.std.proofs.lemmas.List.Folds.{list_all-append}
use Rattle.std.proofs.lemmas.List.FromFn.{map-range_with_len_more}
use Rattle.std.specs.List.{flat_map, list_all, range_with_len}
use Rattle.text_out.proofs.Writing.{wrote_then}
use Rattle.text_out.specs.Writing.{Device, Wrote}
use Rattle.tm_core.specs.Theorem.{ShownMachine as Machine, view_at}
use Rattle.elide_run.specs.Halting.{is_stopped, running_line, running_text}
use Rattle.elide_run.specs.declared.halting.Ending.{Ending}
use Rattle.elide_run.specs.declared.halting.Ending.TheVariants.{AsAsked, RunsOn}

-- of so many first cores the lines were written, and the ending says whether there is one
pub record HaveTold (machine : Machine) (count : ℕ) (ending : Ending) (before after : Device) : Type 0 where
  pub came_to : ending ≡ (if list_all (is_stopped machine) (range_with_len 0 count) then AsAsked else RunsOn)
  pub wrote : Wrote before after (flat_map (running_text machine) (range_with_len 0 count))

numbers_more : (count : ℕ) → range_with_len 0 (count + 1) ≡ range_with_len 0 count ++ count ∷ []
numbers_more count =
    sym (map-id (range_with_len 0 (count + 1)))
    ∙ map-range_with_len_more (λ number. number) 0 count count (zero-add count)
    ∙ ap (λ numbers. numbers ++ count ∷ []) (map-id (range_with_len 0 count))

and_last : (all last : Bool) → (all && (last && true)) ≡ (if last then all else false)
and_last true true = refl
and_last true false = refl
and_last false true = refl
and_last false false = refl

-- with one number more
all_more : (p : ℕ → Bool) (count : ℕ) (last : Bool) → p count ≡ last
    → list_all p (range_with_len 0 (count + 1)) ≡ (if last then list_all p (range_with_len 0 count) else false)
all_more p count last e =
    ap (list_all p) (numbers_more count) ∙ list_all-append p (range_with_len 0 count) (count ∷ [])
    ∙ ap (λ b. list_all p (range_with_len 0 count) && (b && true)) e
    ∙ and_last (list_all p (range_with_len 0 count)) last

text_more : (f : ℕ → List ℕ) (count : ℕ) (last : List ℕ) → f count ≡ last
    → flat_map f (range_with_len 0 (count + 1)) ≡ flat_map f (range_with_len 0 count) ++ last
text_more f count last e =
    ap (flat_map f) (numbers_more count) ∙ flat_map-append f (range_with_len 0 count) (count ∷ [])
    ∙ ap (λ l. flat_map f (range_with_len 0 count) ++ l) (append-nil (f count) ∙ e)

-- the next core has stopped
pub told_stopped : (machine : Machine) (count : ℕ) (ending : Ending) (a b : Device) →
    HaveTold machine count ending a b → is_stopped machine count ≡ true → HaveTold machine (count + 1) ending a b
told_stopped machine count ending a b h e =
    let P : List ℕ → Type 0 = λ text. Wrote a b text in
    let text = flat_map (running_text machine) (range_with_len 0 count) in
    record {
      came_to = h.came_to ∙ ap (λ b. if b then AsAsked else RunsOn) (sym (all_more (is_stopped machine) count true e));
      wrote = subst P (sym (text_more (running_text machine) count [] (ap (λ b. if b then []
          else running_line count (view_at machine count).regs.eip) e) ∙ append-nil text)) h.wrote;
    }

-- it has not, and its line was written
pub told_running : (machine : Machine) (count : ℕ) (ending : Ending) (a b c : Device) →
    HaveTold machine count ending a b → is_stopped machine count ≡ false
    → Wrote b c (running_line count (view_at machine count).regs.eip) →
    HaveTold machine (count + 1) RunsOn a c
told_running machine count ending a b c h e k =
    let P : List ℕ → Type 0 = λ text. Wrote a c text in
    let line = running_line count (view_at machine count).regs.eip in
    record {
      came_to = ap (λ b. if b then AsAsked else RunsOn) (sym (all_more (is_stopped machine) count false e));
      wrote = subst P (sym (text_more (running_text machine) count line (ap (λ b. if b then [] else line) e)))
          (wrote_then h.wrote k);
    }
