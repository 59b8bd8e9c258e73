-- Pieces that are made in memory, and written.
use Rattle.std.proofs.Common.{◌≡◌, ◌∙◌, ℕ, List, [], ◌++◌, ◌&&◌, ap, subst, sym}
use Rattle.std.proofs.lemmas.List.Folds.{list_all-append}
use Rattle.std.specs.List.{list_all}
use Rattle.std.specs.Prelude.{Err, Ok, OnOk, Result}
use Rattle.text_out.proofs.Writing.{wrote_none}
use Rattle.text_out.specs.Writing.{Device, Wrote}
use Rattle.page_run.specs.Plain.{ArePlain, is_unmarked}

pub both_plain : (x y : List ℕ) → ArePlain x → ArePlain y → ArePlain (x ++ y)
both_plain x y h k = list_all-append is_unmarked x y ∙ ap (λ t. t && list_all is_unmarked y) h ∙ k

-- a device that stayed as it was
pub same_device : (a b : Device) → b ≡ a → Wrote a b []
same_device a b e = subst (λ (d : Device). Wrote a d []) (sym e) (wrote_none a)

-- two facts of a call that answers
pub both_on_ok : {T E P Q R : Type 0} (result : Result T E) →
    OnOk result P → OnOk result Q → (P → Q → R) → OnOk result R
both_on_ok (Err fault) h k f = tt
both_on_ok (Ok value) h k f = f h k
