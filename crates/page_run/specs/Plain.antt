-- What is written as a page's data.
use Rattle.std.specs.Prelude.{◌≡◌, ℕ, Bool, true, not, ◌==◌, List}
use Rattle.std.specs.List.{list_all}
use Rattle.text_out.specs.Writing.{Device, Wrote}

-- no `<`, which could end the element that the data stands in (HTML, 13.2.5.4)
abbrev pub is_unmarked : ℕ → Bool
is_unmarked byte = not (byte == 60)

abbrev pub ArePlain : List ℕ → Type 0
ArePlain text = list_all is_unmarked text ≡ true

-- some text without it was written
pub record WrotePlain (old new : Device) : Type 0 where
  pub text : List ℕ
  pub plain : ArePlain text
  pub wrote : Wrote old new text
