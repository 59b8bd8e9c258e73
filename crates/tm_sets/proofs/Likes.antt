-- Plain sets that were made alike, and a core's lines in them.
use Rattle.std.proofs.Common.{◌≡◌, ◌<◌, ◌≤◌, ℕ, List, length, get_or, set, sym, ap, ◌∙◌, ⊎_elim, subst, arith}
use Rattle.std.proofs.lemmas.Bool.{cases_eq}
use Rattle.std.proofs.lemmas.List.{get_or_read, get_or-set_same, get_or-set_other, length-set}
use Rattle.tm_sets.specs.LineSet.{BoundedLines, no_line_set}
use Rattle.tm_sets.specs.Plain.{line_set_at, HaveRoom, AreWithin}

-- lines that were read at a core's index are the core's
pub lines_at : (sets : List BoundedLines) {core k : ℕ} {told : BoundedLines} → core < length sets → k ≡ core
    → told ≡ get_or sets k told
    → told ≡ line_set_at sets core
lines_at sets {core} {k} {told} below same read = get_or_read sets core told below (rw same at read) no_line_set

module _ (sets : List BoundedLines) (k : ℕ) (l : BoundedLines) (room : ℕ) where
  put : (core : ℕ) → core < length (set sets k l) → (P : BoundedLines → Type 0) → P l
      → (core < length sets → P (line_set_at sets core))
      → P (line_set_at (set sets k l) core)
  put core b P here there = ⊎_elim
      (λ (e : core ≡ k). subst P (sym (ap (line_set_at (set sets k l)) e
      ∙ get_or-set_same sets k l no_line_set (omega (arith, b, e, length-set sets k l)))) here)
      (λ (d : core ≡ k → ⊥). subst P (sym (get_or-set_other sets k core l no_line_set d))
      (there (omega (arith, b, length-set sets k l))))
      (cases_eq core k)

  pub room_stays : HaveRoom sets room → l.room ≡ room → HaveRoom (set sets k l) room
  room_stays h e core b = put core b (λ x. x.room ≡ room) e (h core)

  pub within_stays : AreWithin sets room → length l.order ≤ room → AreWithin (set sets k l) room
  within_stays h e core b = put core b (λ x. length x.order ≤ room) e (h core)
