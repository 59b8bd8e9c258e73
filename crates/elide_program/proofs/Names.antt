-- The part of a path behind its last `/`.
use Rattle.std.proofs.Common.{◌≡◌, ◌≢◌, ◌∙◌, ℕ, suc, ◌<◌, List, [], ◌∷◌, ◌++◌, ap, arith, drop, get_or, inl, inr}
use Rattle.std.proofs.Common.{length, not, refl, subst, sym, take}
use Rattle.std.proofs.lemmas.Bool.{and_from, ne_eqb}
use Rattle.std.proofs.lemmas.List.{take-append-drop}
use Rattle.std.proofs.lemmas.Str.Pattern.{NoCharPasses-char, drop_at_char}
use Rattle.std.specs.List.{list_all}
use Rattle.std.specs.Prelude.{◌==◌, Some, None}
use Rattle.std.specs.Str.Pattern.{RFindsChar}
use Rattle.elide_program.specs.Names.{IsNameOf, IsOnePart}

one_part : (text : List ℕ) → ((i : ℕ) → i < length text → get_or text i 0 ≢ 47) → IsOnePart text
one_part [] h = refl
one_part (byte ∷ bytes) h =
    and_from (not (byte == 47)) (list_all (λ byte. not (byte == 47)) bytes)
    (ap not (ne_eqb byte 47 (h 0 (omega arith))))
    (one_part bytes (λ i below. h (suc i) (omega arith)))

pub whole_name : (path : List ℕ) → RFindsChar 47 path None → IsNameOf path path
whole_name path h = (one_part path (λ i below. NoCharPasses-char 47 path i h (omega arith) below), inl refl)

pub last_name : (path name : List ℕ) (i j : ℕ) → RFindsChar 47 path (Some (i, j)) → name ≡ drop j path
    → IsNameOf path name
last_name path name i j h is =
    let one : IsOnePart (drop j path) =
    one_part (drop j path) (λ k below. NoCharPasses-char 47 (drop j path) k h.0 (omega arith) below) in
    let split : path ≡ take i path ++ 47 ∷ drop j path =
    sym (take-append-drop i path) ∙ ap (λ rest. take i path ++ rest) (drop_at_char 47 path i j h.1 (omega arith)) in
    subst (IsNameOf path) (sym is) (one, inr (take i path, split))
