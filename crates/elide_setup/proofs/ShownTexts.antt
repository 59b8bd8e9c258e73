-- The texts of the first part of a memory, and of the others.
use Rattle.std.proofs.Common.{◌≡◌, ◌∙◌, ℕ, ◌-◌, ◌<◌, ◌≤◌, List, [], ◌∷◌, ◌++◌, refl, ap, sym, subst, take, drop}
use Rattle.std.proofs.Common.{take_all, length, arith, Bor}
use Rattle.std.proofs.Common.{slice_index_or as get_or}
use Rattle.std.specs.Prelude.{Result}
use Rattle.elide_program.specs.declared.parts.Dump.{Dump}
use Rattle.text_out.specs.Writing.{Device, Writes}
use Rattle.elide_setup.specs.Shown.{doubleword, dump_text, dumps_text, value_line, values_text}

abbrev pub others_of : {A : Type 0} → List A → List A
others_of xs = take (length xs - 1) (drop 1 xs)

others_are : {A : Type 0} (x : A) (xs : List A) → others_of (x ∷ xs) ≡ xs
others_are x xs = take_all (length (x ∷ xs) - 1) xs (omega arith)

pub no_dump : (bytes : List ℕ) (dumps : List Dump) → length dumps < 1 → dumps_text bytes dumps ≡ []
no_dump bytes [] h = refl
no_dump bytes (d ∷ ds) h = absurd (omega (arith, h))

pub first_dump : (bytes : List ℕ) (dumps : List Dump) (e : Dump) → 1 ≤ length dumps
    → dumps_text bytes dumps ≡ dump_text bytes (get_or dumps 0 e) ++ dumps_text bytes (others_of dumps)
first_dump bytes [] e h = absurd (omega (arith, h))
first_dump bytes (d ∷ ds) e h = ap (λ l. dump_text bytes d ++ dumps_text bytes l) (sym (others_are d ds))

pub no_sum : (bytes : List ℕ) (sums : List (Bor (List ℕ))) (values : List ℕ) → length sums < 1
    → values_text bytes sums values ≡ []
no_sum bytes [] values h = refl
no_sum bytes (s ∷ ss) values h = absurd (omega (arith, h))

pub no_value : (bytes : List ℕ) (sums : List (Bor (List ℕ))) (values : List ℕ) → length values < 1
    → values_text bytes sums values ≡ []
no_value bytes [] [] h = refl
no_value bytes (s ∷ ss) [] h = refl
no_value bytes sums (v ∷ vs) h = absurd (omega (arith, h))

pub first_value : (bytes : List ℕ) (sums : List (Bor (List ℕ))) (values : List ℕ) (e : Bor (List ℕ)) → 1 ≤ length sums
    → 1 ≤ length values
    → values_text bytes sums values
    ≡ value_line (get_or sums 0 e).now (doubleword bytes (get_or values 0 0))
    ++ values_text bytes (others_of sums) (others_of values)
first_value bytes [] values e h k = absurd (omega (arith, h))
first_value bytes (s ∷ ss) [] e h k = absurd (omega (arith, k))
first_value bytes (s ∷ ss) (v ∷ vs) e h k =
    ap (λ l. value_line s.now (doubleword bytes v) ++ values_text bytes l vs) (sym (others_are s ss))
    ∙ ap (λ l. value_line s.now (doubleword bytes v) ++ values_text bytes (others_of (s ∷ ss)) l)
    (sym (others_are v vs))

-- a text that equals another was written
pub writes_same : {T E : Type 0} (a b : Device) (x y : List ℕ) (r : Result T E) → x ≡ y → Writes a b x r
    → Writes a b y r
writes_same {T} {E} a b x y r e h = subst (λ l. Writes a b l r) e h
