-- Names that have a naming.
use Rattle.std.proofs.Common.{◌≡◌, ℕ, suc, zero, ◌+◌, ◌<◌, ◌≤◌, Bool, true, false, List, [], ◌∷◌, refl, sym, ◌∙◌, ap}
use Rattle.std.proofs.Common.{length, get_or, arith}
use Rattle.std.proofs.Props.{props}
use Rattle.std.proofs.Math.Logic.{∥∥₁_elim}
use Rattle.std.proofs.lemmas.List.{length-replicate}
use Rattle.std.specs.Prelude.{nat_lt, replicate}
use Rattle.ia_item.specs.declared.symbol.Symbol.{Symbol}
use Rattle.ia_names.specs.declared.names.Names.{Names}
use Rattle.ia_names.specs.Tries.{wholes}
use Rattle.ia_names.specs.Namings.{Naming, IsOneToOne, IsNaming, IsNamed, Grows, total_length, naming_of}

-- ---- names that grow

pub grows_all : (a : Names) → Grows a a
grows_all a i h = (h, refl)

pub grows_more : (a b c : Names) → Grows a b → Grows b c → Grows a c
grows_more a b c f g i h =
    let x = f i h in
    let y = g i x.0 in
    (y.0, y.1 ∙ x.1)

pub named_more : (a b : Names) (s : Symbol) (w : List ℕ) → Grows a b → IsNamed a s w → IsNamed b s w
named_more a b s w f n = let x = f s.number n.0 in (x.0, x.1 ∙ n.1)

-- a naming of more names is one of the names before
pub naming_less : (naming : Naming) (a b : Names) → Grows a b → IsNaming naming b → IsNaming naming a
naming_less naming a b f n = record {
  one_to_one = n.one_to_one;
  named = λ i h. let x = f i h in n.named i x.0 ∙ x.1;
}

pub naming_is : (naming : Naming) (names : Names) (s : Symbol) (w : List ℕ) → IsNaming naming names → IsNamed names s w
    → naming s.number ≡ w
naming_is naming names s w n k = n.named s.number k.0 ∙ k.1

-- ---- there is one

below_total : (ws : List (List ℕ)) (i : ℕ) → i < length ws → length (get_or ws i []) ≤ total_length ws
below_total [] i h = absurd (omega arith)
below_total (w ∷ ws) zero h = omega arith
below_total (w ∷ ws) (suc i) h = let more = below_total ws i (omega arith) in omega (arith, more)

inside : (names : Names) (i : ℕ) → i < length (wholes names.nodes.keys)
    → naming_of names i ≡ get_or (wholes names.nodes.keys) i []
unfolding naming_of
inside names i h = let t : nat_lt i (length (wholes names.nodes.keys)) ≡ true = grind arith in rw t refl

outside : (names : Names) (i : ℕ) → length (wholes names.nodes.keys) ≤ i
    → naming_of names i ≡ replicate (1 + total_length (wholes names.nodes.keys) + i) 0
unfolding naming_of
outside names i h = let t : nat_lt i (length (wholes names.nodes.keys)) ≡ false = grind arith in rw t refl

one_to_one : (names : Names) → IsOneToOne (naming_of names)
one_to_one names i j e = by (nat_lt i n) (nat_lt j n) refl refl
  where
    ws : List (List ℕ)
    ws = wholes names.nodes.keys

    n : ℕ
    n = length ws

    long : (k : ℕ) → length {A = ℕ} (replicate (1 + total_length ws + k) 0) ≡ 1 + total_length ws + k
    long k = length-replicate (1 + total_length ws + k) 0

    low : (k : ℕ) → nat_lt k n ≡ true → k < n
    low k t = grind (arith, t)

    high : (k : ℕ) → nat_lt k n ≡ false → n ≤ k
    high k t = grind (arith, t)

    mixed : (a b : ℕ) → a < n → n ≤ b → naming_of names a ≡ naming_of names b → ⊥
    mixed a b h g f =
        let same : get_or ws a [] ≡ replicate (1 + total_length ws + b) 0 =
        sym (inside names a h) ∙ f ∙ outside names b g in
        let lengths : length (get_or ws a []) ≡ 1 + total_length ws + b = ap (length {A = ℕ}) same ∙ long b in
        let short = below_total ws a h in
        absurd (omega (arith, lengths, short))

    same_rest : (m : ℕ) → m + i ≡ m + j → i ≡ j
    same_rest m h = omega (arith, h)

    by : (s t : Bool) → nat_lt i n ≡ s → nat_lt j n ≡ t → i ≡ j
    by true true a b = ∥∥₁_elim names.tree (hlevel props)
        (λ tree. tree.distinct i j (low i a) (low j b) (sym (inside names i (low i a)) ∙ e ∙ inside names j (low j b)))
    by true false a b = absurd (mixed i j (low i a) (high j b) e)
    by false true a b = absurd (mixed j i (low j b) (high i a) (sym e))
    by false false a b =
        let same : replicate (1 + total_length ws + i) 0 ≡ replicate (1 + total_length ws + j) 0 =
        sym (outside names i (high i a)) ∙ e ∙ outside names j (high j b) in
        let lengths : 1 + total_length ws + i ≡ 1 + total_length ws + j =
        sym (long i) ∙ ap (length {A = ℕ}) same ∙ long j in
        same_rest (1 + total_length ws) lengths

pub is_naming : (names : Names) → IsNaming (naming_of names) names
is_naming names = record { one_to_one = one_to_one names; named = inside names }
