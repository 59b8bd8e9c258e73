-- A byte of memory behind a store: one of the store's own, or the one that stood there.
use Rattle.std.proofs.Common.{◌≡◌, ℕ, suc, ◌+◌, ◌-◌, ◌<◌, ◌≤◌, true, false, eqb, List, [], ◌∷◌, length, get_or, set}
use Rattle.std.proofs.Common.{refl, sym, ap, ◌∙◌, subst, arith, inl, inr, ⊎_elim}
use Rattle.std.specs.Prelude.{◌⊎◌}
use Rattle.std.proofs.lemmas.Bool.{eqb-false, eqb-true}
use Rattle.std.proofs.lemmas.List.{get_or-set_other, get_or-set_same}
use Rattle.ia_word.specs.Operand.{operand_bytes, placed_bytes}
use Rattle.ia_word.specs.Width.{bytes_of}
use Rattle.tm_model.specs.Access.{memory_after}
use Rattle.tm_model.specs.State.{with_store}
use Rattle.tm_core.specs.Types.{B, D, Store, Width}
use Rattle.tm_core.proofs.Frame.{length-memory_after}

past_bytes : (m bs : List ℕ) (a q : ℕ) → (q < a) ⊎ (a + length bs ≤ q)
    → get_or (memory_after m (placed_bytes a bs)) q 0 ≡ get_or m q 0
past_bytes m [] a q h = refl
past_bytes m (b ∷ bs) a q h =
    get_or-set_other (memory_after m (placed_bytes (a + 1) bs)) a q b 0
    (⊎_elim (λ (l : q < a) e. absurd (omega arith)) (λ (l : a + suc (length bs) ≤ q) e. absurd (omega arith)) h)
    ∙ past_bytes m bs (a + 1) q (⊎_elim (λ (l : q < a). inl (omega arith))
    (λ (l : a + suc (length bs) ≤ q). inr (omega arith)) h)

own_byte : (m bs : List ℕ) (a q : ℕ) → a ≤ q → q < a + length bs → q < length m
    → get_or (memory_after m (placed_bytes a bs)) q 0 ≡ get_or bs (q - a) 0
own_byte m [] a q low high within = absurd (omega arith)
own_byte m (b ∷ bs) a q low high within =
    let n : List ℕ = memory_after m (placed_bytes (a + 1) bs) in
    let size : length n ≡ length m = length-memory_after m (placed_bytes (a + 1) bs) in
    (elim (eqb q a) as (λ t. eqb q a ≡ t → get_or (set n a b) q 0 ≡ get_or (b ∷ bs) (q - a) 0) [
      | true ↦ λ e.
          let same : q ≡ a = eqb-true q a e in
          let none : q - a ≡ 0 = omega arith in
          ap (λ i. get_or (set n a b) i 0) same
          ∙ get_or-set_same n a b 0 (omega (arith, size, same, within))
          ∙ sym (ap (λ i. get_or (b ∷ bs) i 0) none)
      | false ↦ λ e.
          let other : q ≡ a → ⊥ = eqb-false q a e in
          let next : q - a ≡ suc (q - (a + 1)) = omega (arith, other, low) in
          get_or-set_other n a q b 0 other
          ∙ own_byte m bs (a + 1) q (omega (arith, other, low)) (omega (arith, high)) within
          ∙ sym (ap (λ i. get_or (b ∷ bs) i 0) next)
    ]) refl

length-operand_bytes : (w : Width) (v : ℕ) → length (operand_bytes w v) ≡ bytes_of w
length-operand_bytes B v = refl
length-operand_bytes D v = refl

-- past a store
pub before_store : (m : List ℕ) (s : Store) (q byte : ℕ) → q < s.addr → byte ≡ get_or m q 0
    → byte ≡ get_or (with_store m s) q 0
before_store m s q byte below is = is ∙ sym (past_bytes m (operand_bytes s.width s.value) s.addr q (inl below))

pub behind_store : (m : List ℕ) (s : Store) (q byte : ℕ) → s.addr + bytes_of s.width ≤ q → byte ≡ get_or m q 0
    → byte ≡ get_or (with_store m s) q 0
behind_store m s q byte past is =
    is
    ∙ sym (past_bytes m (operand_bytes s.width s.value) s.addr q
    (inr (subst (λ n. s.addr + n ≤ q) (sym (length-operand_bytes s.width s.value)) past)))

-- in it
pub in_store : (m : List ℕ) (s : Store) (w : Width) (q : ℕ) → s.width ≡ w → s.addr ≤ q → q < s.addr + bytes_of w
    → q < length m → get_or (operand_bytes w s.value) (q - s.addr) 0 ≡ get_or (with_store m s) q 0
in_store m s w q is low high within =
    sym (ap (λ x. get_or (memory_after m (placed_bytes s.addr (operand_bytes x s.value))) q 0) is
    ∙ own_byte m (operand_bytes w s.value) s.addr q low
    (subst (λ n. q < s.addr + n) (sym (length-operand_bytes w s.value)) high) within)
