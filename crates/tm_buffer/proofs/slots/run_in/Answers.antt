use Rattle.std.proofs.Common.{◌≡◌, ◌<◌, ◌+◌, ◌*◌, ◌^◌, ◌/◌, ℕ, List, [], ◌∷◌, cond, get_or, sym, ap, ◌∙◌, ⊎_elim, arith}
use Rattle.std.proofs.Common.{Some, None}
use Rattle.std.proofs.lemmas.Bool.{cases_eq, eq-eqb}
use Rattle.std.specs.Int.{bit_at}
use Rattle.std.specs.Int.RustNames.{bit_and}
use Rattle.tm_buffer.specs.Slots.{slot_byte}
use Rattle.tm_buffer.proofs.Bits.{four_set}
use Rattle.tm_buffer.proofs.slots.run_in.Goals as goal

-- four bytes of a list, one after the other
four_bytes : (xs : List ℕ) (s k : ℕ) → k < 4
    → get_or xs (s + k) 0
    ≡ get_or (get_or xs s 0 ∷ get_or xs (s + 1) 0 ∷ get_or xs (s + 2) 0 ∷ get_or xs (s + 3) 0 ∷ []) k 0
four_bytes xs s k small = ⊎_elim
    (λ (e : k ≡ 0). let n : s + k ≡ s = omega arith in ap (λ i. get_or xs i 0) n ∙ sym (ap (λ i. get_or ys i 0) e))
    (λ (n0 : k ≡ 0 → ⊥). ⊎_elim
    (λ (e : k ≡ 1). ap (λ i. get_or xs (s + i) 0) e ∙ sym (ap (λ i. get_or ys i 0) e))
    (λ (n1 : k ≡ 1 → ⊥). ⊎_elim
    (λ (e : k ≡ 2). ap (λ i. get_or xs (s + i) 0) e ∙ sym (ap (λ i. get_or ys i 0) e))
    (λ (n2 : k ≡ 2 → ⊥). let e : k ≡ 3 = omega arith in
    ap (λ i. get_or xs (s + i) 0) e ∙ sym (ap (λ i. get_or ys i 0) e))
    (cases_eq k 2))
    (cases_eq k 1))
    (cases_eq k 0)
  where
    ys : List ℕ
    ys = get_or xs s 0 ∷ get_or xs (s + 1) 0 ∷ get_or xs (s + 2) 0 ∷ get_or xs (s + 3) 0 ∷ []

run_at : (masks bytes : List ℕ) (place offset k : ℕ) → bit_and (get_or masks place 0 / 2 ^ offset) 15 ≡ 15 → k < 4
    → slot_byte masks bytes (offset + k) place ≡ Some (get_or bytes (place * 64 + offset + k) 0)
run_at masks bytes place offset k all small =
    let at : place * 64 + (offset + k) ≡ place * 64 + offset + k = omega arith in
    ap (λ t. cond t (Some (get_or bytes (place * 64 + (offset + k)) 0)) None)
    (eq-eqb (bit_at (get_or masks place 0) (offset + k)) 1 (four_set (get_or masks place 0) offset all k small))
    ∙ ap (λ i. Some (get_or bytes i 0)) at

pub returns : goal.returns
returns c = λ k small.
    run_at c.args.masks.now c.args.bytes.now c.args.place c.args.offset k c.if-masks-place-ne15.false small
    ∙ ap Some (four_bytes c.args.bytes.now (c.args.place * 64 + c.args.offset) k small)
