-- Which addresses the stored bytes have.
use Rattle.std.proofs.Common.{◌≡◌, ℕ, ◌+◌, ◌<◌, ◌≤◌, true, false, cond, List, [], ◌∷◌, length, sym, ap, ◌∙◌, subst}
use Rattle.std.proofs.Common.{⊎_elim, arith, Some}
use Rattle.std.proofs.lemmas.Bool.{cases_eq, ne_eqb}
use Rattle.std.proofs.Common.{Result, Ok, Err}
use Rattle.std.specs.Option.{is_some}
use Rattle.std.specs.Result.{OnOk, OnErr}
use Rattle.std.specs.Ordering.{nat_cmp}
use Rattle.std.specs.FinMap as bytes_map
use Rattle.ia_word.specs.Operand.{placed_bytes}
use Rattle.tm_buffer.specs.Buffer.{Bytes, BufferValue, Fits, with_bytes}
use Rattle.tm_buffer.proofs.Entries.{get_insert}

pub fits_empty : (size : ℕ) → Fits bytes_map.empty size
fits_empty size a there = absurd (false_true (sym (ap is_some (bytes_map.get-empty nat_cmp a)) ∙ there))
  where
    false_true : false ≡ true → ⊥
    false_true e = cc

pub fits_insert : (m : Bytes) (size a v : ℕ) → a < size → Fits m size → Fits (bytes_map.insert m a v) size
fits_insert m size a v below h q there = ⊎_elim
    (λ (e : q ≡ a). omega arith)
    (λ (e : q ≡ a → ⊥). h q
    (sym (ap is_some (get_insert m a v q ∙ ap (λ t. cond t (Some v) (bytes_map.get m q)) (ne_eqb q a e))) ∙ there))
    (cases_eq q a)

-- a store below the end of memory
pub fits_placed : (m : Bytes) (size a : ℕ) (bytes : List ℕ) → a + length bytes ≤ size → Fits m size
    → Fits (with_bytes m (placed_bytes a bytes)) size
fits_placed m size a [] end h = h
fits_placed m size a (b ∷ bs) end h = fits_insert (with_bytes m (placed_bytes (a + 1) bs)) size a b (omega arith)
    (fits_placed m size (a + 1) bs (omega arith) h)

-- a `put`, taken or not
pub fits_put : {A E : Type 0} (r : Result A E) (old new : BufferValue) (size a : ℕ) (bytes : List ℕ)
    → OnOk r (new.bytes ≡ with_bytes old.bytes (placed_bytes a bytes)) → OnErr r (new ≡ old) → a + length bytes ≤ size
    → Fits old.bytes size → Fits new.bytes size
fits_put (Ok x) old new size a bytes done refused end h =
    subst (λ m. Fits m size) (sym done) (fits_placed old.bytes size a bytes end h)
fits_put (Err e) old new size a bytes done refused end h = subst (λ b. Fits b.bytes size) (sym refused) h
