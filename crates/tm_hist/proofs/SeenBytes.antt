-- A byte of memory as a core sees it.
use Rattle.std.proofs.Common.{◌≡◌, ℕ, zero, suc, ◌+◌, ◌<◌, ◌≤◌, ◌⊎◌, inl, inr, ⊎_elim, List, [], ◌∷◌, ◌++◌, length}
use Rattle.std.proofs.Common.{Some, get_or, refl, ap, ◌∙◌, arith, take}
use Rattle.std.proofs.lemmas.List.{get_or-set_same, get_or-set_other, take_more}
use Rattle.ia_word.specs.Operand.{placed_bytes}
use Rattle.tm_model.specs.Access.{memory_after, stores_of}
use Rattle.tm_model.specs.State.{Pending, seen_memory, with_store}
use Rattle.tm_model.specs.Types.{Store}
use Rattle.tm_whole.proofs.Stored.{length-memory_after}

-- a store leaves the rest of memory
pub byte_outside : (m : List ℕ) (bs : List ℕ) (a q : ℕ) → (q < a) ⊎ (a + length bs ≤ q) →
    get_or (memory_after m (placed_bytes a bs)) q 0 ≡ get_or m q 0
byte_outside m [] a q h = refl
byte_outside m (b ∷ bs) a q h =
    get_or-set_other (memory_after m (placed_bytes (a + 1) bs)) a q b 0
    (⊎_elim (λ (l : q < a) e. absurd (omega arith)) (λ (l : a + suc (length bs) ≤ q) e. absurd (omega arith)) h)
    ∙ byte_outside m bs (a + 1) q (⊎_elim (λ (l : q < a). inl (omega arith))
    (λ (l : a + suc (length bs) ≤ q). inr (omega arith)) h)

-- and there are its bytes
pub byte_inside : (m : List ℕ) (bs : List ℕ) (a i q : ℕ) → q ≡ a + i → i < length bs → a + length bs ≤ length m →
    get_or (memory_after m (placed_bytes a bs)) q 0 ≡ get_or bs i 0
byte_inside m [] a i q at within fits = absurd (omega arith)
byte_inside m (b ∷ bs) a zero q at within fits =
    let rest : List ℕ = memory_after m (placed_bytes (a + 1) bs) in
    let long : length rest ≡ length m = length-memory_after m (placed_bytes (a + 1) bs) in
    let here : q ≡ a = omega arith in
    ap (λ x. get_or (memory_after m (placed_bytes a (b ∷ bs))) x 0) here ∙ get_or-set_same rest a b 0 (omega arith)
byte_inside m (b ∷ bs) a (suc i) q at within fits =
    get_or-set_other (memory_after m (placed_bytes (a + 1) bs)) a q b 0 (λ e. absurd (omega arith))
    ∙ byte_inside m bs (a + 1) i q (omega arith) (omega arith) (omega arith)

-- one store more
pub seen_more : (m : List ℕ) (p : Pending) (store : Store) →
    seen_memory m (p ++ store ∷ []) ≡ with_store (seen_memory m p) store
seen_more m [] store = refl
seen_more m (oldest ∷ younger) store = seen_more (with_store m oldest) younger store

pub seen_next : (m : List ℕ) (p : Pending) (i : ℕ) (store : Store) → i < length p →
    seen_memory m (take (i + 1) p) ≡ with_store (seen_memory m (take i p)) (get_or p i store)
seen_next m p i store below =
    ap (seen_memory m) (take_more p i store below) ∙ seen_more m (take i p) (get_or p i store)

pub length-seen : (m : List ℕ) (p : Pending) → length (seen_memory m p) ≡ length m
length-seen m [] = refl
length-seen m (oldest ∷ younger) =
    length-seen (with_store m oldest) younger ∙ length-memory_after m (stores_of (Some oldest))
