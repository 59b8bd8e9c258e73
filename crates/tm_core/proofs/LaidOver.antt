-- Stores laid over memory and taken off again: what stood under them, written back newest first, restores it.
use Rattle.std.proofs.Common.{◌≡◌, ℕ, zero, suc, ◌+◌, ◌<◌, List, [], ◌∷◌, ◌++◌, length, set, get_or, take, reverse}
use Rattle.std.proofs.Common.{refl, sym, ap, ◌∙◌, arith}
use Rattle.std.proofs.lemmas.List.{reverse-append, set-get_or, set-set, set_comm, take_more}
use Rattle.ia_word.specs.Operand.{operand_bytes, placed_bytes}
use Rattle.ia_word.specs.Width.{bytes_of}
use Rattle.tm_model.specs.Access.{addresses_from, addresses_of, bytes_at, memory_after}
use Rattle.tm_model.specs.State.{Pending, seen_memory, with_store}
use Rattle.tm_core.specs.Types.{B, D, Store, Width}
use Rattle.tm_model.proofs.StoreBuffer.{store_is_seen}

-- ---- bytes written over bytes

-- a byte below them changes nothing of that
after_set : (m cs : List ℕ) (p a b : ℕ) → a < p →
    memory_after (set m a b) (placed_bytes p cs) ≡ set (memory_after m (placed_bytes p cs)) a b
after_set m [] p a b below = refl
after_set m (c ∷ cs) p a b below =
    ap (λ (l : List ℕ). set l p c) (after_set m cs (p + 1) a b (omega arith))
    ∙ set_comm (memory_after m (placed_bytes (p + 1) cs)) a p b c (omega arith)

-- as many are all that is left
written_over : (m bs cs : List ℕ) (a : ℕ) → length bs ≡ length cs →
    memory_after (memory_after m (placed_bytes a bs)) (placed_bytes a cs) ≡ memory_after m (placed_bytes a cs)
written_over m [] [] a same = refl
written_over m [] (c ∷ cs) a same = absurd (omega arith)
written_over m (b ∷ bs) [] a same = absurd (omega arith)
written_over m (b ∷ bs) (c ∷ cs) a same =
    let n : List ℕ = memory_after m (placed_bytes (a + 1) bs) in
    ap (λ (l : List ℕ). set l a c) (after_set n cs (a + 1) a b (omega arith))
    ∙ set-set (memory_after n (placed_bytes (a + 1) cs)) a b c
    ∙ ap (λ (l : List ℕ). set l a c) (written_over m bs cs (a + 1) (omega arith))

-- memory's own bytes change nothing
own_bytes : (m : List ℕ) (a n : ℕ) → memory_after m (placed_bytes a (bytes_at m (addresses_from a n))) ≡ m
own_bytes m a zero = refl
own_bytes m a (suc n) = ap (λ (l : List ℕ). set l a (get_or m a 0)) (own_bytes m (a + 1) n) ∙ set-get_or m a 0

length-bytes_at : (m : List ℕ) (a n : ℕ) → length (bytes_at m (addresses_from a n)) ≡ n
length-bytes_at m a zero = refl
length-bytes_at m a (suc n) = ap suc (length-bytes_at m (a + 1) n)

length-operand_bytes : (w : Width) (v : ℕ) → length (operand_bytes w v) ≡ bytes_of w
length-operand_bytes B v = refl
length-operand_bytes D v = refl

-- what stood where a store went, as a store of it, takes the store away
written_back : (m : List ℕ) (s u : Store) → u.addr ≡ s.addr →
    operand_bytes u.width u.value ≡ bytes_at m (addresses_of s.addr s.width) → with_store (with_store m s) u ≡ m
written_back m s u at is =
    let bytes : List ℕ = bytes_at m (addresses_of s.addr s.width) in
    ap (λ a. memory_after (with_store m s) (placed_bytes a (operand_bytes u.width u.value))) at
    ∙ ap (λ (bs : List ℕ). memory_after (with_store m s) (placed_bytes s.addr bs)) is
    ∙ written_over m (operand_bytes s.width s.value) bytes s.addr
    (length-operand_bytes s.width s.value ∙ sym (length-bytes_at m s.addr (bytes_of s.width)))
    ∙ own_bytes m s.addr (bytes_of s.width)

-- ---- a store more

pub laid_more : (m : List ℕ) (stores : Pending) (i : ℕ) (s : Store) → i < length stores →
    seen_memory m (take (i + 1) stores) ≡ with_store (seen_memory m (take i stores)) (get_or stores i s)
laid_more m stores i s below =
    ap (seen_memory m) (take_more stores i s below) ∙ store_is_seen m (take i stores) (get_or stores i s)

pub back_more : (m : List ℕ) (under : Pending) (s u : Store) (first : List ℕ) → u.addr ≡ s.addr →
    operand_bytes u.width u.value ≡ bytes_at m (addresses_of s.addr s.width) →
    seen_memory m (reverse under) ≡ first → seen_memory (with_store m s) (reverse (under ++ u ∷ [])) ≡ first
back_more m under s u first at is back =
    ap (seen_memory (with_store m s)) (reverse-append under (u ∷ []))
    ∙ ap (λ n. seen_memory n (reverse under)) (written_back m s u at is)
    ∙ back

-- where a list ends
abbrev pub nothing : Store
nothing = record { addr = 0; width = B; value = 0 }
