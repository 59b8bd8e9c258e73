-- Four bytes on one line, written or read at once.
use Rattle.std.proofs.Common.{◌≡◌, ℕ, ◌+◌, ◌*◌, ◌/◌, ◌%◌, ◌^◌, ◌<◌, ◌≤◌, List, length, get_or, set, refl, sym, ap, ◌∙◌}
use Rattle.std.proofs.Common.{subst, arith, Some, cond, ⊎_elim}
use Rattle.std.proofs.lemmas.Bool.{cases_eq, eq-eqb, ne_eqb}
use Rattle.std.proofs.lemmas.List.{set-set, get_or-set_same}
use Rattle.std.proofs.Math.ListN.{length-set}
use Rattle.std.specs.Prelude.{nat_eq}
use Rattle.std.specs.Int.RustNames.{bit_or}
use Rattle.std.specs.FinMap as bytes_map
use Rattle.tm_buffer.specs.Buffer.{place_of, Bytes}
use Rattle.tm_buffer.specs.Slots.{bytes_of}
use Rattle.tm_buffer.proofs.Kept.{bytes_written, marked}
use Rattle.tm_buffer.proofs.Bits.{marked_four}

-- a byte more, where the mask of the line was set before
more_written : (lines masks bytes : List ℕ) (m : Bytes) (mask a v k j s : ℕ) → k < length masks
    → place_of lines (a / 64) ≡ Some k → a % 64 ≡ j → k * 64 + j ≡ s → s < length bytes
    → bytes_of lines (set masks k mask) bytes ≡ m
    → bytes_of lines (set masks k (marked mask j)) (set bytes s v) ≡ bytes_map.insert m a v
more_written lines masks bytes m mask a v k j s in_masks at offset start in_bytes before =
    let own : get_or (set masks k mask) k 0 ≡ mask = get_or-set_same masks k mask 0 in_masks in
    let place : k * 64 + a % 64 ≡ s = ap (λ n. k * 64 + n) offset ∙ start in
    let wide : k < length (set masks k mask) = subst (λ n. k < n) (sym (length-set masks k mask)) in_masks in
    ap (λ ms. bytes_of lines ms (set bytes s v)) (sym (set-set masks k mask (marked mask j)))
    ∙ ap (λ n. bytes_of lines (set (set masks k mask) k (marked n j)) (set bytes s v)) (sym own)
    ∙ ap (λ n. bytes_of lines (set (set masks k mask) k (marked (get_or (set masks k mask) k 0) n)) (set bytes s v))
    (sym offset)
    ∙ ap
    (λ n. bytes_of lines (set (set masks k mask) k (marked (get_or (set masks k mask) k 0) (a % 64))) (set bytes n v))
    (sym place)
    ∙ bytes_written lines (set masks k mask) bytes a v k at wide (subst (λ n. n < length bytes) (sym place) in_bytes)
    ∙ ap (λ b. bytes_map.insert b a v) before

-- four bytes of one line
pub run_written : (lines masks bytes : List ℕ) (a k s v0 v1 v2 v3 : ℕ) → k < length masks
    → place_of lines (a / 64) ≡ Some k → (a + 3) / 64 ≡ a / 64 → k * 64 + a % 64 ≡ s → s + 3 < length bytes
    → bytes_of lines (set masks k (bit_or (get_or masks k 0) (15 * 2 ^ (a % 64) % 2 ^ 64)))
    (set (set (set (set bytes (s + 3) v3) (s + 2) v2) (s + 1) v1) s v0)
    ≡ bytes_map.insert
    (bytes_map.insert (bytes_map.insert (bytes_map.insert (bytes_of lines masks bytes) (a + 3) v3) (a + 2) v2)
    (a + 1) v1) a v0
run_written lines masks bytes a k s v0 v1 v2 v3 in_masks at one start in_bytes =
    let o : ℕ = a % 64 in
    let m0 : ℕ = get_or masks k 0 in
    let o3 : (a + 3) % 64 ≡ a % 64 + 3 = omega arith in
    let o2 : (a + 2) % 64 ≡ a % 64 + 2 = omega arith in
    let o1 : (a + 1) % 64 ≡ a % 64 + 1 = omega arith in
    let l2 : (a + 2) / 64 ≡ a / 64 = omega arith in
    let l1 : (a + 1) / 64 ≡ a / 64 = omega arith in
    let b3 : List ℕ = set bytes (s + 3) v3 in
    let b2 : List ℕ = set (set bytes (s + 3) v3) (s + 2) v2 in
    let b1 : List ℕ = set (set (set bytes (s + 3) v3) (s + 2) v2) (s + 1) v1 in
    let n3 : length (set bytes (s + 3) v3) ≡ length bytes = length-set bytes (s + 3) v3 in
    let n2 : length (set (set bytes (s + 3) v3) (s + 2) v2) ≡ length bytes =
    length-set (set bytes (s + 3) v3) (s + 2) v2 ∙ n3 in
    let n1 : length (set (set (set bytes (s + 3) v3) (s + 2) v2) (s + 1) v1) ≡ length bytes =
    length-set (set (set bytes (s + 3) v3) (s + 2) v2) (s + 1) v1 ∙ n2 in
    let at3 : place_of lines ((a + 3) / 64) ≡ Some k = ap (place_of lines) one ∙ at in
    let at2 : place_of lines ((a + 2) / 64) ≡ Some k = ap (place_of lines) l2 ∙ at in
    let at1 : place_of lines ((a + 1) / 64) ≡ Some k = ap (place_of lines) l1 ∙ at in
    ap (λ n. bytes_of lines (set masks k n) (set (set (set (set bytes (s + 3) v3) (s + 2) v2) (s + 1) v1) s v0))
    (marked_four (get_or masks k 0) (a % 64) (omega arith))
    ∙ more_written lines masks (set (set (set bytes (s + 3) v3) (s + 2) v2) (s + 1) v1) _ _ a v0 k (a % 64) s in_masks
    at refl start (omega (arith, n1))
    (more_written lines masks (set (set bytes (s + 3) v3) (s + 2) v2) _ _ (a + 1) v1 k (a % 64 + 1) (s + 1) in_masks at1
    o1 (omega arith) (omega (arith, n2))
    (more_written lines masks (set bytes (s + 3) v3) _ _ (a + 2) v2 k (a % 64 + 2) (s + 2) in_masks at2 o2 (omega arith)
    (omega (arith, n3))
    (first lines masks bytes a v3 k s in_masks at3 o3 start (omega arith))))
  where
    first : (lines masks bytes : List ℕ) (a v k s : ℕ) → k < length masks → place_of lines ((a + 3) / 64) ≡ Some k
        → (a + 3) % 64 ≡ a % 64 + 3 → k * 64 + a % 64 ≡ s → s + 3 < length bytes
        → bytes_of lines (set masks k (marked (get_or masks k 0) (a % 64 + 3))) (set bytes (s + 3) v)
        ≡ bytes_map.insert (bytes_of lines masks bytes) (a + 3) v
    first lines masks bytes a v k s in_masks at offset start in_bytes =
        let place : k * 64 + (a + 3) % 64 ≡ s + 3 = omega arith in
        ap (λ n. bytes_of lines (set masks k (marked (get_or masks k 0) n)) (set bytes (s + 3) v)) (sym offset)
        ∙ ap (λ n. bytes_of lines (set masks k (marked (get_or masks k 0) ((a + 3) % 64))) (set bytes n v)) (sym place)
        ∙ bytes_written lines masks bytes (a + 3) v k at in_masks (omega arith)

-- ---- the bytes of an access on two lines

-- a byte between the first and the last is on the line of one of them
pub between : {T : Type 0} (f : ℕ → T) (a i : ℕ) (first last : T) → i ≤ 3 → f (a / 64) ≡ first → f ((a + 3) / 64) ≡ last
    → f ((a + i) / 64) ≡ cond (nat_eq ((a + i) / 64) (a / 64)) first last
between f a i first last small p q = ⊎_elim
    (λ (e : (a + i) / 64 ≡ a / 64). ap f e ∙ p ∙ sym (ap (λ t. cond t first last) (eq-eqb ((a + i) / 64) (a / 64) e)))
    (λ (e : (a + i) / 64 ≡ a / 64 → ⊥).
    let high : (a + i) / 64 ≡ (a + 3) / 64 = omega arith in
    ap f high ∙ q ∙ sym (ap (λ t. cond t first last) (ne_eqb ((a + i) / 64) (a / 64) e)))
    (cases_eq ((a + i) / 64) (a / 64))
