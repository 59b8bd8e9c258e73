-- What the tests of the loader leave.
use Rattle.std.proofs.Common.{◌≡◌, ℕ, ◌+◌, ◌*◌, ◌%◌, ◌<◌, ◌≤◌, Bool, true, false, ◌||◌, refl, List, [], ◌∷◌, length}
use Rattle.std.proofs.Common.{Option, Some, None, arith}
use Rattle.std.specs.Prelude.{All, cond, nat_lt, ◌==◌}
use Rattle.std.specs.List.{list_any}
use Rattle.std.proofs.lemmas.Bool.Decides.{nat_tests}
use Rattle.std.proofs.lemmas.List.Elements.{All-nil, All-cons}
use Rattle.ia_image.specs.Program.{IsSound}
use Rattle.ia_image.specs.Load.{load_refusal, bad_cores, bad_memory_size, outside_code}

passes : {A : Type 0} (x : A) (rest : Option A) (b : Bool) → cond b (Some x) rest ≡ None → (b ≡ false) × (rest ≡ None)
passes x rest true e = absurd (cc)
passes x rest false e = (refl, e)

neither : (a b : Bool) → (a || b) ≡ false → (a ≡ false) × (b ≡ false)
neither true b e = absurd (cc)
neither false b e = (refl, e)

inside : (base code_len e : ℕ) → outside_code base code_len e ≡ false → (base ≤ e) × (e < base + code_len)
inside base code_len e h = grind (arith, nat_tests)

all_inside : (base code_len : ℕ) (entries : List ℕ) → list_any (outside_code base code_len) entries ≡ false →
    All (λ e. (base ≤ e) × (e < base + code_len)) entries
all_inside base code_len [] h = All-nil (λ e. (base ≤ e) × (e < base + code_len))
all_inside base code_len (e ∷ es) h =
    let both = neither (outside_code base code_len e) (list_any (outside_code base code_len) es) h in
    All-cons (λ x. (base ≤ x) × (x < base + code_len)) e es (inside base code_len e both.0)
    (all_inside base code_len es both.1)

cores_right : (n : ℕ) → bad_cores n ≡ false → (0 < n) × (n ≤ 64)
cores_right n h = grind (arith, nat_tests)

size_right : (size cores : ℕ) → bad_memory_size size cores ≡ false
    → (size % 4096 ≡ 0) × (4096 * (cores + 1) ≤ size) × (size ≤ 268435456)
size_right size cores h = grind (arith, nat_tests)

some_byte : (n : ℕ) → (n == 0) ≡ false → 0 < n
some_byte n h = grind (arith, nat_tests)

not_less : (a b : ℕ) → nat_lt a b ≡ false → b ≤ a
not_less a b h = grind (arith, nat_tests)

-- an image that passes all of them is a program
pub sound : (bytes : List ℕ) (base code_len mem_size : ℕ) (entries : List ℕ)
    → load_refusal bytes base code_len mem_size entries ≡ None →
    IsSound (record { bytes = bytes; base = base; code_len = code_len; mem_size = mem_size; entries = entries })
unfolding load_refusal
sound bytes base code_len mem_size entries h =
    let h1 = passes _ _ (length bytes == 0) h in
    let h2 = passes _ _ (bad_cores (length entries)) h1.1 in
    let h3 = passes _ _ (bad_memory_size mem_size (length entries)) h2.1 in
    let h4 = passes _ _ (nat_lt mem_size (base + length bytes)) h3.1 in
    let h5 = passes _ _ (nat_lt (length bytes) code_len) h4.1 in
    let h6 = passes _ _ (list_any (outside_code base code_len) entries) h5.1 in
    let cores = cores_right (length entries) h2.0 in
    let size = size_right mem_size (length entries) h3.0 in
    record {
      not_empty = some_byte (length bytes) h1.0;
      some_core = cores.0;
      few_cores = cores.1;
      whole_pages = size.0;
      holds_stacks = size.1;
      not_large = size.2;
      fits = not_less mem_size (base + length bytes) h4.0;
      code_fits = not_less (length bytes) code_len h5.0;
      entries_in_code = all_inside base code_len entries h6.0;
    }
