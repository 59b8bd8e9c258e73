-- Numbers one after another.
use Rattle.std.proofs.Common.{◌≡◌, ℕ, ◌+◌, ◌<◌, List, length, get_or, sym, ◌∙◌, arith}
use Rattle.std.proofs.lemmas.List.{ext_get_or}
use Rattle.std.proofs.lemmas.List.FromFn.{get_or-range_with_len, length-range_with_len}
use Rattle.std.specs.List.{range_with_len}

pub is_range : (cores : List ℕ) (n : ℕ) → length cores ≡ n → ((k d : ℕ) → k < n → get_or cores k d ≡ k)
    → cores ≡ range_with_len 0 n
is_range cores n long each =
    ext_get_or 0 cores (range_with_len 0 n) (long ∙ sym (length-range_with_len 0 n)) (λ i below.
    let within : i < n = omega (arith, long, below) in
    let zero_more : 0 + i ≡ i = omega arith in
    each i 0 within ∙ sym (get_or-range_with_len 0 n i 0 within ∙ zero_more))
