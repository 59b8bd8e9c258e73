-- Rows of digits.
use Rattle.std.proofs.Common.{◌≡◌, ℕ, ◌+◌, ◌-◌, ◌/◌, ◌<◌, ◌≤◌, ◌⊎◌, inl, inr, List, [], ◌∷◌, ◌++◌, sym, ◌∙◌, ap}
use Rattle.std.proofs.Common.{append_assoc, arith, length, length-drop, drop, take, min, suc}
use Rattle.std.proofs.Math.ListN.{drop_of_length-le}
use Rattle.std.proofs.lemmas.Bool.{cases_lt}
use Rattle.std.proofs.lemmas.List.{drop-drop, take_all}
use Rattle.hex.specs.Hex.{encode_lower}
use Rattle.text_out.specs.Writing.{Device, Making}
use Rattle.text_out.proofs.Writing.{making_none, making_more}
use Rattle.ia_image.specs.ImageText.{digit_rows, header_line, image_text, rows}

-- the header stands on the page
pub text_starts : (a : Device) (page : List ℕ) (bytes : List ℕ) (base code_len : ℕ)
    → page ≡ header_line base code_len ++ 10 ∷ [] →
    Making a a page (digit_rows bytes) (image_text bytes base code_len)
unfolding image_text
text_starts a page bytes base code_len e =
    making_more page (header_line base code_len ++ 10 ∷ []) (digit_rows bytes)
    (making_none a (image_text bytes base code_len))
    (sym (append_assoc (header_line base code_len) (10 ∷ []) (digit_rows bytes))) e

-- the first row, and then the others
rows_next : (bytes : List ℕ) → 0 < length bytes
    → digit_rows bytes ≡ encode_lower (take 32 bytes) ++ 10 ∷ digit_rows (drop 32 bytes)
unfolding rows
rows_next bytes h =
    let count : (length bytes + 31) / 32 ≡ suc ((length (drop 32 bytes) + 31) / 32) =
    omega (arith, length-drop 32 bytes) in
    ap (λ n. rows n bytes) count

pub rows_end : (bytes : List ℕ) (place : ℕ) → length bytes ≤ place → digit_rows (drop place bytes) ≡ []
unfolding rows
rows_end bytes place h = ap digit_rows (drop_of_length-le bytes h)

same_front : (d : List ℕ) (count : ℕ) → count ≡ min 32 (length d)
    → (take 32 d ≡ take count d) × (drop 32 d ≡ drop count d)
same_front d count e = by_size (cases_lt (length d) 32)
  where
    by_size : (length d < 32) ⊎ (32 ≤ length d) → (take 32 d ≡ take count d) × (drop 32 d ≡ drop count d)
    by_size (inl less) =
        let all : length d ≤ count = omega arith in
        let most : length d ≤ 32 = omega arith in
        (take_all 32 d most ∙ sym (take_all count d all), drop_of_length-le d most ∙ sym (drop_of_length-le d all))
    by_size (inr enough) =
        let same : 32 ≡ count = omega arith in
        (ap (λ n. take n d) same, ap (λ n. drop n d) same)

-- the same at a place, in the words of the loop
pub rows_step : (bytes : List ℕ) (place count : ℕ) → place < length bytes → count ≡ min 32 (length bytes - place) →
    digit_rows (drop place bytes)
    ≡ (encode_lower (take (place + count - place) (drop place bytes)) ++ 10 ∷ [])
    ++ digit_rows (drop (place + count) bytes)
rows_step bytes place count inside e =
    let d = drop place bytes in
    let long : length d ≡ length bytes - place = length-drop place bytes in
    let some : 0 < length d = omega arith in
    let front = same_front d count (omega arith) in
    let taken : place + count - place ≡ count = omega arith in
    rows_next d some
    ∙ sym (append_assoc (encode_lower (take 32 d)) (10 ∷ []) (digit_rows (drop 32 d)))
    ∙ ap (λ l. (encode_lower l ++ 10 ∷ []) ++ digit_rows (drop 32 d)) (front.0 ∙ ap (λ n. take n d) (sym taken))
    ∙ ap (λ l. (encode_lower (take (place + count - place) d) ++ 10 ∷ []) ++ digit_rows l)
    (front.1 ∙ drop-drop count place bytes)
