-- What is written is read back.
use Rattle.std.proofs.Common.{◌≡◌, ℕ, zero, suc, ◌+◌, ◌*◌, ◌/◌, ◌^◌, ◌<◌, ◌≤◌, Bool, true, false, not, List, [], ◌∷◌}
use Rattle.std.proofs.Common.{◌++◌, Some, None, Ok, refl, sym, ◌∙◌, ap, append_assoc, append-nil, length, length-drop}
use Rattle.std.proofs.Common.{drop, take, arith}
use Rattle.std.specs.Prelude.{◌==◌, ◌&&◌, cond, codes, All}
use Rattle.std.proofs.Math.Seq.{drop-append_seam}
use Rattle.std.proofs.lemmas.Bool.{false≢true, eqb-true, eq-eqb}
use Rattle.std.proofs.lemmas.List.{get_or-drop, take-append-drop}
use Rattle.std.proofs.lemmas.List.Elements.{All-head, All-tail}
use Rattle.std.proofs.lemmas.List.Folds.{list_all-append}
use Rattle.std.specs.List.{list_all, starts_with}
use Rattle.hex.specs.Hex.{IsBytes, encode_lower, is_hex_digit}
use Rattle.hex.proofs.HexLemmas.{decode_of-encode_lower, decode_of-ok}
use Rattle.ia_lex.specs.Lines.{lines_of, onto}
use Rattle.text_out.specs.Number.{hex_digits}
use Rattle.ia_image.specs.ImageText.{behind, bytes_of_line, bytes_of_lines, code_len_of, content_behind, content_of}
use Rattle.ia_image.specs.ImageText.{content_of_lines, digit_rows, header_of, image_read, image_text, is_hex}
use Rattle.ia_image.specs.ImageText.{number_in_front, numbers_of, rows}
use Rattle.ia_image.proofs.Fronts.{both}
use Rattle.ia_image.proofs.Written.{IsWritten, hex_written, number_again}

-- ---- lines

-- no end of a line
abbrev plain : ℕ → Bool
plain c = not (c == 10) && not (c == 13)

negated : (b : Bool) → not b ≡ true → b ≡ false
negated true h = absurd (cc)
negated false h = refl

line_ends : (a rest : List ℕ) → list_all plain a ≡ true → lines_of (a ++ 10 ∷ rest) ≡ a ∷ lines_of rest
line_ends [] rest h = refl
line_ends (c ∷ a) rest h =
    let parts = both (plain c) (list_all plain a) h in
    let tests = both (not (c == 10)) (not (c == 13)) parts.0 in
    rw (negated (c == 10) tests.0, negated (c == 13) tests.1) (ap (onto c) (line_ends a rest parts.1))

-- a byte that passes a test that n does not is another
other : (p : ℕ → Bool) (n c : ℕ) → p n ≡ false → p c ≡ true → not (c == n) ≡ true
other p n c h e = by_test (c == n) refl
  where
    by_test : (b : Bool) → (c == n) ≡ b → not (c == n) ≡ true
    by_test true t = absurd (false≢true (sym h ∙ ap p (sym (eqb-true c n t)) ∙ e))
    by_test false t = rw t refl

all_plain : (p : ℕ → Bool) → p 10 ≡ false → p 13 ≡ false → (xs : List ℕ) → list_all p xs ≡ true
    → list_all plain xs ≡ true
all_plain p lf cr [] h = refl
all_plain p lf cr (x ∷ xs) h =
    let parts = both (p x) (list_all p xs) h in
    rw (other p 10 x lf parts.0, other p 13 x cr parts.0) (all_plain p lf cr xs parts.1)

all_pass : (p : ℕ → Bool) (xs : List ℕ) → All (λ x. p x ≡ true) xs → list_all p xs ≡ true
all_pass p [] h = refl
all_pass p (x ∷ xs) h = rw (All-head (λ y. p y ≡ true) x xs h) (all_pass p xs (All-tail (λ y. p y ≡ true) x xs h))

encoded_plain : (xs : List ℕ) → IsBytes xs → list_all plain (encode_lower xs) ≡ true
encoded_plain xs h =
    let ok = decode_of-ok (encode_lower xs) xs (decode_of-encode_lower xs h) in
    all_plain is_hex_digit refl refl (encode_lower xs) (all_pass is_hex_digit (encode_lower xs) ok.1)

-- ---- rows

bytes_taken : (n : ℕ) (xs : List ℕ) → IsBytes xs → IsBytes (take n xs)
bytes_taken zero xs h i = omega arith
bytes_taken (suc n) [] h i = omega arith
bytes_taken (suc n) (x ∷ xs) h zero = h 0
bytes_taken (suc n) (x ∷ xs) h (suc i) = bytes_taken n xs (λ k. h (suc k)) i

bytes_dropped : (n : ℕ) (xs : List ℕ) → IsBytes xs → IsBytes (drop n xs)
bytes_dropped n xs h i = rw (get_or-drop n xs i 0) (h (n + i))

rows_again : (n number : ℕ) (bytes : List ℕ) → IsBytes bytes → length bytes ≤ 32 * n
    → bytes_of_lines number (lines_of (rows n bytes)) ≡ Ok bytes
unfolding rows
rows_again zero number [] h e = refl
rows_again zero number (b ∷ bytes) h e = absurd (omega arith)
rows_again (suc n) number bytes h e =
    let front = bytes_taken 32 bytes h in
    let more =
    rows_again n (number + 1) (drop 32 bytes) (bytes_dropped 32 bytes h) (omega (arith, length-drop 32 bytes)) in
    ap (bytes_of_lines number)
    (line_ends (encode_lower (take 32 bytes)) (rows n (drop 32 bytes)) (encoded_plain (take 32 bytes) front))
    ∙ ap (λ d. bytes_of_line d number (bytes_of_lines (number + 1) (lines_of (rows n (drop 32 bytes)))))
    (decode_of-encode_lower (take 32 bytes) front)
    ∙ ap (behind (take 32 bytes)) more
    ∙ ap Ok (take-append-drop 32 bytes)

-- ---- the first line

header_again : (base code_len : ℕ) (a b : List ℕ) → IsWritten base a → IsWritten code_len b
    → header_of (codes "image 1 " ++ (a ++ 32 ∷ b)) ≡ Some (base, code_len)
unfolding header_of
header_again base code_len a b ha hb =
    let last : number_in_front b ≡ Some (code_len, length b) =
    ap number_in_front (sym (append-nil b)) ∙ number_again code_len b [] hb refl in
    ap (numbers_of (a ++ 32 ∷ b)) (number_again base a (32 ∷ b) ha refl)
    ∙ ap (λ rest. cond (starts_with ◌==◌ rest (codes " "))
    (code_len_of base (drop 1 rest) (number_in_front (drop 1 rest))) None) (drop-append_seam a (32 ∷ b))
    ∙ ap (code_len_of base b) last
    ∙ ap (λ t. cond t (Some (base, code_len)) None) (eq-eqb (length b) (length b) refl)

grouped : (a b : List ℕ) → codes "image 1 " ++ a ++ codes " " ++ b ≡ codes "image 1 " ++ (a ++ 32 ∷ b)
grouped a b = simp append_assoc

header_plain : (a b : List ℕ) → list_all is_hex a ≡ true → list_all is_hex b ≡ true
    → list_all plain (codes "image 1 " ++ (a ++ 32 ∷ b)) ≡ true
header_plain a b ha hb =
    list_all-append plain a (32 ∷ b)
    ∙ ap (λ t. t && list_all plain (32 ∷ b)) (all_plain is_hex refl refl a ha)
    ∙ all_plain is_hex refl refl b hb

-- ---- the whole text

pub read_back : (bytes : List ℕ) (base code_len : ℕ) → IsBytes bytes → base < 2 ^ 32 → code_len < 2 ^ 32 →
    image_read (image_text bytes base code_len) ≡ Ok (record { bytes = bytes; base = base; code_len = code_len })
unfolding image_read image_text
read_back bytes base code_len h hb hc =
    let first = hex_written base hb in
    let second = hex_written code_len hc in
    let line = grouped (hex_digits base) (hex_digits code_len) in
    ap (λ l. content_of_lines (lines_of (l ++ 10 ∷ digit_rows bytes))) line
    ∙ ap content_of_lines
    (line_ends (codes "image 1 " ++ (hex_digits base ++ 32 ∷ hex_digits code_len)) (digit_rows bytes)
    (header_plain (hex_digits base) (hex_digits code_len) first.hex second.hex))
    ∙ ap (λ o. content_behind o (lines_of (digit_rows bytes)))
    (header_again base code_len (hex_digits base) (hex_digits code_len) first second)
    ∙ ap (content_of (base, code_len)) (rows_again ((length bytes + 31) / 32) 2 bytes h (omega arith))
