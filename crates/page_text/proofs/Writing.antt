-- A text that is written character by character.
use Rattle.std.proofs.Common.{◌≡◌, ℕ, zero, suc, ◌+◌, ◌-◌, ◌<◌, ◌≤◌, List, [], ◌∷◌, ◌++◌, length, drop, take, refl, sym}
use Rattle.std.proofs.Common.{◌∙◌, ap, arith, map, length-drop, ◌/◌, ◌%◌, subst, append_assoc, inl, inr, ◌⊎◌}
use Rattle.std.specs.Prelude.{if◌then◌else◌, ◌==◌, codes, flat_map, Bool, true, false, cond, nat_lt}
use Rattle.std.specs.Char.{digit_char}
use Rattle.std.specs.Int.Digits.{AllBelowBase, digits_of}
use Rattle.std.proofs.lemmas.Bool.{cases_lt, le-ltb, lt-ltb}
use Rattle.std.proofs.lemmas.Bool.Decides.{nat_tests}
use Rattle.std.proofs.lemmas.Int.Digits.{all_below_base_digits_of}
use Rattle.std.proofs.lemmas.Grind.{flat_map-append}
use Rattle.std.proofs.lemmas.List.{drop-drop, take-append-drop}
use Rattle.std.specs.Prelude.{Result, slice_index}
use Rattle.hex.specs.Hex.{encode_lower, encode_with, lower_digits}
use Rattle.text_out.specs.Writing.{Device, Making, Writes}
use Rattle.std.proofs.Math.ListN.{drop_of_length-le}
use Rattle.bstr.specs.Utf8.{decoded, lossy_chars, or_replacement}
use Rattle.bstr.proofs.lemmas.PieceLemmas.{lossy_chars-step, lossy_chars-nil, piece-bounds}
use Rattle.text_out.specs.Number.{hex_digits}
use Rattle.text_out.proofs.Writing.{rest_is, wrote_none, writes_then}
use Rattle.page_text.specs.declared.escape.Escape.{Escape}
use Rattle.page_text.specs.declared.escape.Escape.TheVariants.{Json, Markup}
use Rattle.page_text.specs.Shown.{by_number, dots_if, shown_char, shown_chars}
use Rattle.page_text.specs.Escaped.{escaped, escaped_char, is_plain}

-- ---- a number's digits stand for themselves

plain_char : (escape : Escape) (c : ℕ) → is_plain c ≡ true → escaped_char escape c ≡ c ∷ []
unfolding escaped_char
plain_char Json c h = rw h refl
plain_char Markup c h = rw h refl

digit_is_plain : (d : ℕ) → d < 16 → is_plain (digit_char d) ≡ true
digit_is_plain d h = of (nat_lt d 10) refl where
  of : (small : Bool) → nat_lt d 10 ≡ small → is_plain (cond small (48 + d) (87 + d)) ≡ true
  of true e = grind (arith, nat_tests)
  of false e = grind (arith, nat_tests)

digits_stay : (escape : Escape) (ds : List ℕ) → AllBelowBase 16 ds
    → escaped escape (map digit_char ds) ≡ map digit_char ds
digits_stay escape [] h = refl
digits_stay escape (d ∷ ds) h =
    ap (λ t. t ++ escaped escape (map digit_char ds)) (plain_char escape (digit_char d) (digit_is_plain d h.0))
    ∙ ap (λ t. digit_char d ∷ t) (digits_stay escape ds h.1)

hex_stays : (escape : Escape) (n : ℕ) → escaped escape (hex_digits n) ≡ hex_digits n
hex_stays escape n = of (n == 0) where
  of : (zero : Bool) → let digits = if zero then codes "0" else map digit_char
      (digits_of 16 n) in escaped escape digits ≡ digits
  of true = ap (λ t. t ++ []) (plain_char escape 48 refl)
  of false = digits_stay escape (digits_of 16 n) (all_below_base_digits_of 16 n (omega arith))

pub number_is : (escape : Escape) (c : ℕ) → escaped escape (by_number c)
    ≡ escaped_char escape 92 ++ (codes "u{" ++ (hex_digits c ++ codes "}"))
number_is escape c =
    let f = escaped_char escape in
    let open_brace : escaped escape (codes "u{") ≡ codes "u{" =
    ap (λ t. t ++ (f 123 ++ [])) (plain_char escape 117 refl)
    ∙ ap (λ t. 117 ∷ (t ++ [])) (plain_char escape 123 refl) in
    let close_brace : escaped escape (codes "}") ≡ codes "}" = ap (λ t. t ++ []) (plain_char escape 125 refl) in
    ap (λ t. f 92 ++ t) (flat_map-append f (codes "u{") (hex_digits c ++ codes "}")
    ∙ ap (λ t. t ++ escaped escape (hex_digits c ++ codes "}")) open_brace
    ∙ ap (λ t. codes "u{" ++ t) (flat_map-append f (hex_digits c) (codes "}")
    ∙ ap (λ t. t ++ escaped escape (codes "}")) (hex_stays escape c) ∙ ap (λ t. hex_digits c ++ t) close_brace))

-- ---- one character after another

-- the first character of the rest
pub shown_step : (escape : Escape) (text : List ℕ) (place left c size : ℕ) → place < length text → 0 < left
    → c ≡ or_replacement (decoded (take (length text - place) (drop place text))).char
    → size ≡ (decoded (take (length text - place) (drop place text))).size
    → escaped escape (shown_chars left (lossy_chars (drop place text)))
    ≡ escaped escape (shown_char c) ++ escaped escape (shown_chars (left - 1) (lossy_chars (drop (place + size) text)))
unfolding shown_chars
shown_step escape text place zero c size inside some ec es = absurd (omega arith)
shown_step escape text place (suc left) c size inside some ec es =
    let rest = drop place text in
    let same = rest_is text place (omega arith) in
    let here : 0 < length rest = omega (arith, length-drop place text) in
    let char : or_replacement (decoded rest).char ≡ c = sym (ec ∙ ap (λ t. or_replacement (decoded t).char) same) in
    let long : (decoded rest).size ≡ size = sym (es ∙ ap (λ t. (decoded t).size) same) in
    let less : left ≡ suc left - 1 = omega arith in
    ap (λ t. escaped escape (shown_chars (suc left) t)) (lossy_chars-step rest here)
    ∙ flat_map-append (escaped_char escape) (shown_char (or_replacement (decoded rest).char))
    (shown_chars left (lossy_chars (drop (decoded rest).size rest)))
    ∙ ap (λ x. escaped escape (shown_char x) ++ escaped escape (shown_chars left (lossy_chars (drop
    (decoded rest).size rest)))) char
    ∙ ap (λ n. escaped escape (shown_char c) ++ escaped escape (shown_chars left (lossy_chars (drop n rest)))) long
    ∙ ap (λ t. escaped escape (shown_char c) ++ escaped escape (shown_chars left (lossy_chars t)))
    (drop-drop size place text)
    ∙ ap (λ n. escaped escape (shown_char c) ++ escaped escape (shown_chars n (lossy_chars (drop
    (place + size) text)))) less

-- how far the place moves
pub step_within : (text : List ℕ) (place size : ℕ) → place < length text
    → size ≡ (decoded (take (length text - place) (drop place text))).size → (1 ≤ size) × (place + size ≤ length text)
step_within text place size inside es =
    let rest = drop place text in
    let long : size ≡ (decoded rest).size = es ∙ ap (λ t. (decoded t).size) (rest_is text place (omega arith)) in
    let bounds = piece-bounds rest (omega (arith, length-drop place text)) in
    (omega (arith, bounds.0), omega (arith, bounds.2, length-drop place text))

-- nothing is left
pub shown_none : (escape : Escape) (text : List ℕ) (place left : ℕ) → length text ≤ place
    → escaped escape (shown_chars left (lossy_chars (drop place text))) ≡ []
unfolding shown_chars
shown_none escape text place left h =
    ap (λ t. escaped escape (shown_chars left (lossy_chars t))) (drop_of_length-le text h)
    ∙ ap (λ t. escaped escape (shown_chars left t)) lossy_chars-nil

-- more is left than is shown
pub shown_more : (escape : Escape) (text : List ℕ) (place left : ℕ) → place < length text → left ≡ 0
    → escaped escape (shown_chars left (lossy_chars (drop place text))) ≡ codes ".."
unfolding shown_chars
shown_more escape text place left inside e =
    let rest = drop place text in
    let dots : escaped escape (codes "..") ≡ codes ".." =
    ap (λ t. t ++ (t ++ [])) (plain_char escape 46 refl) in
    ap (λ n. escaped escape (shown_chars n (lossy_chars rest))) e
    ∙ ap (λ t. escaped escape (shown_chars zero t)) (lossy_chars-step rest (omega (arith, length-drop place text)))
    ∙ dots

-- what is left where the loop ends
pub shown_end : (escape : Escape) (text : List ℕ) (place left : ℕ) → (length text ≤ place) ⊎ (left ≡ 0)
    → escaped escape (shown_chars left (lossy_chars (drop place text))) ≡ dots_if (nat_lt place (length text))
shown_end escape text place left h = of (cases_lt place (length text)) h where
  of : (place < length text) ⊎ (length text ≤ place) → (length text ≤ place) ⊎ (left ≡ 0)
      → escaped escape (shown_chars left (lossy_chars (drop place text))) ≡ dots_if (nat_lt place (length text))
  of (inl inside) (inl outside) = absurd (omega arith)
  of (inl inside) (inr none) = shown_more escape text place left inside none
      ∙ ap dots_if (sym (lt-ltb place (length text) inside))
  of (inr outside) k = shown_none escape text place left outside ∙ ap dots_if (sym (le-ltb place (length text) outside))

-- ---- pages

pub making_start : (a : Device) (page rest : List ℕ) → Making a a page rest (page ++ rest)
making_start a page rest = record { front = []; split = refl; wrote = wrote_none a }

-- the call that writes what is left
pub making_writes : {T E : Type 0} {a b : Device} {page rest whole : List ℕ} (c : Device) (r : Result T E)
    → Making a b page rest whole
    → Writes b c (page ++ rest) r → Writes a c whole r
making_writes {T} {E} {a} {b} {page} {rest} {whole} c r m h =
    let P : List ℕ → Type 0 = λ l. Writes a c l r in
    subst P (sym m.split) (writes_then c (page ++ rest) r m.wrote h)

encode-append : (xs ys : List ℕ) → encode_lower (xs ++ ys) ≡ encode_lower xs ++ encode_lower ys
unfolding encode_with
encode-append [] ys = refl
encode-append (x ∷ xs) ys =
    ap (λ l. slice_index lower_digits (x / 16) ∷ slice_index lower_digits (x % 16) ∷ l) (encode-append xs ys)

-- digits of a front, and of the rest
pub hex_step : (bytes : List ℕ) (place end : ℕ) → place ≤ end → end ≤ length bytes
    → encode_lower (drop place bytes) ++ 34 ∷ []
    ≡ encode_lower (take (end - place) (drop place bytes)) ++ (encode_lower (drop end bytes) ++ 34 ∷ [])
hex_step bytes place end low high =
    let rest = drop place bytes in
    let split : take (end - place) rest ++ drop (end - place) rest ≡ rest = take-append-drop (end - place) rest in
    let later : drop (end - place) rest ≡ drop end bytes =
    drop-drop (end - place) place bytes ∙ ap (λ n. drop n bytes) (omega arith) in
    ap (λ l. encode_lower l ++ 34 ∷ []) (sym split)
    ∙ ap (λ l. l ++ 34 ∷ []) (encode-append (take (end - place) rest) (drop (end - place) rest))
    ∙ ap (λ l. (encode_lower (take (end - place) rest) ++ encode_lower l) ++ 34 ∷ []) later
    ∙ append_assoc (encode_lower (take (end - place) rest)) (encode_lower (drop end bytes)) (34 ∷ [])

pub hex_end : (bytes : List ℕ) (place : ℕ) → length bytes ≤ place → encode_lower (drop place bytes) ++ 34 ∷ [] ≡ 34 ∷ []
unfolding encode_with
hex_end bytes place h = ap (λ l. encode_lower l ++ 34 ∷ []) (drop_of_length-le bytes h)
