-- An escaped text is read back, and has safe bytes alone.
use Rattle.std.proofs.Common.{◌≡◌, ℕ, zero, suc, ◌+◌, ◌-◌, ◌*◌, ◌/◌, ◌%◌, ◌<◌, ◌≤◌, Bool, true, false, cond, not, ◌&&◌}
use Rattle.std.proofs.Common.{List, [], ◌∷◌, ◌++◌, map, drop, length, Option, Some, None, refl, sym, ◌∙◌, ap, subst}
use Rattle.std.proofs.Common.{arith, length-drop, append_assoc, inl, inr, ◌⊎◌, ⊎_elim, encode_utf8, encode_utf8_all}
use Rattle.std.proofs.Common.{option_and_then}
use Rattle.std.specs.Prelude.{if◌then◌else◌, ◌==◌, nat_lt, codes, flat_map}
use Rattle.std.specs.Str.{all_scalars}
use Rattle.std.specs.Char.{digit_char, digit_value, is_digit, IsScalar}
use Rattle.std.specs.Int.{is_in_range}
use Rattle.std.specs.Int.Digits.{AllBelowBase, digits_of}
use Rattle.std.specs.List.{list_all}
use Rattle.std.proofs.lemmas.Bool.{and_from, and_parts, cases_lt, cond-true, cond-false, lt-ltb, le-ltb, ne_eqb}
use Rattle.std.proofs.lemmas.Bool.Decides.{nat_tests}
use Rattle.std.proofs.lemmas.Int.Digits.{all_below_base_digits_of}
use Rattle.std.proofs.lemmas.List.Folds.{list_all-append}
use Rattle.std.proofs.lemmas.Grind.{flat_map-append}
use Rattle.std.proofs.lemmas.Str.{digit_value-digit_char, encode_ascii}
use Rattle.json.specs.Text.{content, plain, after_u, after_high, prepend, code_unit, is_high_surrogate}
use Rattle.json.specs.Text.{is_low_surrogate, surrogate_pair}
use Rattle.bstr.specs.Utf8.{decoded, lossy_chars, or_replacement}
use Rattle.bstr.proofs.lemmas.PieceLemmas.{lossy_chars-step, lossy_chars-nil, piece-bounds}
use Rattle.bstr.proofs.lemmas.SoundLemmas.{SpellsChar-decoded}
use Rattle.text_out.specs.Number.{hex_digits}
use Rattle.page_text.specs.declared.escape.Escape.{Escape}
use Rattle.page_text.specs.declared.escape.Escape.TheVariants.{Json, Markup}
use Rattle.page_text.specs.Shown.{by_number, is_hidden, shown, shown_char, shown_chars}
use Rattle.page_text.specs.Escaped.{escaped, escaped_char, is_plain, is_safe, is_unmarked, reference_text, string_text}
use Rattle.page_text.specs.Escaped.{title_text, unit_text, units_text}

-- ---- each shown character is one of Unicode

small_is_scalar : (c : ℕ) → c < 128 → IsScalar c
small_is_scalar c h = grind (arith, nat_tests)

digit_is_small : (d : ℕ) → d < 16 → digit_char d < 128
digit_is_small d h = of (nat_lt d 10) where
  of : (small : Bool) → cond small (48 + d) (87 + d) < 128
  of true = omega arith
  of false = omega arith

digits_are_scalars : (ds : List ℕ) → AllBelowBase 16 ds → all_scalars (map digit_char ds) ≡ true
digits_are_scalars [] h = refl
digits_are_scalars (d ∷ ds) h = and_from _ _ (small_is_scalar (digit_char d) (digit_is_small d h.0))
    (digits_are_scalars ds h.1)

hex_is_scalars : (n : ℕ) → all_scalars (hex_digits n) ≡ true
hex_is_scalars n = of (n == 0) where
  of : (zero : Bool) → all_scalars (if zero then codes "0" else map digit_char (digits_of 16 n)) ≡ true
  of true = refl
  of false = digits_are_scalars (digits_of 16 n) (all_below_base_digits_of 16 n (omega arith))

scalars-append : (xs ys : List ℕ) → all_scalars xs ≡ true → all_scalars ys ≡ true → all_scalars (xs ++ ys) ≡ true
scalars-append [] ys h k = k
scalars-append (x ∷ xs) ys h k = let both = and_parts _ _ h in and_from _ _ both.0 (scalars-append xs ys both.1 k)

by_number_scalars : (c : ℕ) → all_scalars (by_number c) ≡ true
by_number_scalars c =
    scalars-append (codes "\\u{") (hex_digits c ++ codes "}") refl (scalars-append (hex_digits c) (codes "}")
    (hex_is_scalars c) refl)

shown_char_scalars : (c : ℕ) → IsScalar c → all_scalars (shown_char c) ≡ true
shown_char_scalars c h = of (is_hidden c) where
  of : (hidden : Bool) → all_scalars (if hidden then by_number c else (c ∷ [])) ≡ true
  of true = by_number_scalars c
  of false = and_from _ true h refl

shown_scalars : (most : ℕ) (cs : List ℕ) → all_scalars cs ≡ true → all_scalars (shown_chars most cs) ≡ true
unfolding shown_chars
shown_scalars most [] h = refl
shown_scalars zero (c ∷ cs) h = refl
shown_scalars (suc most) (c ∷ cs) h =
    let both = and_parts _ _ h in
    scalars-append (shown_char c) (shown_chars most cs) (shown_char_scalars c both.0) (shown_scalars most cs both.1)

-- what decodes, or U+FFFD
pub decoded_scalar : (bs : List ℕ) → IsScalar (or_replacement (decoded bs).char)
decoded_scalar bs = of (decoded bs).char refl where
  of : (char : Option ℕ) → (decoded bs).char ≡ char → IsScalar (or_replacement char)
  of None e = refl
  of (Some c) e = (SpellsChar-decoded bs c e).scalar

lossy_scalars : (fuel : ℕ) (bs : List ℕ) → length bs ≤ fuel → all_scalars (lossy_chars bs) ≡ true
lossy_scalars fuel [] h = ap all_scalars lossy_chars-nil
lossy_scalars zero (b ∷ bs) h = absurd (omega arith)
lossy_scalars (suc fuel) (b ∷ bs) h =
    let all = b ∷ bs in
    let some : 0 < length all = omega arith in
    let size = (decoded all).size in
    let shorter : length (drop size all) ≤ fuel = omega (arith, length-drop size all, (piece-bounds all some).0) in
    ap all_scalars (lossy_chars-step all some) ∙ and_from _ _ (decoded_scalar all) (lossy_scalars fuel
    (drop size all) shorter)

-- ---- what a reader of JSON makes of a character

code_unit_is : (a b c d p q r s : ℕ) → digit_value a ≡ p → digit_value b ≡ q → digit_value c ≡ r → digit_value d ≡ s
    → p < 16 → q < 16 → r < 16 → s < 16 → code_unit a b c d ≡ Some (p * 4096 + q * 256 + r * 16 + s)
unfolding code_unit
code_unit_is a b c d p q r s ea eb ec ed ha hb hc hd =
    let ta : is_digit a 16 ≡ true = ap (λ v. nat_lt v 16) ea ∙ lt-ltb p 16 ha in
    let tb : is_digit b 16 ≡ true = ap (λ v. nat_lt v 16) eb ∙ lt-ltb q 16 hb in
    let tc : is_digit c 16 ≡ true = ap (λ v. nat_lt v 16) ec ∙ lt-ltb r 16 hc in
    let td : is_digit d 16 ≡ true = ap (λ v. nat_lt v 16) ed ∙ lt-ltb s 16 hd in
    cond-true _ _ _ (and_from _ _ (and_from _ _ (and_from _ _ ta tb) tc) td)
    ∙ ap (λ v. Some (v * 4096 + digit_value b * 256 + digit_value c * 16 + digit_value d)) ea
    ∙ ap (λ v. Some (p * 4096 + v * 256 + digit_value c * 16 + digit_value d)) eb
    ∙ ap (λ v. Some (p * 4096 + q * 256 + v * 16 + digit_value d)) ec
    ∙ ap (λ v. Some (p * 4096 + q * 256 + r * 16 + v)) ed

unit_read : (u : ℕ) → u < 0x10000
    → code_unit (digit_char (u / 4096)) (digit_char (u / 256 % 16)) (digit_char (u / 16 % 16)) (digit_char
    (u % 16)) ≡ Some u
unit_read u h =
    let whole : u / 4096 * 4096 + u / 256 % 16 * 256 + u / 16 % 16 * 16 + u % 16 ≡ u = omega arith in
    code_unit_is _ _ _ _ (u / 4096) (u / 256 % 16) (u / 16 % 16) (u % 16)
    (digit_value-digit_char (u / 4096) (omega arith)) (digit_value-digit_char (u / 256 % 16) (omega arith))
    (digit_value-digit_char (u / 16 % 16) (omega arith)) (digit_value-digit_char (u % 16) (omega arith))
    (omega arith) (omega arith) (omega arith) (omega arith)
    ∙ ap Some whole

-- what stands behind a unit that was read
behind_unit : ℕ → List ℕ → Option (List ℕ)
behind_unit u rest =
    cond (is_high_surrogate u) (content (after_high u) rest) (cond (is_low_surrogate u) None (prepend
    (encode_utf8 u) (content plain rest)))

unit_content : (u : ℕ) (rest : List ℕ) → u < 0x10000 → content plain (unit_text u ++ rest) ≡ behind_unit u rest
unfolding content behind_unit
unit_content u rest h = ap (λ o. option_and_then (λ v. behind_unit v rest) o) (unit_read u h)

one_unit : (c : ℕ) (rest : List ℕ) → IsScalar c → c < 0x10000
    → content plain (unit_text c ++ rest) ≡ prepend (encode_utf8 c) (content plain rest)
unfolding behind_unit
one_unit c rest scalar h =
    let high : is_high_surrogate c ≡ false = grind (arith, nat_tests) in
    let low : is_low_surrogate c ≡ false = grind (arith, nat_tests) in
    unit_content c rest h ∙ cond-false _ _ _ high ∙ cond-false _ _ _ low

second_content : (high low : ℕ) (rest : List ℕ) → low < 0x10000 → is_low_surrogate low ≡ true
    → content (after_high high) (unit_text low ++ rest)
    ≡ prepend (encode_utf8 (surrogate_pair high low)) (content plain rest)
unfolding content
second_content high low rest h is =
    ap (λ o. option_and_then (λ l. cond (is_low_surrogate l) (prepend (encode_utf8 (surrogate_pair high l))
    (content plain rest)) None) o)
    (unit_read low h)
    ∙ cond-true _ _ _ is

two_units : (c : ℕ) (rest : List ℕ) → 0x10000 ≤ c → c < 0x110000
    → content plain ((unit_text (0xD800 + (c - 0x10000) / 1024) ++ unit_text (0xDC00 + (c - 0x10000) % 1024)) ++ rest)
    ≡ prepend (encode_utf8 c) (content plain rest)
unfolding behind_unit
two_units c rest above below =
    let high = 0xD800 + (c - 0x10000) / 1024 in
    let low = 0xDC00 + (c - 0x10000) % 1024 in
    let is_high : is_high_surrogate high ≡ true = grind (arith, nat_tests) in
    let is_low : is_low_surrogate low ≡ true = grind (arith, nat_tests) in
    let same : surrogate_pair high low ≡ c = omega arith in
    ap (content plain) (append_assoc (unit_text high) (unit_text low) rest)
    ∙ unit_content high (unit_text low ++ rest) (omega arith)
    ∙ cond-true _ _ _ is_high
    ∙ second_content high low rest (omega arith) is_low
    ∙ ap (λ v. prepend (encode_utf8 v) (content plain rest)) same

units_content : (c : ℕ) (rest : List ℕ) → IsScalar c
    → content plain (units_text c ++ rest) ≡ prepend (encode_utf8 c) (content plain rest)
units_content c rest scalar =
    let below : c < 0x110000 = grind (arith, nat_tests) in
    ⊎_elim
    (λ (small : c < 0x10000). ap (λ b. content plain ((if b then unit_text c else unit_text (0xD800 +
    (c - 0x10000) / 1024)
    ++ unit_text (0xDC00 + (c - 0x10000) % 1024)) ++ rest)) (lt-ltb c 0x10000 small) ∙ one_unit c rest scalar small)
    (λ (large : 0x10000 ≤ c). ap (λ b. content plain ((if b then unit_text c else unit_text (0xD800 +
    (c - 0x10000) / 1024)
    ++ unit_text (0xDC00 + (c - 0x10000) % 1024)) ++ rest)) (le-ltb c 0x10000 large) ∙ two_units c rest large below)
    (cases_lt c 0x10000)

plain_content : (c : ℕ) (rest : List ℕ) → is_plain c ≡ true
    → content plain (c ∷ rest) ≡ prepend (encode_utf8 c) (content plain rest)
unfolding content
plain_content c rest h =
    let quote : (c == 34) ≡ false = grind (arith, nat_tests) in
    let backslash : (c == 92) ≡ false = grind (arith, nat_tests) in
    let printed : nat_lt c 32 ≡ false = grind (arith, nat_tests) in
    let small : c < 128 = grind (arith, nat_tests) in
    cond-false _ _ _ quote ∙ cond-false _ _ _ backslash ∙ cond-false _ _ _ printed
    ∙ ap (λ t. prepend t (content plain rest)) (sym (encode_ascii c small))

passes : (c : ℕ) (rest : List ℕ) → IsScalar c
    → content plain (escaped_char Json c ++ rest) ≡ prepend (encode_utf8 c) (content plain rest)
unfolding escaped_char
passes c rest scalar = of (is_plain c) refl where
  of : (p : Bool) → is_plain c ≡ p
      → content plain ((if p then (c ∷ []) else units_text c) ++ rest) ≡ prepend (encode_utf8 c) (content plain rest)
  of true h = plain_content c rest h
  of false h = units_content c rest scalar

escaped_content : (cs rest : List ℕ) → all_scalars cs ≡ true
    → content plain (escaped Json cs ++ 34 ∷ rest) ≡ Some (encode_utf8_all cs)
unfolding content
escaped_content [] rest h = refl
escaped_content (c ∷ cs) rest h =
    let both = and_parts _ _ h in
    ap (content plain) (append_assoc (escaped_char Json c) (escaped Json cs) (34 ∷ rest)) ∙ passes c _ both.0
    ∙ ap (prepend (encode_utf8 c)) (escaped_content cs rest both.1)

shown_all_scalars : (most : ℕ) (text : List ℕ) → all_scalars (shown most text) ≡ true
shown_all_scalars most text = shown_scalars most (lossy_chars text) (lossy_scalars (length text) text (omega arith))

-- a string has what is shown as its value
pub string_reads : (text : List ℕ) (most : ℕ) → content plain (drop 1 (string_text text most))
    ≡ Some (encode_utf8_all (shown most text))
string_reads text most = escaped_content (shown most text) [] (shown_all_scalars most text)

-- ---- safe bytes alone

digit_is_safe : (d : ℕ) → d < 16 → is_safe (digit_char d) ≡ true
digit_is_safe d h = of (nat_lt d 10) refl where
  of : (small : Bool) → nat_lt d 10 ≡ small → is_safe (cond small (48 + d) (87 + d)) ≡ true
  of true e = grind (arith, nat_tests)
  of false e = grind (arith, nat_tests)

unit_is_safe : (u : ℕ) → u < 0x10000 → list_all is_safe (unit_text u) ≡ true
unit_is_safe u h =
    and_from _ _ (digit_is_safe (u / 4096) (omega arith))
    (and_from _ _ (digit_is_safe (u / 256 % 16) (omega arith))
    (and_from _ _ (digit_is_safe (u / 16 % 16) (omega arith)) (and_from _ _ (digit_is_safe (u % 16)
    (omega arith)) refl)))

units_are_safe : (c : ℕ) → IsScalar c → list_all is_safe (units_text c) ≡ true
units_are_safe c scalar = of (nat_lt c 0x10000) refl where
  of : (small : Bool) → nat_lt c 0x10000 ≡ small → list_all is_safe (if small then unit_text c
      else unit_text (0xD800 + (c - 0x10000) / 1024) ++ unit_text (0xDC00 + (c - 0x10000) % 1024)) ≡ true
  of true h = unit_is_safe c (grind (arith, nat_tests))
  of false h =
      let below : c < 0x110000 = grind (arith, nat_tests) in
      list_all-append is_safe (unit_text (0xD800 + (c - 0x10000) / 1024)) (unit_text (0xDC00 + (c - 0x10000) % 1024))
      ∙ and_from _ _ (unit_is_safe (0xD800 + (c - 0x10000) / 1024) (omega arith))
      (unit_is_safe (0xDC00 + (c - 0x10000) % 1024) (omega arith))

char_is_safe : (c : ℕ) → IsScalar c → list_all is_safe (escaped_char Json c) ≡ true
unfolding escaped_char
char_is_safe c scalar = of (is_plain c) refl where
  of : (p : Bool) → is_plain c ≡ p → list_all is_safe (if p then (c ∷ []) else units_text c) ≡ true
  of true h = and_from _ true (and_parts _ _ h).0 refl
  of false h = units_are_safe c scalar

escaped_is_safe : (cs : List ℕ) → all_scalars cs ≡ true → list_all is_safe (escaped Json cs) ≡ true
escaped_is_safe [] h = refl
escaped_is_safe (c ∷ cs) h =
    let both = and_parts _ _ h in
    list_all-append is_safe (escaped_char Json c) (escaped Json cs)
    ∙ and_from _ _ (char_is_safe c both.0) (escaped_is_safe cs both.1)

pub string_is_safe : (text : List ℕ) (most : ℕ) → list_all is_safe (string_text text most) ≡ true
string_is_safe text most =
    list_all-append is_safe (escaped Json (shown most text)) (34 ∷ [])
    ∙ and_from _ _ (escaped_is_safe (shown most text) (shown_all_scalars most text)) refl

-- ---- no character of markup in a title

safe_is_unmarked : (c : ℕ) → is_safe c ≡ true → is_unmarked c ≡ true
safe_is_unmarked c h =
    let parts = and_parts (is_in_range 32 126 c) (not (c == 38) && (not (c == 60) && not (c == 62))) h in
    and_from (is_in_range 32 126 c) (not (c == 60) && not (c == 62)) parts.0
    (and_parts (not (c == 38)) (not (c == 60) && not (c == 62)) parts.1).1

digits_are_unmarked : (ds : List ℕ) → AllBelowBase 16 ds → list_all is_unmarked (map digit_char ds) ≡ true
digits_are_unmarked [] h = refl
digits_are_unmarked (d ∷ ds) h =
    and_from (is_unmarked (digit_char d)) (list_all is_unmarked (map digit_char ds))
    (safe_is_unmarked (digit_char d) (digit_is_safe d h.0)) (digits_are_unmarked ds h.1)

hex_is_unmarked : (n : ℕ) → list_all is_unmarked (hex_digits n) ≡ true
hex_is_unmarked n = of (n == 0) where
  of : (zero : Bool) → list_all is_unmarked (if zero then codes "0" else map digit_char (digits_of 16 n)) ≡ true
  of true = refl
  of false = digits_are_unmarked (digits_of 16 n) (all_below_base_digits_of 16 n (omega arith))

reference_is_unmarked : (c : ℕ) → list_all is_unmarked (reference_text c) ≡ true
reference_is_unmarked c =
    list_all-append is_unmarked (codes "&#x") (hex_digits c ++ codes ";")
    ∙ and_from (list_all is_unmarked (codes "&#x")) (list_all is_unmarked (hex_digits c ++ codes ";")) refl
    (list_all-append is_unmarked (hex_digits c) (codes ";")
    ∙ and_from (list_all is_unmarked (hex_digits c)) (list_all is_unmarked (codes ";")) (hex_is_unmarked c) refl)

char_is_unmarked : (c : ℕ) → list_all is_unmarked (escaped_char Markup c) ≡ true
unfolding escaped_char
char_is_unmarked c = of (is_plain c) refl where
  of : (p : Bool) → is_plain c ≡ p → list_all is_unmarked (if p then (c ∷ []) else reference_text c) ≡ true
  of true h = and_from (is_unmarked c) true
      (safe_is_unmarked c (and_parts (is_safe c) (not (c == 34) && not (c == 92)) h).0) refl
  of false h = reference_is_unmarked c

escaped_is_unmarked : (cs : List ℕ) → list_all is_unmarked (escaped Markup cs) ≡ true
escaped_is_unmarked [] = refl
escaped_is_unmarked (c ∷ cs) =
    list_all-append is_unmarked (escaped_char Markup c) (escaped Markup cs)
    ∙ and_from (list_all is_unmarked (escaped_char Markup c)) (list_all is_unmarked (escaped Markup cs))
    (char_is_unmarked c) (escaped_is_unmarked cs)

pub title_is_unmarked : (text : List ℕ) (most : ℕ) → list_all is_unmarked (title_text text most) ≡ true
title_is_unmarked text most = escaped_is_unmarked (shown most text)
