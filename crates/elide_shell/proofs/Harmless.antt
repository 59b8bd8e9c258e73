-- No control character is written.
use Rattle.std.proofs.Common.{◌≡◌, ℕ, ◌/◌, Bool, true, false, not, List, [], ◌∷◌, ◌++◌, length, Some, None, refl, sym}
use Rattle.std.proofs.Common.{◌∙◌, ap, append_assoc, append-nil, arith}
use Rattle.std.specs.Prelude.{if◌then◌else◌, ◌==◌}
use Rattle.std.specs.Int.{is_in_range}
use Rattle.std.specs.List.{flat_map, list_all}
use Rattle.std.proofs.lemmas.Bool.{and_parts, eqb-true, or_from, or_parts}
use Rattle.std.proofs.lemmas.Bool.Decides.{nat_tests}
use Rattle.elide_shell.specs.Controls.{before_mark, behind_backslash, ends_control, escape, escaped, escaped_behind}
use Rattle.elide_shell.specs.Controls.{escaped_byte, has_control, is_c1, is_of_control, letter_of, mark_byte, next_of}
use Rattle.elide_shell.specs.Controls.{octal_digit}
use Rattle.elide_shell.specs.declared.escapes.Mark.{Mark}
use Rattle.elide_shell.specs.declared.escapes.Mark.TheVariants.{Backslash, DoubledQuote, Hash, Quote}
use Rattle.elide_shell.specs.Shell.{is_plain, is_plain_word, quoted, quoted_byte, quoted_with_escapes, shell_word}

abbrev is_seen : ℕ → Bool
is_seen byte = is_in_range 32 126 byte

-- what is no control character behind a byte is none behind what was written last
abbrev Calms : ℕ → ℕ → Type 0
Calms last before = (byte : ℕ) → is_c1 before byte ≡ false → is_c1 last byte ≡ false

same : (byte : ℕ) → Calms byte byte
same byte next h = h

seen_calms : (last before : ℕ) → is_seen last ≡ true → Calms last before
seen_calms last before h byte other = grind (arith, nat_tests)

seen_ends : (before byte : ℕ) → is_seen byte ≡ true → ends_control before byte ≡ false
seen_ends before byte h = grind (arith, nat_tests)

-- a byte that is seen, before a text
seen_more : (last byte : ℕ) (text : List ℕ) → is_seen byte ≡ true → has_control byte text ≡ false
    → has_control last (byte ∷ text) ≡ false
seen_more last byte text h rest = or_from (ends_control last byte) (has_control byte text) (seen_ends last byte h) rest

plain_is_seen : (byte : ℕ) → is_plain byte ≡ true → is_seen byte ≡ true
plain_is_seen byte h = grind (arith, nat_tests)

plain_has_none : (last : ℕ) (word : List ℕ) → list_all is_plain word ≡ true → has_control last word ≡ false
plain_has_none last [] h = refl
plain_has_none last (byte ∷ bytes) h =
    let parts = and_parts (is_plain byte) (list_all is_plain bytes) h in
    seen_more last byte bytes (plain_is_seen byte parts.0) (plain_has_none byte bytes parts.1)

-- a byte as it is
whole_more : (last before byte : ℕ) (text : List ℕ) → Calms last before → ends_control before byte ≡ false
    → has_control byte text ≡ false → has_control last (byte ∷ text) ≡ false
whole_more last before byte text calms h rest =
    let parts = or_parts _ (is_c1 before byte) h in
    or_from (ends_control last byte) (has_control byte text)
    (or_from _ (is_c1 last byte) parts.0 (calms byte parts.1)) rest

-- ---- between single quotes

quoted_more : (last before byte : ℕ) (tail : List ℕ) → Calms last before → ends_control before byte ≡ false
    → ((l : ℕ) → Calms l byte → has_control l tail ≡ false) → has_control last (quoted_byte byte ++ tail) ≡ false
quoted_more last before byte tail calms h rest = of (byte == 39) where
  of : (quote : Bool) → has_control last ((if quote then 39 ∷ 92 ∷ 39 ∷ 39 ∷ [] else byte ∷ []) ++ tail) ≡ false
  of true =
      seen_more last 39 (92 ∷ 39 ∷ 39 ∷ tail) refl (seen_more 39 92 (39 ∷ 39 ∷ tail) refl
      (seen_more 92 39 (39 ∷ tail) refl (seen_more 39 39 tail refl (rest 39 (seen_calms 39 byte refl)))))
  of false = whole_more last before byte tail calms h (rest byte (same byte))

quoted_has_none : (last before : ℕ) (word : List ℕ) → Calms last before → has_control before word ≡ false
    → has_control last (flat_map quoted_byte word ++ 39 ∷ []) ≡ false
quoted_has_none last before [] calms h = seen_more last 39 [] refl refl
quoted_has_none last before (byte ∷ bytes) calms h =
    let parts = or_parts (ends_control before byte) (has_control byte bytes) h in
    let tail = flat_map quoted_byte bytes ++ 39 ∷ [] in
    ap (has_control last) (append_assoc (quoted_byte byte) (flat_map quoted_byte bytes) (39 ∷ []))
    ∙ quoted_more last before byte tail calms parts.0 (λ l near. quoted_has_none l byte bytes near parts.1)

-- ---- with escapes

-- an octal digit
digit_is_seen : (n : ℕ) → is_seen (octal_digit n) ≡ true
digit_is_seen n = grind (arith, nat_tests)

-- the letter or the digits, and what is written behind them
letter_more : (letter : ℕ) (tail : List ℕ) → is_seen letter ≡ true
    → ((last : ℕ) → is_seen last ≡ true → has_control last tail ≡ false) → has_control 92 (letter ∷ tail) ≡ false
letter_more letter tail h rest = seen_more 92 letter tail h (rest letter h)

escape_more : (last byte : ℕ) (tail : List ℕ) → ((last : ℕ) → is_seen last ≡ true → has_control last tail ≡ false)
    → has_control last (escape byte ++ tail) ≡ false
escape_more last byte tail rest =
    seen_more last 92 (behind_backslash (letter_of byte) byte ++ tail) refl
    (of (byte == 9) (byte == 10) (byte == 13)) where
      of : (tab feed back : Bool) → has_control 92 (behind_backslash (if tab then Some 116 else if feed then Some 110
          else if back then Some 114 else None) byte ++ tail) ≡ false
      of true feed back = letter_more 116 tail refl rest
      of false true back = letter_more 110 tail refl rest
      of false false true = letter_more 114 tail refl rest
      of false false false =
          seen_more 92 (octal_digit (byte / 64)) (octal_digit (byte / 8) ∷ octal_digit byte ∷ tail)
          (digit_is_seen (byte / 64))
          (seen_more (octal_digit (byte / 64)) (octal_digit (byte / 8)) (octal_digit byte ∷ tail)
          (digit_is_seen (byte / 8))
          (seen_more (octal_digit (byte / 8)) (octal_digit byte) tail (digit_is_seen byte)
          (rest (octal_digit byte) (digit_is_seen byte))))

-- a byte at which something stands, and what stands there
mark_is_seen : (mark : Mark) (byte : ℕ) → (byte == mark_byte mark) ≡ true → is_seen byte ≡ true
mark_is_seen Backslash byte h = ap is_seen (eqb-true byte 92 h)
mark_is_seen Hash byte h = ap is_seen (eqb-true byte 35 h)
mark_is_seen Quote byte h = ap is_seen (eqb-true byte 39 h)
mark_is_seen DoubledQuote byte h = ap is_seen (eqb-true byte 39 h)

before_is_seen : (mark : Mark) → is_seen (before_mark mark) ≡ true
before_is_seen Backslash = refl
before_is_seen Hash = refl
before_is_seen Quote = refl
before_is_seen DoubledQuote = refl

byte_more : (hidden : Bool) (mark : Mark) (last before byte next : ℕ) (tail : List ℕ) → Calms last before
    → is_of_control before byte next ≡ hidden → ((l : ℕ) → Calms l byte → has_control l tail ≡ false)
    → has_control last (escaped_byte mark hidden byte ++ tail) ≡ false
byte_more true mark last before byte next tail calms e rest =
    escape_more last byte tail (λ l seen. rest l (seen_calms l byte seen))
byte_more false mark last before byte next tail calms e rest = of (byte == 92) (byte == mark_byte mark) refl where
  of : (slash marked : Bool) → (byte == mark_byte mark) ≡ marked
      → has_control last
      ((if slash then 92 ∷ 92 ∷ [] else if marked then before_mark mark ∷ byte ∷ [] else byte ∷ []) ++ tail)
      ≡ false
  of true marked k = seen_more last 92 (92 ∷ tail) refl (seen_more 92 92 tail refl (rest 92 (seen_calms 92 byte refl)))
  of false true k =
      seen_more last (before_mark mark) (byte ∷ tail) (before_is_seen mark)
      (seen_more (before_mark mark) byte tail (mark_is_seen mark byte k) (rest byte (same byte)))
  of false false k =
      whole_more last before byte tail calms (or_parts (ends_control before byte) (is_c1 byte next) e).0
      (rest byte (same byte))

escaped_has_none : (mark : Mark) (last before : ℕ) (text end : List ℕ) → Calms last before
    → ((l : ℕ) → has_control l end ≡ false) → has_control last (escaped_behind mark before text ++ end) ≡ false
escaped_has_none mark last before [] end calms ends = ends last
escaped_has_none mark last before (byte ∷ bytes) end calms ends =
    let hidden = is_of_control before byte (next_of bytes) in
    ap (has_control last) (append_assoc (escaped_byte mark hidden byte) (escaped_behind mark byte bytes) end)
    ∙ byte_more hidden mark last before byte (next_of bytes) (escaped_behind mark byte bytes ++ end) calms refl
    (λ l near. escaped_has_none mark l byte bytes end near ends)

-- ---- words, and texts that are shown

pub word_has_none : (word : List ℕ) → has_control 0 (shell_word word) ≡ false
unfolding shell_word escaped
word_has_none word = of (is_plain_word word) (has_control 0 word) refl refl where
  of : (plain controls : Bool) → is_plain_word word ≡ plain → has_control 0 word ≡ controls
      → has_control 0 (if plain then word else if controls then quoted_with_escapes word else quoted word) ≡ false
  of true controls e f = plain_has_none 0 word (and_parts (not (length word == 0)) (list_all is_plain word) e).1
  of false true e f =
      let rest = escaped_behind Quote 0 word ++ 39 ∷ [] in
      seen_more 0 36 (39 ∷ rest) refl (seen_more 36 39 rest refl
      (escaped_has_none Quote 39 0 word (39 ∷ []) (seen_calms 39 0 refl) (λ l. seen_more l 39 [] refl refl)))
  of false false e f =
      seen_more 0 39 (flat_map quoted_byte word ++ 39 ∷ []) refl (quoted_has_none 39 0 word (seen_calms 39 0 refl) f)

pub text_has_none : (mark : Mark) (text : List ℕ) → has_control 0 (escaped mark text) ≡ false
unfolding escaped
text_has_none mark text =
    sym (ap (has_control 0) (append-nil (escaped_behind mark 0 text)))
    ∙ escaped_has_none mark 0 0 text [] (same 0) (λ l. refl)
