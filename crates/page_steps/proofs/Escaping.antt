-- Words in which JSON escapes nothing.
use Rattle.std.proofs.Common.{◌≡◌, ◌∙◌, ℕ, zero, suc, ◌+◌, ◌/◌, ◌%◌, ◌<◌, Bool, true, false, List, [], ◌∷◌}
use Rattle.std.proofs.Common.{◌++◌, ap, arith, codes, inl, inr, refl, subst, sym, ◌⊎◌}
use Rattle.std.proofs.lemmas.Bool.{cases_eq, ne_eqb}
use Rattle.std.proofs.lemmas.Bool.Decides.{nat_tests}
use Rattle.std.proofs.lemmas.Grind.{flat_map-append}
use Rattle.std.specs.Prelude.{nat_lt, if◌then◌else◌, slice_index}
use Rattle.hex.specs.Hex.{encode_lower, encode_with, lower_digits}
use Rattle.json.specs.Print.{escape, escape_byte, escape_letter}
use Rattle.text_out.specs.TextLine.{number_text}
use Rattle.tm_hist.specs.Lines.{interference_word, state_word, stop_word}
use Rattle.page_steps.specs.Reading.{HasDepth}
use Rattle.page_steps.specs.Types.{Aborted, AbortedBy, AtStop, Begun, Committed, Condemned, CoreState, Idle, Inside}
use Rattle.page_steps.specs.Types.{Drained, Interference}
use Rattle.page_steps.specs.Types.{Loaded, Mid, Open, Outcome, Plain, Running, Stop, Stopped}
use Rattle.tm_model.specs.declared.outcome.Interference.TheVariants.{Eviction, Interrupt, Snoop}
use Rattle.tm_rule.specs.declared.kinds.Stop.TheVariants.{Breakpoint, CodeStore, Divide, Fetch, Halt, NotInSubset}
use Rattle.tm_rule.specs.declared.kinds.Stop.TheVariants.{Protection, Range, Undefined}
use Rattle.page_steps.specs.Words.{letter_of}

abbrev pub Stays : List ℕ → Type 0
Stays word = escape word ≡ word

stays-append : (first second : List ℕ) → Stays first → Stays second → Stays (first ++ second)
stays-append first second h k =
    flat_map-append escape_byte first second ∙ ap (λ t. t ++ escape second) h ∙ ap (λ t. first ++ t) k

-- ---- digits

digit_letter : (d : ℕ) → d < 10 → escape_letter (48 + d) ≡ 0
digit_letter d h =
    rw (
      ne_eqb (48 + d) 34 (λ e. omega arith),
      ne_eqb (48 + d) 92 (λ e. omega arith),
      ne_eqb (48 + d) 8 (λ e. omega arith),
      ne_eqb (48 + d) 12 (λ e. omega arith),
      ne_eqb (48 + d) 10 (λ e. omega arith),
      ne_eqb (48 + d) 13 (λ e. omega arith),
      ne_eqb (48 + d) 9 (λ e. omega arith),
    ) refl

digit_stays : (d : ℕ) → d < 10 → escape_byte (48 + d) ≡ (48 + d) ∷ []
unfolding escape_byte
digit_stays d h =
    let printed : nat_lt (48 + d) 32 ≡ false = grind (arith, nat_tests) in
    rw (digit_letter d h, printed) refl

-- a byte before others
stays-cons : (c : ℕ) (cs : List ℕ) → escape_byte c ≡ c ∷ [] → Stays cs → Stays (c ∷ cs)
stays-cons c cs h k = ap (λ t. t ++ escape cs) h ∙ ap (λ t. c ∷ t) k

number_stays : (n : ℕ) → n < 1000 → Stays (number_text n)
unfolding number_text
number_stays n h = of (nat_lt n 10) (nat_lt n 100) refl refl where
  of : (small middle : Bool) → nat_lt n 10 ≡ small → nat_lt n 100 ≡ middle → Stays (if small then (48 + n) ∷ []
      else if middle then (48 + n / 10) ∷ (48 + n % 10) ∷ []
      else (48 + n / 100) ∷ (48 + n / 10 % 10) ∷ (48 + n % 10) ∷ [])
  of true middle e f = stays-cons (48 + n) [] (digit_stays n (grind (arith, nat_tests))) refl
  of false true e f = stays-cons (48 + n / 10) _ (digit_stays (n / 10) (grind (arith, nat_tests)))
      (stays-cons (48 + n % 10) [] (digit_stays (n % 10) (omega arith)) refl)
  of false false e f =
      stays-cons (48 + n / 100) _ (digit_stays (n / 100) (omega arith)) (stays-cons (48 + n / 10 % 10) _
      (digit_stays (n / 10 % 10) (omega arith)) (stays-cons (48 + n % 10) [] (digit_stays (n % 10) (omega arith)) refl))

-- ---- hex

abbrev Each : (ℕ → Type 0) → ℕ → Type 0
Each P zero = Unit {0}
Each P (suc n) = P n × Each P n

each_sound : (P : ℕ → Type 0) (n : ℕ) → Each P n → (k : ℕ) → k < n → P k
each_sound P zero h k below = absurd (omega arith)
each_sound P (suc n) h k below = of (each_sound P n h.1 k) (cases_eq k n) where
  of : (k < n → P k) → (k ≡ n) ⊎ (k ≡ n → ⊥) → P k
  of others (inl e) = subst P (sym e) h.0
  of others (inr ne) = others (omega arith)

abbrev HexStays : ℕ → Type 0
HexStays d = escape_byte (slice_index lower_digits d) ≡ slice_index lower_digits d ∷ []

sixteen : Each HexStays 16
unfolding escape_byte
sixteen = (
  refl,
  (
    refl,
    (refl, (refl, (refl, (refl, (refl, (refl, (refl, (refl, (refl, (refl, (refl, (refl, (refl, (refl, tt)))))))))))))),
  ),
)

pub hex_stays : (bytes : List ℕ) → ((i : ℕ) → slice_index bytes i < 256) → Stays (encode_lower bytes)
unfolding encode_with
hex_stays [] h = refl
hex_stays (byte ∷ bytes) h =
    let small : byte < 256 = h 0 in
    stays-cons (slice_index lower_digits (byte / 16)) _ (each_sound HexStays 16 sixteen (byte / 16) (omega arith))
    (stays-cons (slice_index lower_digits (byte % 16)) _ (each_sound HexStays 16 sixteen (byte % 16) (omega arith))
    (hex_stays bytes (λ i. h (suc i))))

-- ---- words

stop_stays : (stop : Stop) → Stays (stop_word stop)
unfolding escape_byte
stop_stays Divide = refl
stop_stays Breakpoint = refl
stop_stays Undefined = refl
stop_stays Protection = refl
stop_stays Halt = refl
stop_stays Range = refl
stop_stays CodeStore = refl
stop_stays Fetch = refl
stop_stays NotInSubset = refl

pub state_stays : (state : CoreState) → HasDepth state → Stays (state_word state)
unfolding escape_byte
state_stays Running h = refl
state_stays Mid h = refl
state_stays (Open depth) h = stays-append (codes "tx") (number_text depth) refl (number_stays depth h)
state_stays (Condemned depth) h = refl
state_stays (AtStop stop) h = stays-append (codes "stop:") (stop_word stop) refl (stop_stays stop)

pub event_stays : (by : Interference) → Stays (interference_word by)
unfolding escape_byte
event_stays Interrupt = refl
event_stays Eviction = refl
event_stays Snoop = refl

pub letter_stays : (outcome : Outcome) → Stays (letter_of outcome)
unfolding escape_byte
letter_stays Plain = refl
letter_stays Loaded = refl
letter_stays (Stopped stop) = refl
letter_stays Idle = refl
letter_stays Begun = refl
letter_stays Inside = refl
letter_stays Committed = refl
letter_stays (Aborted status) = refl
letter_stays (AbortedBy by status) = refl
letter_stays Drained = refl
