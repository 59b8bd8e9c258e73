-- A step that is written as a word reads as that step.
use Rattle.std.proofs.Common.{◌≡◌, ℕ, ◌+◌, ◌-◌, ◌%◌, ◌<◌, ◌==◌, true, List, [], ◌∷◌, ◌++◌, refl, sym, ◌∙◌, ap, ap₂}
use Rattle.std.proofs.Common.{arith, length, take, Option, Some, None}
use Rattle.std.specs.Prelude.{nat_lt, slice_index}
use Rattle.std.proofs.lemmas.Bool.{eq-eqb, eqb-true, ltb-true, ne_eqb}
use Rattle.std.proofs.lemmas.List.{append-nil, length-append}
use Rattle.text_out.specs.TextLine.{number_text}
use Rattle.tm_model.specs.declared.outcome.Event.{Event}
use Rattle.tm_model.specs.declared.outcome.Pick.{Pick}
use Rattle.tm_model.specs.declared.outcome.Event.TheVariants.{Abort, Drain}
use Rattle.tm_model.specs.declared.outcome.Interference.TheVariants.{Interrupt, Eviction, Snoop}
use Rattle.tm_schedule.specs.declared.schedule.picks.Form.{Form}
use Rattle.tm_schedule.specs.declared.schedule.picks.Form.TheVariants.{Cores, Picks}
use Rattle.tm_schedule.specs.ScheduleNumbers.{core_number}
use Rattle.tm_schedule.specs.Picks.{event_of, pick_from, pick_at, pick_of_word, pick_in, event_letter, event_text}
use Rattle.tm_schedule.specs.Picks.{pick_word, is_same}
use Rattle.tm_schedule.proofs.Counts.{both}
use Rattle.tm_schedule.proofs.NumbersBack.{cases, number_digits, number_long, core_back}
use Rattle.tm_schedule.proofs.WordsBack.{Above, above_append}

-- ---- an event

event_back : (event : Option Event) → event_of (event_letter event) ≡ event
event_back None = refl
event_back (Some (Abort Interrupt)) = refl
event_back (Some (Abort Eviction)) = refl
event_back (Some (Abort Snoop)) = refl
event_back (Some Drain) = refl

letter_above : (event : Event) → 42 < event_letter (Some event)
letter_above (Abort Interrupt) = omega arith
letter_above (Abort Eviction) = omega arith
letter_above (Abort Snoop) = omega arith
letter_above Drain = omega arith

-- ---- the same step

abbrev pick_with : ℕ → Option Event → Pick
pick_with core event = record { core = core; event = event }

pub same_pick : (a b : Pick) → is_same a b ≡ true → a ≡ b
same_pick a b h =
    let parts = both (a.core == b.core) (event_letter a.event == event_letter b.event) h in
    let core = eqb-true a.core b.core parts.0 in
    let letter = eqb-true (event_letter a.event) (event_letter b.event) parts.1 in
    let event = sym (event_back a.event) ∙ ap event_of letter ∙ event_back b.event in
    ap₂ pick_with core event

pub pick_same : (a b : Pick) → a ≡ b → is_same a b ≡ true
pick_same a b h = rw (
  eq-eqb a.core b.core (ap (λ (p : Pick). p.core) h),
  eq-eqb (event_letter a.event) (event_letter b.event) (ap (λ (p : Pick). event_letter p.event) h),
) refl

-- ---- a word

pub digit_none : (d : ℕ) → d < 10 → event_of (48 + d) ≡ None
digit_none d h = rw (
  ne_eqb (48 + d) 105 (λ e. omega arith),
  ne_eqb (48 + d) 101 (λ e. omega arith),
  ne_eqb (48 + d) 115 (λ e. omega arith),
  ne_eqb (48 + d) 100 (λ e. omega arith),
) refl

number_none : (n : ℕ) → event_of (slice_index (number_text n) (length (number_text n) - 1)) ≡ None
unfolding number_text
number_none n = cases (λ t. event_of (slice_index t (length t - 1)) ≡ None) (nat_lt n 10) (nat_lt n 100) _ _ _
    (λ e. digit_none n (let l = ltb-true n 10 e in omega arith))
    (λ _ _. digit_none (n % 10) (omega arith)) (λ _ _. digit_none (n % 10) (omega arith))

pub empty_says : (word : List ℕ) → (length word == 0) ≡ true → None ≡ pick_of_word word
unfolding pick_of_word core_number
empty_says [] h = refl
empty_says (b ∷ bs) h = absurd (let e = eqb-true (length (b ∷ bs)) 0 h in omega arith)

last_of : (xs : List ℕ) (x : ℕ) → slice_index (xs ++ x ∷ []) (length xs) ≡ x
last_of [] x = refl
last_of (y ∷ ys) x = last_of ys x

pub take_front : (xs ys : List ℕ) → take (length xs) (xs ++ ys) ≡ xs
take_front [] ys = refl
take_front (x ∷ xs) ys = ap (λ l. x ∷ l) (take_front xs ys)

before_last : (xs : List ℕ) (x : ℕ) → length (xs ++ x ∷ []) - 1 ≡ length xs
before_last xs x = let long = length-append xs (x ∷ []) in omega arith

plain_word : (core : ℕ) → number_text core ++ event_text None ≡ number_text core
plain_word core = append-nil (number_text core)

plain_back : (core : ℕ) → core < 256 → pick_of_word (number_text core) ≡ Some (record { core = core; event = None })
unfolding pick_of_word
plain_back core h = ap (pick_at (number_text core)) (number_none core) ∙ ap (λ c. pick_from c None) (core_back core h)

event_word_back : (core : ℕ) (event : Event) → core < 256 →
    pick_of_word (number_text core ++ event_letter (Some event) ∷ [])
    ≡ Some (record { core = core; event = Some event })
unfolding pick_of_word
event_word_back core event h =
    let front = number_text core in
    let letter = event_letter (Some event) in
    let word = front ++ letter ∷ [] in
    let last : slice_index word (length word - 1) ≡ letter =
    ap (slice_index word) (before_last front letter) ∙ last_of front letter in
    ap (pick_at word) (ap event_of last ∙ event_back (Some event))
    ∙ ap (λ n. pick_from (core_number (take n word)) (Some event)) (before_last front letter)
    ∙ ap (λ text. pick_from (core_number text) (Some event)) (take_front front (letter ∷ []))
    ∙ ap (λ c. pick_from c (Some event)) (core_back core h)

-- a step that a form can say
abbrev pub Fits : Form → Pick → Type 0
Fits Cores pick = (pick.core < 256) × (pick.event ≡ None)
Fits Picks pick = pick.core < 256

back_at : (core : ℕ) (event : Option Event) → core < 256
    → pick_of_word (number_text core ++ event_text event) ≡ Some (record { core = core; event = event })
back_at core None h = ap pick_of_word (plain_word core) ∙ plain_back core h
back_at core (Some event) h = event_word_back core event h

pub pick_back : (form : Form) (pick : Pick) → Fits form pick → pick_in form (pick_word pick) ≡ Some pick
pick_back Cores pick h =
    ap (λ event. pick_from (core_number (number_text pick.core ++ event_text event)) None) h.1
    ∙ ap (λ text. pick_from (core_number text) None) (plain_word pick.core)
    ∙ ap (λ c. pick_from c None) (core_back pick.core h.0)
    ∙ ap (λ event. Some (pick_with pick.core event)) (sym h.1)
pick_back Picks pick h = back_at pick.core pick.event h

event_above : (event : Option Event) → Above 42 (event_text event)
event_above None = tt
event_above (Some event) = (letter_above event, tt)

pub pick_above : (pick : Pick) → Above 42 (pick_word pick)
pick_above pick =
    above_append 42 (number_text pick.core) (event_text pick.event) (number_digits pick.core) (event_above pick.event)

pub pick_long : (pick : Pick) → 0 < length (pick_word pick)
pick_long pick =
    let some = number_long pick.core in
    let long = length-append (number_text pick.core) (event_text pick.event) in omega arith
