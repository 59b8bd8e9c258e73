-- A list of steps, one a word, reads as that list.
use Rattle.std.proofs.Common.{◌≡◌, ℕ, ◌||◌, Bool, true, false, List, [], ◌∷◌, refl, ◌∙◌, ap, arith, length, map, Option}
use Rattle.std.proofs.Common.{Some, None, Ok}
use Rattle.std.specs.Prelude.{◌==◌, is_some, option_map}
use Rattle.std.specs.List.{AllByRecursion, flat_map}
use Rattle.std.proofs.lemmas.Bool.Decides.{nat_tests}
use Rattle.ia_lex.specs.Lines.{lines_of}
use Rattle.tm_model.specs.declared.outcome.Event.{Event}
use Rattle.tm_model.specs.declared.outcome.Pick.{Pick}
use Rattle.tm_schedule.specs.declared.schedule.picks.Form.{Form}
use Rattle.tm_schedule.specs.declared.schedule.picks.Form.TheVariants.{Cores, Picks}
use Rattle.tm_schedule.specs.Picks.{AreBytes, single_steps, pick_word, has_event}
use Rattle.tm_schedule.specs.ScheduleWords.{steps_said, words_from, words_read, unless}
use Rattle.tm_schedule.specs.Schedule.{schedule_of, steps_of, numbers_text, steps_text}
use Rattle.tm_schedule.proofs.WordsBack.{above_less, AreWords, AreSaid, words_back, fault_back, said_back}
use Rattle.tm_schedule.proofs.PicksBack.{Fits, pick_back, pick_above, pick_long}

-- steps that a form can say
abbrev pub AllFit : Form → List Pick → Type 0
AllFit form picks = AllByRecursion (Fits form) picks

neither : (a b : Bool) → (a || b) ≡ false → (a ≡ false) × (b ≡ false)
neither true b h = absurd (cc)
neither false b h = (refl, h)

no_event : (event : Option Event) → is_some event ≡ false → event ≡ None
no_event None h = refl
no_event (Some event) h = absurd (cc)

pub plain_fit : (picks : List Pick) → AreBytes picks → has_event picks ≡ false → AllFit Cores picks
plain_fit [] h e = tt
plain_fit (pick ∷ picks) h e =
    let parts = neither (is_some pick.event) (has_event picks) e in
    ((h.0, no_event pick.event parts.0), plain_fit picks h.1 parts.1)

pub all_fit : (picks : List Pick) → AreBytes picks → AllFit Picks picks
all_fit [] h = tt
all_fit (pick ∷ picks) h = (h.0, all_fit picks h.1)

abbrev step : Pick → List Pick
step pick = pick ∷ []

single_back : (form : Form) (pick : Pick) → Fits form pick → single_steps form (pick_word pick) ≡ Some (step pick)
unfolding single_steps
single_back form pick h =
    let long = pick_long pick in
    let some : (length (pick_word pick) == 0) ≡ false = grind (arith, nat_tests) in
    rw some (ap (option_map step) (pick_back form pick h))

are_words : (picks : List Pick) → AreWords (map pick_word picks)
are_words [] = tt
are_words (pick ∷ picks) = (
  record { some = pick_long pick; above = above_less 32 42 (pick_word pick) (omega arith) (pick_above pick) },
  are_words picks,
)

are_said : (form : Form) (picks : List Pick) → AllFit form picks → AreSaid (single_steps form) pick_word step picks
are_said form [] h = tt
are_said form (pick ∷ picks) h = (single_back form pick h.0, are_said form picks h.1)

steps_are : (picks : List Pick) → flat_map step picks ≡ picks
steps_are [] = refl
steps_are (pick ∷ picks) = ap (λ l. pick ∷ l) (steps_are picks)

list_back : (form : Form) (n : ℕ) (picks : List Pick) → AllFit form picks →
    words_read (single_steps form) None (words_from n (lines_of (steps_text picks))) ≡ Ok picks
list_back form n picks h =
    let words = words_from n (lines_of (steps_text picks)) in
    let same = words_back 32 0 n (map pick_word picks) (are_words picks) in
    let said = are_said form picks h in
    ap (λ fault. unless fault (flat_map (steps_said (single_steps form)) words))
    (fault_back (single_steps form) None pick_word step words picks 0 same said refl)
    ∙ ap Ok (said_back (single_steps form) pick_word step words picks same said ∙ steps_are picks)

pub numbers_back : (picks : List Pick) → AreBytes picks → has_event picks ≡ false
    → schedule_of (numbers_text picks) ≡ Ok picks
numbers_back picks h e = list_back Cores 2 picks (plain_fit picks h e)

pub steps_back : (picks : List Pick) → AreBytes picks → steps_of (steps_text picks) ≡ Ok picks
steps_back picks h = list_back Picks 1 picks (all_fit picks h)
