-- A step that is due and refused, behind steps that were made.
use Rattle.std.proofs.Common.{◌≡◌, ◌≤◌, ◌<◌, ◌-◌, ◌+◌, ℕ, List, [], ◌∷◌, ◌++◌, length, take, drop, get_or, replicate}
use Rattle.std.proofs.Common.{arith, refl, sym, ap, inl, inr, ◌∙◌, append_assoc}
use Rattle.std.proofs.lemmas.List.{replicate-append-replicate, take-append-drop}
use Rattle.std.proofs.lemmas.Result.{IfErr-weaker}
use Rattle.std.specs.Prelude.{◌⊎◌, IfErr, Result, suc}
use Rattle.tm_model.specs.declared.outcome.Outcome.{Outcome}
use Rattle.tm_model.specs.declared.outcome.Pick.{Pick}
use Rattle.elide_setup.specs.Refused.{IsNextOf, IsStepRefused}
use Rattle.elide_setup.specs.Schedules.{picks_made}
use Rattle.elide_setup.specs.Walks.{Leads}
use Rattle.elide_setup.specs.declared.fault.Refusal.{Refusal}
use Rattle.elide_setup.proofs.Walks.{leads_on, picks_on}

-- the first step that is asked for
pub refused_at_once : {Maker : Type 0} (takes : Maker → List (Pick × Outcome) → Maker → Type 0)
    (refuses : Maker → Pick → Refusal → Type 0)
    (is_due : List (Pick × Outcome) → Pick → Type 0) (before : Maker) (pick : Pick) (why : Refusal) →
    is_due [] pick → refuses before pick why → IsStepRefused takes refuses is_due before why
refused_at_once takes refuses is_due before pick why due refused = record {
  made = [];
  after = before;
  lead = ([], refl, refl);
  pick = pick;
  due = due;
  refused = refused;
}

-- one behind steps, which is due behind them
pub refused_behind : {Maker : Type 0} (takes : Maker → List (Pick × Outcome) → Maker → Type 0)
    (refuses : Maker → Pick → Refusal → Type 0)
    (is_due is_then : List (Pick × Outcome) → Pick → Type 0) (steps : List (Pick × Outcome)) (before between : Maker)
    (why : Refusal) →
    Leads takes before steps between
    → ((made : List (Pick × Outcome)) (pick : Pick) → is_then made pick → is_due (steps ++ made) pick) →
    IsStepRefused takes refuses is_then between why → IsStepRefused takes refuses is_due before why
refused_behind takes refuses is_due is_then steps before between why lead due h = record {
  made = steps ++ h.made;
  after = h.after;
  lead = leads_on takes steps h.made before between h.after lead h.lead;
  pick = h.pick;
  due = due h.made h.pick h.due;
  refused = h.refused;
}

-- one that is due by another word, too
pub refused_as : {Maker : Type 0} (takes : Maker → List (Pick × Outcome) → Maker → Type 0)
    (refuses : Maker → Pick → Refusal → Type 0)
    (is_due is_then : List (Pick × Outcome) → Pick → Type 0) (before : Maker) (why : Refusal) →
    ((made : List (Pick × Outcome)) (pick : Pick) → is_then made pick → is_due made pick) →
    IsStepRefused takes refuses is_then before why → IsStepRefused takes refuses is_due before why
refused_as takes refuses is_due is_then before why due h =
    refused_behind takes refuses is_due is_then [] before before why ([], refl, refl) due h

-- the same where something else may have been the reason
pub refused_or : {Maker T : Type 0} (takes : Maker → List (Pick × Outcome) → Maker → Type 0)
    (refuses : Maker → Pick → Refusal → Type 0)
    (is_due is_then : List (Pick × Outcome) → Pick → Type 0) (before : Maker) (other : Refusal → Type 0)
    (r : Result T Refusal) →
    ((made : List (Pick × Outcome)) (pick : Pick) → is_then made pick → is_due made pick) →
    IfErr r (λ why. IsStepRefused takes refuses is_then before why ⊎ other why)
    → IfErr r (λ why. IsStepRefused takes refuses is_due before why ⊎ other why)
refused_or takes refuses is_due is_then before other r due h =
    IfErr-weaker r (λ why. IsStepRefused takes refuses is_then before why ⊎ other why)
    (λ why. IsStepRefused takes refuses is_due before why ⊎ other why)
    (λ why.
    elim [ inl refused ↦ inl (refused_as takes refuses is_due is_then before why due refused) | inr left ↦ inr left ]) h

-- ---- of a list

-- the next step of what is left is that of the list
pub next_behind : (listed rest : List Pick) (i : ℕ) (steps made : List (Pick × Outcome)) (pick : Pick)
    → picks_made steps ≡ take i listed → rest ≡ drop i listed →
    IsNextOf rest made pick → IsNextOf listed (steps ++ made) pick
next_behind listed rest i steps made pick done is next = (
  next.0,
  sym (take-append-drop i listed)
      ∙ ap (λ l. l ++ drop i listed) (sym done)
      ∙ ap (λ l. picks_made steps ++ l) (sym is ∙ next.1)
      ∙ sym (append_assoc (picks_made steps) (picks_made made) (pick ∷ next.0))
      ∙ ap (λ l. l ++ pick ∷ next.0) (sym (picks_on steps made)),
)

-- so is that of its first ones
pub next_in_front : (listed front : List Pick) (n : ℕ) (made : List (Pick × Outcome)) (pick : Pick)
    → front ≡ take n listed →
    IsNextOf front made pick → IsNextOf listed made pick
next_in_front listed front n made pick is next = (
  next.0 ++ drop n listed,
  sym (take-append-drop n listed)
      ∙ ap (λ l. l ++ drop n listed) (sym is ∙ next.1)
      ∙ append_assoc (picks_made made) (pick ∷ next.0) (drop n listed),
)

-- the first step of all
pub next_first : (listed : List Pick) (pick none : Pick) → 1 ≤ length listed → pick ≡ get_or listed 0 none
    → IsNextOf listed [] pick
next_first [] pick none some is = absurd (omega (arith, some))
next_first (first ∷ later) pick none some is = (later, ap (λ p. p ∷ later) (sym is))

-- one of so many that are alike
alike_left : (pick : Pick) (count done : ℕ) → done < count
    → replicate done pick ++ pick ∷ replicate (count - done - 1) pick ≡ replicate count pick
alike_left pick count done few =
    let same : done + suc (count - done - 1) ≡ count = omega (arith, few) in
    replicate-append-replicate done (suc (count - done - 1)) pick ∙ ap (λ n. replicate n pick) same

pub next_alike : (pick : Pick) (count done : ℕ) (made : List (Pick × Outcome)) → done < count
    → picks_made made ≡ replicate done pick →
    IsNextOf (replicate count pick) made pick
next_alike pick count done made few is = (
  replicate (count - done - 1) pick,
  sym (alike_left pick count done few) ∙ ap (λ l. l ++ pick ∷ replicate (count - done - 1) pick) (sym is),
)
