-- The events of a schedule from which steps are cut are of the kinds that were there.
use Rattle.std.proofs.Common.{◌≡◌, sym, subst, ℕ, zero, suc, ◌-◌, List, [], ◌∷◌, ◌++◌, take, drop, Option, Some, None}
use Rattle.std.proofs.Common.{refl, true}
use Rattle.std.specs.Prelude.{slice_index_or, slice_range}
use Rattle.std.proofs.lemmas.List.Elements.{All-append, All-cons, All-contains, All-contains_itself, All-drop, All-nil}
use Rattle.std.proofs.lemmas.List.Elements.{All-take, All-weaker}
use Rattle.tm_model.specs.declared.outcome.Event.{Event}
use Rattle.tm_model.specs.declared.outcome.Event.TheVariants.{Abort, Drain}
use Rattle.tm_model.specs.declared.outcome.Interference.TheVariants.{Interrupt, Eviction, Snoop}
use Rattle.tm_model.specs.declared.outcome.Pick.{Pick}
use Rattle.tm_pick.specs.Kinds.{AreAmong, AreOfKinds, IsOfKinds}
use Rattle.tm_pick.specs.declared.kinds.Kinds.{Kinds}
use Rattle.tm_hunt.specs.Kept.{ComesOf, HasDrain, KeepKinds, KeepsKinds}
use Rattle.tm_hunt.specs.Runs.{kinds_told}

abbrev OfKinds : Kinds → Pick → Type 0
OfKinds kinds pick = IsOfKinds kinds pick.event

-- ---- cuts

pub keeps_none : (steps : List Pick) → KeepsKinds steps []
keeps_none steps = λ kinds h. All-nil (OfKinds kinds)

pub keeps_all : (steps : List Pick) → KeepsKinds steps steps
keeps_all steps = λ kinds h. h

pub keeps_part : (steps : List Pick) (from to : ℕ) → KeepsKinds steps (slice_range steps from to)
keeps_part steps from to = λ kinds h.
    All-take (OfKinds kinds) (to - from) (drop from steps) (All-drop (OfKinds kinds) from steps h)

pub keeps_front : (steps : List Pick) (count : ℕ) → KeepsKinds steps (take count steps)
keeps_front steps count = λ kinds h. All-take (OfKinds kinds) count steps h

pub keeps_both : (steps one other : List Pick) → KeepsKinds steps one → KeepsKinds steps other →
    KeepsKinds steps (one ++ other)
keeps_both steps one other first second = λ kinds h.
    All-append (OfKinds kinds) one other (first kinds h) (second kinds h)

-- behind what was kept, and behind nothing
pub keeps_more : (steps before part after : List Pick) → after ≡ before ++ part → KeepsKinds steps before →
    KeepsKinds steps part → KeepsKinds steps after
keeps_more steps before part after is first second =
    subst (KeepsKinds steps) (sym is) (keeps_both steps before part first second)

pub keeps_empty : (steps none : List Pick) → none ≡ [] → KeepsKinds steps none
keeps_empty steps none is = subst (KeepsKinds steps) (sym is) (keeps_none steps)

-- a step without an event
pub keeps_plain : (steps : List Pick) (core : ℕ) → KeepsKinds steps (record { core = core; event = None } ∷ [])
keeps_plain steps core = λ kinds h.
    All-cons (OfKinds kinds) record { core = core; event = None } [] tt (All-nil (OfKinds kinds))

-- ---- fronts

of_among : (kinds others : Kinds) → AreAmong kinds others → (event : Option Event) → IsOfKinds kinds event →
    IsOfKinds others event
of_among kinds others among None h = tt
of_among kinds others among (Some event) h = among event h

told_among : (stores : ℕ) (kinds others : Kinds) → AreAmong kinds others → (event : Option Event) →
    IsOfKinds (kinds_told stores kinds) event → IsOfKinds (kinds_told stores others) event
told_among zero kinds others among event h = of_among kinds others among event h
told_among (suc stores) kinds others among None h = tt
told_among (suc stores) kinds others among (Some Drain) h = refl
told_among (suc stores) kinds others among (Some (Abort Interrupt)) h = among (Abort Interrupt) h
told_among (suc stores) kinds others among (Some (Abort Eviction)) h = among (Abort Eviction) h
told_among (suc stores) kinds others among (Some (Abort Snoop)) h = among (Abort Snoop) h

told_once : (stores : ℕ) (kinds : Kinds) (event : Option Event) →
    IsOfKinds (kinds_told stores (kinds_told stores kinds)) event → IsOfKinds (kinds_told stores kinds) event
told_once zero kinds event h = h
told_once (suc stores) kinds event h = h

-- kinds that are drains besides others, where these may be told of anyhow
pub told_of : (stores : ℕ) (kinds others : Kinds) (picks : List Pick) → AreAmong kinds (kinds_told stores others) →
    AreOfKinds (kinds_told stores kinds) picks → AreOfKinds (kinds_told stores others) picks
told_of stores kinds others picks among h =
    All-weaker (OfKinds (kinds_told stores kinds)) (OfKinds (kinds_told stores others))
    (λ pick is. told_once stores others pick.event
    (told_among stores kinds (kinds_told stores others) among pick.event is)) picks h

-- what the run of a front comes to
pub comes_of : (stores : ℕ) (kinds : Kinds) (front picks : List Pick) →
    ((others : Kinds) → AreOfKinds others front → AreAmong kinds others) → AreOfKinds (kinds_told stores kinds) picks →
    ComesOf stores front picks
comes_of stores kinds front picks among of = λ others h.
    All-weaker (OfKinds (kinds_told stores kinds)) (OfKinds (kinds_told stores others))
    (λ pick is. told_among stores kinds others (among others h) pick.event is) picks of

of_told : (stores : ℕ) (kinds : Kinds) (event : Option Event) → IsOfKinds (kinds_told stores kinds) event →
    (event ≡ Some Drain → kinds.drain ≡ true) → IsOfKinds kinds event
of_told zero kinds event h drains = h
of_told (suc stores) kinds None h drains = tt
of_told (suc stores) kinds (Some Drain) h drains = drains refl
of_told (suc stores) kinds (Some (Abort Interrupt)) h drains = h
of_told (suc stores) kinds (Some (Abort Eviction)) h drains = h
of_told (suc stores) kinds (Some (Abort Snoop)) h drains = h

-- with no drain that was not there, they are of the kinds themselves
no_drain_more : (stores : ℕ) (kinds : Kinds) (picks : List Pick) → AreOfKinds (kinds_told stores kinds) picks →
    (HasDrain picks → kinds.drain ≡ true) → AreOfKinds kinds picks
no_drain_more stores kinds picks of drains = λ index other below.
    of_told stores kinds (slice_index_or picks index other).event (of index other below)
    (λ is. drains (slice_index_or picks index other, All-contains_itself picks index other below, is))

of_drain : (kinds : Kinds) (picks : List Pick) → HasDrain picks → AreOfKinds kinds picks → kinds.drain ≡ true
of_drain kinds picks some of =
    subst (IsOfKinds kinds) some.2 (All-contains (OfKinds kinds) picks some.0 of some.1)

pub keep_same : (front best : List Pick) → KeepKinds front best front best
keep_same front best = record { front = λ kinds h. h; best = λ kinds h k. k }

-- another front, and what it leads to
pub keep_other : (stores : ℕ) (front best other picks : List Pick) → KeepsKinds front other →
    ComesOf stores other picks → (HasDrain picks → HasDrain best) → KeepKinds front best other picks
keep_other stores front best other picks first second drains = record {
  front = first;
  best = λ kinds h k.
      no_drain_more stores kinds picks (second kinds (first kinds h)) (λ some. of_drain kinds best (drains some) k);
}

-- another front, whose schedule is not taken
pub keep_front : (front best other : List Pick) → KeepsKinds front other → KeepKinds front best other best
keep_front front best other first = record { front = first; best = λ kinds h k. k }

pub keep_more : (front best front2 best2 front3 best3 : List Pick) → KeepKinds front best front2 best2 →
    KeepKinds front2 best2 front3 best3 → KeepKinds front best front3 best3
keep_more front best front2 best2 front3 best3 one other = record {
  front = λ kinds h. other.front kinds (one.front kinds h);
  best = λ kinds h k. other.best kinds (one.front kinds h) (one.best kinds h k);
}

-- a front that begins as the schedule
pub keeps_best : (front best front2 best2 : List Pick) → front ≡ best → KeepKinds front best front2 best2 →
    KeepsKinds best best2
keeps_best front best front2 best2 same keep = λ kinds h.
    keep.best kinds (subst (AreOfKinds kinds) (sym same) h) h

-- for the ways to make a front shorter
pub ruleset trying = (keep_same, keep_front)
