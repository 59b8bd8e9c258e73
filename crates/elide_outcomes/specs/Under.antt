-- What the steps come under, as `--events` says it (docs/FORMATS.md, "Outcomes").
use Rattle.std.specs.Prelude.{◌≡◌, ℕ, Bool, true, false, List, [], ◌∷◌, ◌++◌, codes, Option, Some, None, if◌then◌else◌}
use Rattle.elide_setup.specs.Events.{kinds_said}
use Rattle.tm_model.specs.declared.outcome.Event.{Event}
use Rattle.tm_model.specs.declared.outcome.Event.TheVariants as event
use Rattle.tm_model.specs.declared.outcome.Interference.{Interference}
use Rattle.tm_model.specs.declared.outcome.Interference.TheVariants.{Interrupt, Eviction, Snoop}
use Rattle.tm_outcomes.specs.declared.trial.Events.{Events}
use Rattle.tm_outcomes.specs.declared.trial.Events.TheVariants as events
use Rattle.tm_pick.specs.declared.kinds.Kinds.{Kinds}
use Rattle.elide_outcomes.specs.declared.under.Under.{Under}
use Rattle.elide_outcomes.specs.declared.under.Under.TheVariants.{Nothing, AnyOf, Always}

-- no event where the option is not given, an interrupt each step by `always`, and else none or one of some kinds
abbrev pub IsUnder : Option (List ℕ) → Under → Type 0
IsUnder option Nothing = option ≡ None
IsUnder option (AnyOf kinds) = (text : List ℕ) × (option ≡ Some text) × (kinds_said text ≡ Some kinds)
IsUnder option Always = option ≡ Some (codes "always")

abbrev pub event_if : Bool → Interference → List Event
event_if is_said by = if is_said then event.Abort by ∷ [] else []

abbrev pub drain_if : Bool → List Event
drain_if drains = if drains then event.Drain ∷ [] else []

-- the events that a step may come under, where it need not, and stores may be pending or not
abbrev pub listed_by : Under → Bool → List Event
listed_by Nothing drains = drain_if drains
listed_by (AnyOf kinds) drains =
    ((event_if kinds.interrupt Interrupt ++ event_if kinds.eviction Eviction) ++ event_if kinds.snoop Snoop)
    ++ drain_if drains
listed_by Always drains = []

-- none, or one of these
abbrev pub MayBe : List Event → Events → Type 0
MayBe wanted events.Never = ⊥
MayBe wanted (events.May listed) = listed.now ≡ wanted
MayBe wanted (events.Always one) = ⊥

-- the steps of a trial come under what is said, and stores may drain at any step where some may be pending
abbrev pub AreUnder : Under → Bool → Events → Type 0
AreUnder Nothing drains all =
    (drains ≡ false → all ≡ events.Never) × (drains ≡ true → MayBe (listed_by Nothing drains) all)
AreUnder (AnyOf kinds) drains all = MayBe (listed_by (AnyOf kinds) drains) all
AreUnder Always drains all = all ≡ events.Always (event.Abort Interrupt)
