-- The kinds of events that are drawn.
use Rattle.std.specs.Prelude.{◌≡◌, ◌⊎◌}
use Rattle.tm_model.specs.declared.outcome.Interference.{Interference}
use Rattle.tm_pick.specs.Kinds.{all_kinds, no_kinds, only_kind}
use Rattle.tm_pick.specs.declared.events.Events.{Events}
use Rattle.tm_pick.specs.declared.events.Events.TheVariants.{Never, Rate, Draw}
use Rattle.tm_pick.specs.declared.kinds.Kinds.{Kinds}

-- the kinds of a run's events: none where it has none, those of its rate, and one of the three or all of them where the
-- run draws them
abbrev pub AreDrawn : Events → Kinds → Type 0
AreDrawn Never kinds = kinds ≡ no_kinds
AreDrawn (Rate one_in asked) kinds = kinds ≡ asked
AreDrawn Draw kinds = ((by : Interference) × (kinds ≡ only_kind by)) ⊎ (kinds ≡ all_kinds)
