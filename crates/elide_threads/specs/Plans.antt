-- Which steps of the workers come under an event, as options say (docs/FORMATS.md, "Events that are drawn").
use Rattle.std.specs.Prelude.{◌≡◌, ℕ, List, Option, Some, None, option_and_then}
use Rattle.elide_program.specs.Settings.{number_or}
use Rattle.elide_setup.specs.Events.{events_said}
use Rattle.tm_pick.specs.declared.events.Events.{Events}
use Rattle.tm_pick.specs.declared.events.Events.TheVariants.{Never}
use Rattle.tm_work.specs.declared.plan.EventPlan.{EventPlan}

-- drawn by a seed, which is 1 where none is given
abbrev pub with_seed : Option (List ℕ) → Events → Option EventPlan
with_seed seed events = option_and_then (λ n. Some (record { events = events; seed = n })) (number_or 1 seed)

-- by the texts of `--events` and of `--seed`, which is given only where events are
abbrev pub plan_said : Option (List ℕ) → Option (List ℕ) → Option EventPlan
plan_said None None = Some (record { events = Never; seed = 1 })
plan_said None (Some seed) = None
plan_said (Some events) seed = option_and_then (with_seed seed) (events_said events)
