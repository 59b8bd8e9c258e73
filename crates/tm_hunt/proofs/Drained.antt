-- The kinds of the events of a planned run: those that are drawn for it, and drains where stores may be pending.
use Rattle.std.proofs.Common.{◌≡◌, refl, sym, ap, subst, ℕ, zero, suc, Bool, true, false, ◌||◌, Option, Some, None}
use Rattle.tm_model.specs.declared.outcome.Event.TheVariants.{Abort, Drain}
use Rattle.tm_model.specs.declared.outcome.Interference.TheVariants.{Interrupt, Eviction, Snoop}
use Rattle.tm_pick.specs.Drains.{AreDrainsOf, drains_alone}
use Rattle.tm_pick.specs.Drawn.{AreDrawn}
use Rattle.tm_pick.specs.Kinds.{AreAmong, no_kinds}
use Rattle.tm_pick.specs.Lots.{kinds_drawn}
use Rattle.tm_pick.specs.Sources.{both_kinds}
use Rattle.tm_pick.specs.declared.events.Events.{Events}
use Rattle.tm_pick.specs.declared.kinds.Kinds.{Kinds}
use Rattle.tm_pick.specs.declared.lot.Lot.{Lot}
use Rattle.tm_hunt.specs.Runs.{AreKindsOf, kinds_told}

or_none : (a : Bool) → (a || false) ≡ true → a ≡ true
or_none true h = refl
or_none false h = h

among_both : (kinds : Kinds) → AreAmong (both_kinds kinds no_kinds) kinds
among_both kinds (Abort Interrupt) h = or_none kinds.interrupt h
among_both kinds (Abort Eviction) h = or_none kinds.eviction h
among_both kinds (Abort Snoop) h = or_none kinds.snoop h
among_both kinds Drain h = or_none kinds.drain h

among_drains : (stores : ℕ) (kinds : Kinds) → AreAmong (both_kinds kinds drains_alone) (kinds_told (suc stores) kinds)
among_drains stores kinds (Abort Interrupt) h = or_none kinds.interrupt h
among_drains stores kinds (Abort Eviction) h = or_none kinds.eviction h
among_drains stores kinds (Abort Snoop) h = or_none kinds.snoop h
among_drains stores kinds Drain h = refl

among_told : (stores seed run : ℕ) (kinds : Kinds) (lot : Option Lot) → AreDrainsOf stores seed run lot →
    AreAmong (both_kinds kinds (kinds_drawn lot)) (kinds_told stores kinds)
among_told zero seed run kinds lot none =
    subst (λ (l : Option Lot). AreAmong (both_kinds kinds (kinds_drawn l)) kinds) (sym none) (among_both kinds)
among_told (suc stores) seed run kinds None none = absurd none
among_told (suc stores) seed run kinds (Some lot) is =
    subst (λ (k : Kinds). AreAmong (both_kinds kinds k) (kinds_told (suc stores) kinds)) (sym is.of_kinds)
    (among_drains stores kinds)

pub kinds_of_run : (events : Events) (stores seed run : ℕ) (kinds : Kinds) (lot : Option Lot) → AreDrawn events kinds →
    AreDrainsOf stores seed run lot → AreKindsOf events stores (both_kinds kinds (kinds_drawn lot))
kinds_of_run events stores seed run kinds lot drawn drains =
    (kinds, drawn, among_told stores seed run kinds lot drains)
