-- The kinds of events that come from a list, from a draw, and from both.
use Rattle.std.proofs.Common.{◌≡◌, refl, sym, ap, ◌∙◌, ℕ, zero, suc, ◌<◌, Bool, true, false, ◌||◌, true≢false}
use Rattle.std.proofs.Common.{List, [], ◌∷◌, length, Option, Some, None, slice_index_or, arith}
use Rattle.std.proofs.lemmas.List.Elements.{All-head, All-tail}
use Rattle.tm_model.specs.declared.outcome.Event.{Event}
use Rattle.tm_model.specs.declared.outcome.Event.TheVariants.{Abort, Drain}
use Rattle.tm_model.specs.declared.outcome.Interference.TheVariants.{Interrupt, Eviction, Snoop}
use Rattle.tm_model.specs.declared.outcome.Pick.{Pick}
use Rattle.tm_pick.specs.Kinds.{AreAmong, AreOfKinds, IsOfKinds, has_event, no_kinds}
use Rattle.tm_pick.specs.Listed.{kinds_in, with_kind}
use Rattle.tm_pick.specs.Sources.{both_kinds}
use Rattle.tm_pick.specs.declared.kinds.Kinds.{Kinds}

-- ---- none

-- an event of no kinds is none
pub none_of : (event : Option Event) → IsOfKinds no_kinds event → event ≡ None
none_of None h = refl
none_of (Some (Abort Interrupt)) h = absurd (true≢false (sym h))
none_of (Some (Abort Eviction)) h = absurd (true≢false (sym h))
none_of (Some (Abort Snoop)) h = absurd (true≢false (sym h))
none_of (Some Drain) h = absurd (true≢false (sym h))

-- ---- listed

of_first : (event : Option Event) (kinds : Kinds) → IsOfKinds (with_kind event kinds) event
of_first None kinds = tt
of_first (Some (Abort Interrupt)) kinds = refl
of_first (Some (Abort Eviction)) kinds = refl
of_first (Some (Abort Snoop)) kinds = refl
of_first (Some Drain) kinds = refl

of_more : (first : Option Event) (kinds : Kinds) (event : Option Event) → IsOfKinds kinds event
    → IsOfKinds (with_kind first kinds) event
of_more None kinds event h = h
of_more (Some by) kinds None h = tt
of_more (Some (Abort Interrupt)) kinds (Some (Abort Interrupt)) h = refl
of_more (Some (Abort Interrupt)) kinds (Some (Abort Eviction)) h = h
of_more (Some (Abort Interrupt)) kinds (Some (Abort Snoop)) h = h
of_more (Some (Abort Interrupt)) kinds (Some Drain) h = h
of_more (Some (Abort Eviction)) kinds (Some (Abort Interrupt)) h = h
of_more (Some (Abort Eviction)) kinds (Some (Abort Eviction)) h = refl
of_more (Some (Abort Eviction)) kinds (Some (Abort Snoop)) h = h
of_more (Some (Abort Eviction)) kinds (Some Drain) h = h
of_more (Some (Abort Snoop)) kinds (Some (Abort Interrupt)) h = h
of_more (Some (Abort Snoop)) kinds (Some (Abort Eviction)) h = h
of_more (Some (Abort Snoop)) kinds (Some (Abort Snoop)) h = refl
of_more (Some (Abort Snoop)) kinds (Some Drain) h = h
of_more (Some Drain) kinds (Some (Abort Interrupt)) h = h
of_more (Some Drain) kinds (Some (Abort Eviction)) h = h
of_more (Some Drain) kinds (Some (Abort Snoop)) h = h
of_more (Some Drain) kinds (Some Drain) h = refl

-- the event of a step of a list is of the list's kinds
pub of_listed : (picks : List Pick) (i : ℕ) (d : Pick) → i < length picks
    → IsOfKinds (kinds_in picks) (slice_index_or picks i d).event
of_listed [] i d h = absurd (omega (arith, h))
of_listed (pick ∷ picks) zero d h = of_first pick.event (kinds_in picks)
of_listed (pick ∷ picks) (suc i) d h =
    of_more pick.event (kinds_in picks) (slice_index_or picks i d).event (of_listed picks i d (omega (arith, h)))

-- the list's kinds are among those that its steps are of
of_either : (event : Option Event) (more kinds : Kinds) (other : Event) → IsOfKinds kinds event
    → (has_event more other ≡ true → has_event kinds other ≡ true)
    → has_event (with_kind event more) other ≡ true → has_event kinds other ≡ true
of_either None more kinds other first rest h = rest h
of_either (Some (Abort Interrupt)) more kinds (Abort Interrupt) first rest h = first
of_either (Some (Abort Interrupt)) more kinds (Abort Eviction) first rest h = rest h
of_either (Some (Abort Interrupt)) more kinds (Abort Snoop) first rest h = rest h
of_either (Some (Abort Interrupt)) more kinds Drain first rest h = rest h
of_either (Some (Abort Eviction)) more kinds (Abort Interrupt) first rest h = rest h
of_either (Some (Abort Eviction)) more kinds (Abort Eviction) first rest h = first
of_either (Some (Abort Eviction)) more kinds (Abort Snoop) first rest h = rest h
of_either (Some (Abort Eviction)) more kinds Drain first rest h = rest h
of_either (Some (Abort Snoop)) more kinds (Abort Interrupt) first rest h = rest h
of_either (Some (Abort Snoop)) more kinds (Abort Eviction) first rest h = rest h
of_either (Some (Abort Snoop)) more kinds (Abort Snoop) first rest h = first
of_either (Some (Abort Snoop)) more kinds Drain first rest h = rest h
of_either (Some Drain) more kinds (Abort Interrupt) first rest h = rest h
of_either (Some Drain) more kinds (Abort Eviction) first rest h = rest h
of_either (Some Drain) more kinds (Abort Snoop) first rest h = rest h
of_either (Some Drain) more kinds Drain first rest h = first

among_first : (event : Option Event) (more kinds : Kinds) → IsOfKinds kinds event → AreAmong more kinds
    → AreAmong (with_kind event more) kinds
among_first event more kinds first rest = λ other. of_either event more kinds other first (rest other)

among_none : (kinds : Kinds) → AreAmong no_kinds kinds
among_none kinds (Abort Interrupt) h = absurd (true≢false (sym h))
among_none kinds (Abort Eviction) h = absurd (true≢false (sym h))
among_none kinds (Abort Snoop) h = absurd (true≢false (sym h))
among_none kinds Drain h = absurd (true≢false (sym h))

pub listed_among : (kinds : Kinds) (picks : List Pick) → AreOfKinds kinds picks → AreAmong (kinds_in picks) kinds
listed_among kinds [] h = among_none kinds
listed_among kinds (pick ∷ picks) h =
    let each : Pick → Type 0 = λ p. IsOfKinds kinds p.event in
    among_first pick.event (kinds_in picks) kinds (All-head each pick picks h)
    (listed_among kinds picks (All-tail each pick picks h))

-- ---- both

or_left : (a b : Bool) → a ≡ true → a || b ≡ true
or_left true b h = refl
or_left false b h = absurd (true≢false (sym h))

or_right : (a b : Bool) → b ≡ true → a || b ≡ true
or_right true b h = refl
or_right false b h = h

pub of_left : (kinds others : Kinds) (event : Option Event) → IsOfKinds kinds event
    → IsOfKinds (both_kinds kinds others) event
of_left kinds others None h = tt
of_left kinds others (Some (Abort Interrupt)) h = or_left kinds.interrupt others.interrupt h
of_left kinds others (Some (Abort Eviction)) h = or_left kinds.eviction others.eviction h
of_left kinds others (Some (Abort Snoop)) h = or_left kinds.snoop others.snoop h
of_left kinds others (Some Drain) h = or_left kinds.drain others.drain h

pub of_right : (kinds others : Kinds) (event : Option Event) → IsOfKinds others event
    → IsOfKinds (both_kinds kinds others) event
of_right kinds others None h = tt
of_right kinds others (Some (Abort Interrupt)) h = or_right kinds.interrupt others.interrupt h
of_right kinds others (Some (Abort Eviction)) h = or_right kinds.eviction others.eviction h
of_right kinds others (Some (Abort Snoop)) h = or_right kinds.snoop others.snoop h
of_right kinds others (Some Drain) h = or_right kinds.drain others.drain h

abbrev kinds_of : Bool → Bool → Bool → Bool → Kinds
kinds_of interrupt eviction snoop drain =
    record { interrupt = interrupt; eviction = eviction; snoop = snoop; drain = drain }

same_kinds : (a b c d x y z w : Bool) → a ≡ x → b ≡ y → c ≡ z → d ≡ w → kinds_of a b c d ≡ kinds_of x y z w
same_kinds a b c d x y z w p q r s =
    ap (λ (v : Bool). kinds_of v b c d) p ∙ ap (λ (v : Bool). kinds_of x v c d) q
    ∙ ap (λ (v : Bool). kinds_of x y v d) r ∙ ap (λ (v : Bool). kinds_of x y z v) s

or_none : (a : Bool) → a || false ≡ a
or_none true = refl
or_none false = refl

-- those of a list alone
pub list_alone : (kinds : Kinds) → both_kinds kinds no_kinds ≡ kinds
list_alone kinds =
    same_kinds (kinds.interrupt || false) (kinds.eviction || false) (kinds.snoop || false) (kinds.drain || false)
    kinds.interrupt kinds.eviction kinds.snoop kinds.drain
    (or_none kinds.interrupt) (or_none kinds.eviction) (or_none kinds.snoop) (or_none kinds.drain)

or_neither : (a b c : Bool) → a || b ≡ false → a || c ≡ c
or_neither false b c h = refl
or_neither true b c h = absurd (true≢false h)

-- those of a draw alone, where the list has none
pub draw_alone : (kinds before after : Kinds) → both_kinds kinds before ≡ no_kinds → both_kinds kinds after ≡ after
draw_alone kinds before after h =
    same_kinds (kinds.interrupt || after.interrupt) (kinds.eviction || after.eviction) (kinds.snoop || after.snoop)
    (kinds.drain || after.drain) after.interrupt after.eviction after.snoop after.drain
    (or_neither kinds.interrupt before.interrupt after.interrupt (ap (λ (k : Kinds). k.interrupt) h))
    (or_neither kinds.eviction before.eviction after.eviction (ap (λ (k : Kinds). k.eviction) h))
    (or_neither kinds.snoop before.snoop after.snoop (ap (λ (k : Kinds). k.snoop) h))
    (or_neither kinds.drain before.drain after.drain (ap (λ (k : Kinds). k.drain) h))
