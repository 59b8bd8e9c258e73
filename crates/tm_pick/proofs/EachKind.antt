-- Each of some kinds is among them.
use Rattle.std.proofs.Common.{◌≡◌, refl, ℕ, ◌+◌, ◌<◌, ◌&&◌, Bool, true, false, if◌then◌else◌, nat_eq, arith}
use Rattle.std.specs.Int.{from_bool}
use Rattle.tm_model.specs.declared.outcome.Event.TheVariants.{Abort, Drain}
use Rattle.tm_model.specs.declared.outcome.Interference.TheVariants.{Interrupt, Eviction, Snoop}
use Rattle.tm_pick.specs.Befalls.{kind_at, kind_count}
use Rattle.tm_pick.specs.Kinds.{has_event}
use Rattle.tm_pick.specs.declared.kinds.Kinds.{Kinds}

first_is : (a b : Bool) → (a && b) ≡ true → a ≡ true
first_is true b h = refl
first_is false b h = h

-- the event of the first test that holds
chosen : (kinds : Kinds) (one two three : Bool) → (one ≡ true → kinds.interrupt ≡ true) →
    (two ≡ true → kinds.eviction ≡ true) → (three ≡ true → kinds.snoop ≡ true) →
    (one ≡ false → two ≡ false → three ≡ false → kinds.drain ≡ true) →
    has_event kinds
    (if one then Abort Interrupt else if two then Abort Eviction else if three then Abort Snoop else Drain)
    ≡ true
chosen kinds true two three is_one is_two is_three is_last = is_one refl
chosen kinds false true three is_one is_two is_three is_last = is_two refl
chosen kinds false false true is_one is_two is_three is_last = is_three refl
chosen kinds false false false is_one is_two is_three is_last = is_last refl refl refl

-- an index that is none of the first three kinds' is the fourth's
last_is : (a b c d : Bool) (index : ℕ) → index < from_bool a + from_bool b + from_bool c + from_bool d →
    (a && nat_eq index 0) ≡ false → (b && nat_eq index (from_bool a)) ≡ false →
    (c && nat_eq index (from_bool a + from_bool b)) ≡ false → d ≡ true
last_is a b c true index h first second third = refl
last_is true true true false index h first second third = absurd (grind (arith, first, second, third, h))
last_is true true false false index h first second third = absurd (grind (arith, first, second, h))
last_is true false true false index h first second third = absurd (grind (arith, first, third, h))
last_is true false false false index h first second third = absurd (grind (arith, first, h))
last_is false true true false index h first second third = absurd (grind (arith, second, third, h))
last_is false true false false index h first second third = absurd (grind (arith, second, h))
last_is false false true false index h first second third = absurd (grind (arith, third, h))
last_is false false false false index h first second third = absurd (omega (arith, h))

pub each_kind : (kinds : Kinds) (index : ℕ) → index < kind_count kinds → has_event kinds (kind_at kinds index) ≡ true
each_kind kinds index h =
    chosen kinds (kinds.interrupt && nat_eq index 0) (kinds.eviction && nat_eq index (from_bool kinds.interrupt))
    (kinds.snoop && nat_eq index (from_bool kinds.interrupt + from_bool kinds.eviction))
    (first_is kinds.interrupt (nat_eq index 0)) (first_is kinds.eviction (nat_eq index (from_bool kinds.interrupt)))
    (first_is kinds.snoop (nat_eq index (from_bool kinds.interrupt + from_bool kinds.eviction)))
    (last_is kinds.interrupt kinds.eviction kinds.snoop kinds.drain index h)
