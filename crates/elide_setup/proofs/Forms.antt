-- How a schedule that is drawn is recorded, by what is said of events.
use Rattle.std.proofs.Common.{◌≡◌, ℕ, Bool, true, false, List, ◌==◌, Option, None, Some, ap, sym}
use Rattle.std.specs.Prelude.{codes, cond, is_some, nat_eq}
use Rattle.std.specs.Borrow.{Bor}
use Rattle.std.specs.Cmp.Lexicographic.{pointwise}
use Rattle.std.specs.Option.{option_copied}
use Rattle.tm_pick.specs.declared.events.Events.{Events}
use Rattle.tm_pick.specs.declared.events.Events.TheVariants.{Never, Rate}
use Rattle.tm_pick.specs.declared.kinds.Kinds.{Kinds}
use Rattle.elide_setup.specs.Drawing.{events_asked, may_come}
use Rattle.elide_setup.specs.Events.{events_said, interrupts, kinds_behind, one_in_said, pieces, rate_behind, rate_from}

rate_comes : (many : Option ℕ) (kinds : Option Kinds) (said : Events) → rate_from many kinds ≡ Some said
    → may_come said ≡ true
rate_comes None kinds said h = absurd (cc)
rate_comes (Some many) None said h = absurd (cc)
rate_comes (Some many) (Some kinds) said h = let e : Rate many kinds ≡ said = cc in ap may_come (sym e)

behind_comes : (text : Option (List ℕ)) (said : Events) → rate_behind text ≡ Some said → may_come said ≡ true
behind_comes None said h = let e : Rate 1 interrupts ≡ said = cc in ap may_come (sym e)
behind_comes (Some text) said h =
    rate_comes (one_in_said (pieces (λ b. b == 58) text).0) (kinds_behind (pieces (λ b. b == 58) text).1) said h

comes_if : (b : Bool) (events : Option Events) (said : Events) → (events ≡ Some said → may_come said ≡ true)
    → cond b events None ≡ Some said → may_come said ≡ true
comes_if true events said comes h = comes h
comes_if false events said comes h = absurd (cc)

said_comes : (text : List ℕ) (said : Events) → events_said text ≡ Some said → may_come said ≡ true
said_comes text said h =
    comes_if (pointwise nat_eq (pieces (λ b. b == 47) text).0 (codes "1")) (rate_behind (pieces (λ b. b == 47) text).1)
    said (behind_comes (pieces (λ b. b == 47) text).1 said) h

-- events may come exactly where something is said of them
pub asked_come : (events : Option (Bor (List ℕ))) (said : Events) → events_asked (option_copied events) ≡ Some said
    → may_come said ≡ is_some events
asked_come None said h = let e : Never ≡ said = cc in ap may_come (sym e)
asked_come (Some text) said h = said_comes text.now said h
