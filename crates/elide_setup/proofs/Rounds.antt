-- Steps that are drawn, and one more.
use Rattle.std.proofs.Common.{◌≡◌, ◌≢◌, ◌<◌, ◌≤◌, ◌+◌, ℕ, Bool, true, false, List, [], ◌∷◌, ◌++◌, Option, None, Some}
use Rattle.std.proofs.Common.{length, arith, refl, ap, subst, ◌∙◌, inl, inr, length-append}
use Rattle.std.specs.Prelude.{◌↔◌, ◌==◌, ◌&&◌, ◌||◌, All, Contains, IfSome, is_some, not}
use Rattle.std.proofs.lemmas.Bool.Decides.{nat_tests}
use Rattle.tm_model.specs.declared.outcome.Outcome.{Outcome}
use Rattle.tm_model.specs.declared.outcome.Pick.{Pick}
use Rattle.tm_pick.specs.Turns.{IsInTurn}
use Rattle.elide_setup.specs.Rounds.{AreGoing, GoOn, IsDrawnOut, at_first, has_stopped, is_stop, one_more}

-- steps were made, so many and the last of a core, behind which these cores are going, and it goes on so
pub record IsUnderWay (is_in_turn : Bool) (cores number : ℕ) (going : List ℕ) (turn : Option (Option ℕ))
    (steps : List (Pick × Outcome)) : Type 0 where
  pub last : Option ℕ
  pub one_by_one : GoOn is_in_turn cores last steps
  pub left : AreGoing cores steps going
  pub behind : is_in_turn ≡ true → turn ≡ Some last
  pub count : length steps ≡ number

or_first : (a b : Bool) → (a || b) ≡ false → a ≡ false
or_first false b h = refl
or_first true b h = h

or_second : (a b : Bool) → (a || b) ≡ false → b ≡ false
or_second false b h = h
or_second true b h = absurd (cc)

or_both : (a b : Bool) → a ≡ false → b ≡ false → (a || b) ≡ false
or_both false b h k = k
or_both true b h k = h

-- a core has stopped with one step more exactly where it had, or stops with this one
not_before : (steps : List (Pick × Outcome)) (pick : Pick) (outcome : Outcome) (core : ℕ)
    → has_stopped (steps ++ (pick, outcome) ∷ []) core ≡ false → has_stopped steps core ≡ false
not_before [] pick outcome core h = refl
not_before (made ∷ steps) pick outcome core h =
    let f : Bool = (made.0.core == core) && is_stop made.1 in
    or_both f (has_stopped steps core) (or_first f (has_stopped (steps ++ (pick, outcome) ∷ []) core) h)
    (not_before steps pick outcome core (or_second f (has_stopped (steps ++ (pick, outcome) ∷ []) core) h))

not_now : (steps : List (Pick × Outcome)) (pick : Pick) (outcome : Outcome) (core : ℕ)
    → has_stopped (steps ++ (pick, outcome) ∷ []) core ≡ false → ((pick.core == core) && is_stop outcome) ≡ false
not_now [] pick outcome core h = or_first ((pick.core == core) && is_stop outcome) false h
not_now (made ∷ steps) pick outcome core h =
    not_now steps pick outcome core
    (or_second ((made.0.core == core) && is_stop made.1) (has_stopped (steps ++ (pick, outcome) ∷ []) core) h)

not_yet : (steps : List (Pick × Outcome)) (pick : Pick) (outcome : Outcome) (core : ℕ) → has_stopped steps core ≡ false
    → ((pick.core == core) && is_stop outcome) ≡ false → has_stopped (steps ++ (pick, outcome) ∷ []) core ≡ false
not_yet [] pick outcome core h k = or_both ((pick.core == core) && is_stop outcome) false k refl
not_yet (made ∷ steps) pick outcome core h k =
    let f : Bool = (made.0.core == core) && is_stop made.1 in
    or_both f (has_stopped (steps ++ (pick, outcome) ∷ []) core) (or_first f (has_stopped steps core) h)
    (not_yet steps pick outcome core (or_second f (has_stopped steps core) h) k)

and_none : (a b : Bool) → b ≡ false → (a && b) ≡ false
and_none false b h = refl
and_none true b h = h

-- a step that stops no core
pub still_going : (cores : ℕ) (steps : List (Pick × Outcome)) (going : List ℕ) (pick : Pick) (outcome : Outcome)
    → is_stop outcome ≡ false → AreGoing cores steps going →
    AreGoing cores (steps ++ (pick, outcome) ∷ []) going
still_going cores steps going pick outcome none h core = (
  λ among. let before = (h core).0 among in
      (before.0, not_yet steps pick outcome core before.1 (and_none (pick.core == core) (is_stop outcome) none)),
  λ is. (h core).1 (is.0, not_before steps pick outcome core is.1),
)

other_core : (one other : ℕ) (b : Bool) → other ≢ one → ((one == other) && b) ≡ false
other_core one other b h = grind (arith, nat_tests)

same_core : (one other : ℕ) (b : Bool) → ((one == other) && b) ≡ false → b ≡ true → other ≢ one
same_core one other b h k = grind (arith, nat_tests)

-- and one that stops its core
pub one_less_going : (cores : ℕ) (steps : List (Pick × Outcome)) (going after : List ℕ) (pick : Pick)
    (outcome : Outcome) → is_stop outcome ≡ true →
    ((other : ℕ) → Contains after other ↔ (Contains going other × (other ≢ pick.core))) → AreGoing cores steps going
    → AreGoing cores (steps ++ (pick, outcome) ∷ []) after
one_less_going cores steps going after pick outcome stops others h core = (
  λ among.
      let was = (others core).0 among in
      let before = (h core).0 was.0 in
      (before.0, not_yet steps pick outcome core before.1 (other_core pick.core core (is_stop outcome) was.1)),
  λ is.
      (others core).1 (
        (h core).1 (is.0, not_before steps pick outcome core is.1),
        same_core pick.core core (is_stop outcome) (not_now steps pick outcome core is.1) stops,
      ),
)

-- no step was made
pub begun : (is_in_turn : Bool) (cores : ℕ) (going : List ℕ) (turn : Option (Option ℕ))
    → All (λ core. core < cores) going → ((core : ℕ) → core < cores → Contains going core) →
    (is_in_turn ≡ true → turn ≡ Some None) → IsUnderWay is_in_turn cores 0 going turn []
begun is_in_turn cores going turn below each first = record {
  last = None;
  one_by_one = at_first;
  left = λ core.
      (λ among. (subst (λ (c : ℕ). c < cores) among.2 (below among.0 core among.1), refl), λ is. each core is.0);
  behind = first;
  count = refl;
}

pub more_under_way : (is_in_turn : Bool) (cores number : ℕ) (going after : List ℕ) (turn later : Option (Option ℕ))
    (steps : List (Pick × Outcome)) (pick : Pick) (outcome : Outcome) →
    IsUnderWay is_in_turn cores number going turn steps → Contains going pick.core
    → IfSome turn (λ last. IsInTurn last going pick.core) →
    IfSome turn (λ last. later ≡ Some (Some pick.core)) → AreGoing cores (steps ++ (pick, outcome) ∷ []) after →
    IsUnderWay is_in_turn cores (number + 1) after later (steps ++ (pick, outcome) ∷ [])
more_under_way is_in_turn cores number going after turn later steps pick outcome h among turned goes rest = record {
  last = Some pick.core;
  one_by_one = one_more pick outcome going h.one_by_one h.left among
      (λ e. subst (λ (t : Option (Option ℕ)). IfSome t (λ last. IsInTurn last going pick.core)) (h.behind e) turned);
  left = rest;
  behind = λ e. subst (λ (t : Option (Option ℕ)). IfSome t (λ last. later ≡ Some (Some pick.core))) (h.behind e) goes;
  count = length-append steps ((pick, outcome) ∷ []) ∙ ap (λ (n : ℕ). n + 1) h.count;
}

pub at_limit : (is_in_turn : Bool) (cores most number : ℕ) (going : List ℕ) (turn : Option (Option ℕ))
    (steps : List (Pick × Outcome)) →
    IsUnderWay is_in_turn cores number going turn steps → number ≡ most → IsDrawnOut is_in_turn cores most steps
at_limit is_in_turn cores most number going turn steps h all =
    let as_many : length steps ≡ most = h.count ∙ all in
    record { last = h.last; one_by_one = h.one_by_one; few = omega (arith, as_many); whole = inl as_many }

none_within : (going : List ℕ) (core : ℕ) → length going ≡ 0 → Contains going core → ⊥
none_within going core none among = absurd (omega (arith, none, among.1))

all_stopped : (b : Bool) → (b ≡ false → ⊥) → b ≡ true
all_stopped true h = refl
all_stopped false h = absurd (h refl)

pub at_end : (is_in_turn : Bool) (cores most number : ℕ) (going : List ℕ) (turn : Option (Option ℕ))
    (steps : List (Pick × Outcome)) →
    IsUnderWay is_in_turn cores number going turn steps → number ≤ most → length going ≡ 0
    → IsDrawnOut is_in_turn cores most steps
at_end is_in_turn cores most number going turn steps h few none =
    let count = h.count in
    record {
      last = h.last;
      one_by_one = h.one_by_one;
      few = omega (arith, count, few);
      whole = inr (λ core below. all_stopped (has_stopped steps core)
          (λ running. none_within going core none ((h.left core).1 (below, running))));
    }

pub no_seed : (seed : Option ℕ) → not (is_some seed) ≡ true → seed ≡ None
no_seed None h = refl
no_seed (Some number) h = absurd (cc)
