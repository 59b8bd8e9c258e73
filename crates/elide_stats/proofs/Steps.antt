-- Steps that are counted, some behind others.
use Rattle.std.proofs.Common.{◌≡◌, ◌≤◌, ◌<◌, ◌^◌, Bool, List, [], ◌∷◌, ◌++◌, length}
use Rattle.std.proofs.Common.{ap, arith, refl, subst, sym}
use Rattle.elide_setup.specs.Runs.{AreMachineSteps}
use Rattle.tm_core.specs.Theorem.{ShownMachine as Machine}
use Rattle.elide_setup.specs.Walks.{Leads, PartsLead, steps_in}
use Rattle.tm_model.specs.declared.outcome.Outcome.{Outcome}
use Rattle.tm_model.specs.declared.outcome.Pick.{Pick}
use Rattle.tm_stats.specs.Counts.{AreCounts}
use Rattle.tm_stats.specs.declared.cause.AbortCause.{AbortCause}
use Rattle.tm_stats.specs.declared.step.Step.{Step}
use Rattle.elide_stats.specs.Counted.{AreStepsOf, AreTold, GoOn, HasCounted, IsFirstOf}
use Rattle.elide_stats.specs.declared.counting.Counting.{Counting}
use Rattle.elide_stats.specs.declared.told.CountedRun.{CountedRun}

told_then : (before : Machine) (earlier : List Step) (made : List (Pick × Outcome)) (between : Machine)
    (told : List Step) (others : List (Pick × Outcome)) (after : Machine) (all : List Step) →
    AreTold before earlier made between told → AreTold between told others after all →
    AreTold before earlier (made ++ others) after all
told_then before earlier [] between told others after all h k =
    subst (λ (m : Machine). AreTold m earlier others after all) h.0
    (subst (λ (t : List Step). AreTold between t others after all) h.1 k)
told_then before earlier (one ∷ made) between told others after all h k =
    (h.0, h.1, h.2, h.3, told_then h.0 (h.1 ∷ earlier) made between told others after all h.4 k)

told_longer : (before : Machine) (earlier : List Step) (made : List (Pick × Outcome)) (after : Machine)
    (told : List Step) → AreTold before earlier made after told → length earlier ≤ length told
told_longer before earlier [] after told h = let same : length told ≡ length earlier = ap length h.1 in omega arith
told_longer before earlier (one ∷ made) after told h =
    let more : length (h.1 ∷ earlier) ≤ length told = told_longer h.0 (h.1 ∷ earlier) made after told h.4 in omega arith

-- none
pub go_on_none : (same : AbortCause → AbortCause → Bool) (a b : Counting) → b ≡ a → GoOn same a [] b
go_on_none same a b e = λ earlier. record {
  told = earlier;
  are_told = (ap (λ (m : Counting). m.machine) e, refl);
  counts = λ few was. subst (λ (m : Counting). AreCounts same m.counts earlier) (sym e) was;
}

-- some and others
pub go_on_then : (same : AbortCause → AbortCause → Bool) (a b c : Counting) (made others : List (Pick × Outcome)) →
    GoOn same a made b → GoOn same b others c → GoOn same a (made ++ others) c
go_on_then same a b c made others h k = λ earlier.
    let one = h earlier in
    let more = k one.told in
    record {
      told = more.told;
      are_told =
          told_then a.machine earlier made b.machine one.told others c.machine more.told one.are_told more.are_told;
      counts = λ few was.
          let longer : length one.told ≤ length more.told =
          told_longer b.machine one.told others c.machine more.told more.are_told in
          let fewer : length one.told < 2 ^ 32 = omega arith in
          more.counts few (one.counts fewer was);
    }

abbrev pub Counts : (AbortCause → AbortCause → Bool) → Counting → List (Pick × Outcome) → Counting → Type 0
Counts same before steps after = AreMachineSteps before.machine steps after.machine × GoOn same before steps after

parts_counted : (same : AbortCause → AbortCause → Bool) (parts : List (List (Pick × Outcome))) (a b : Counting) →
    PartsLead (Counts same) a parts b →
    PartsLead AreMachineSteps a.machine parts b.machine × GoOn same a (steps_in parts) b
parts_counted same [] a b h = (ap (λ (m : Counting). m.machine) h, go_on_none same a b h)
parts_counted same (part ∷ parts) a b h =
    let more = parts_counted same parts h.0 b h.2 in
    ((h.0.machine, h.1.0, more.0), go_on_then same a h.0 b part (steps_in parts) h.1.1 more.1)

-- all steps of a walk
pub walk_counted : (same : AbortCause → AbortCause → Bool) (steps : List (Pick × Outcome)) (a b : Counting) →
    Leads (Counts same) a steps b →
    Leads AreMachineSteps a.machine steps b.machine × GoOn same a steps b
walk_counted same steps a b h =
    let all = parts_counted same h.0 a b h.2 in
    ((h.0, h.1, all.0), subst (λ (l : List (Pick × Outcome)). GoOn same a l b) h.1 all.1)

-- ---- what was counted since the first step

pub counted_since : (same : AbortCause → AbortCause → Bool) (whose : CountedRun) (first after : Counting)
    (made : List (Pick × Outcome)) → IsFirstOf whose first.machine → AreStepsOf whose made →
    AreCounts same first.counts [] → GoOn same first made after → HasCounted same whose after
counted_since same whose first after made is_first steps none h =
    let all = h [] in
    record {
      first = first.machine;
      is_first = is_first;
      made = made;
      steps = steps;
      counted = record { told = all.told; are_told = all.are_told; counts = λ few. all.counts few none };
    }

-- in another order
pub counted_still : (same : AbortCause → AbortCause → Bool) (whose : CountedRun) (before after : Counting) →
    after.machine ≡ before.machine →
    ((steps : List Step) → AreCounts same before.counts steps → AreCounts same after.counts steps) →
    HasCounted same whose before → HasCounted same whose after
counted_still same whose before after machine counts h =
    let was = h.counted in
    record {
      first = h.first;
      is_first = h.is_first;
      made = h.made;
      steps = h.steps;
      counted = record {
        told = was.told;
        are_told = subst (λ (m : Machine). AreTold h.first [] h.made m was.told) (sym machine) was.are_told;
        counts = λ few. counts was.told (was.counts few);
      };
    }
