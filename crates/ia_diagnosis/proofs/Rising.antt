-- One more fault behind others.
use Rattle.std.proofs.Common.{◌≡◌, ℕ, ◌+◌, ◌≤◌, ◌<◌, List, [], ◌∷◌, ◌++◌, sym, subst, arith, length, length-append, inl}
use Rattle.std.proofs.Common.{inr}
use Rattle.ia_asm.specs.Assembles.{RefusedAs}
use Rattle.ia_diagnosis.specs.declared.diagnosis.Diagnosis.{Diagnosis}
use Rattle.ia_diagnosis.specs.Diagnoses.{AreDiagnoses, AreRising, BeginsWell, Course, Extends, IsPlaced, turn}

pub rising_more : (text : List ℕ) (a b : ℕ) (ds : List Diagnosis) (d : Diagnosis) → AreRising text a ds b
    → IsPlaced text d → b ≤ turn d.fault
    → AreRising text a (ds ++ d ∷ []) (turn d.fault + 1)
rising_more text a b [] d h here next = (omega (arith, h, next), here, omega arith)
rising_more text a b (x ∷ xs) d h here next = (h.0, h.1, rising_more text (turn x.fault + 1) b xs d h.2 here next)

pub begins_more : (text : List ℕ) (ds : List Diagnosis) (d : Diagnosis) → 1 ≤ length ds → BeginsWell text ds
    → BeginsWell text (ds ++ d ∷ [])
begins_more text [] d some h = absurd (omega (arith, some))
begins_more text (x ∷ xs) d some h = h

one_more : (text : List ℕ) (ds : List Diagnosis) (least : ℕ) (d : Diagnosis) → Course text ds least → length ds < 20
    → IsPlaced text d
    → least ≤ turn d.fault → Course text (ds ++ d ∷ []) (turn d.fault + 1)
one_more text ds least d was room here next =
    let long : length (ds ++ d ∷ []) ≡ length ds + 1 = length-append ds (d ∷ []) in record {
      first = begins_more text ds d was.some was.first;
      rising = rising_more text 0 least ds d was.rising here next;
      some = omega (arith, long);
      few = omega (arith, long, room);
    }

pub course_more : (text : List ℕ) (before : List Diagnosis) (least : ℕ) (after : List Diagnosis) (next : ℕ)
    → Course text before least
    → length before < 20 → Extends text before least after next → Course text after next
course_more text before least after next was room (inl h) =
    let P : List Diagnosis → Type 0 = λ ds. Course text ds next in
    let Q : ℕ → Type 0 = λ n. Course text before n in
    subst P (sym h.0) (subst Q (sym h.1) was)
course_more text before least after next was room (inr h) =
    let d = h.0 in
    let more = one_more text before least d was room h.1 h.2 in
    let P : List Diagnosis → Type 0 = λ ds. Course text ds next in
    let Q : ℕ → Type 0 = λ n. Course text (before ++ d ∷ []) n in
    subst P (sym h.3) (subst Q (sym h.4) more)

pub course_of_one : (text : List ℕ) (d : Diagnosis) → RefusedAs text d.fault → IsPlaced text d
    → Course text (d ∷ []) (turn d.fault + 1)
course_of_one text d refused here =
    record { first = refused; rising = (omega arith, here, omega arith); some = omega arith; few = omega arith }

pub course_is : (text : List ℕ) (ds : List Diagnosis) (least : ℕ) → Course text ds least → AreDiagnoses text ds
course_is text ds least c = record { first = c.first; rising = (least, c.rising); few = c.few }

-- a course that rises
pub ruleset courses = (course_more, course_of_one, course_is)
