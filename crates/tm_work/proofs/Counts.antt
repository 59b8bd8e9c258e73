-- What the seats of workers tell of the board.
use Rattle.std.proofs.Common.{◌≡◌, ℕ, zero, suc, ◌+◌, ◌-◌, ◌<◌, List, [], ◌∷◌, ◌++◌, length, Some, None, Option, sym}
use Rattle.std.proofs.Common.{ap, ◌∙◌, subst, arith, length-append, get_or}
use Rattle.std.specs.Prelude.{slice_get, slice_index, All, IfNone, IfSome}
use mathlib.Core.Logic.{dite}
use native.Mathlib.Decide.{ℕ_discrete}
use Rattle.std.proofs.lemmas.Option.{slice_get-get_or, slice_get_within}
use Rattle.tm_ledger.proofs.Moves.{slice_get_front, slice_get_last}
use Rattle.tm_hist.specs.Board.{ShownBoard, IsHistory}
use Rattle.tm_work.specs.Seats.{SeatProgress, seat_with, no_progress, AreSeats, SeatTells, Tells, GoesOn}
use Rattle.tm_work.specs.Workers.{IsDone, AreLeft, EachDone, KeepsBudget, IsReport, IsRefused}

no_seat : SeatProgress
no_seat = seat_with 0 no_progress

-- before the first worker all seats are left
pub all_left : (seats : List SeatProgress) (n m : ℕ) → AreSeats seats n → m ≡ n → AreLeft seats 0 m
all_left seats n m h e =
    let l = h.0 in record {
      count = omega (arith, l, e);
      each = λ k below. let z : k ≡ 0 + k = omega arith in
          h.1 k (omega (arith, l, below)) ∙ ap (λ (i : ℕ). Some (seat_with i no_progress)) z;
    }

-- a seat that tells what is so of its core, and whose worker is done
served_at : (given b : ShownBoard) (budget c : ℕ) (s : SeatProgress) → SeatTells given b s → IsDone c budget s
    → KeepsBudget given b budget c s.progress.steps
served_at given b budget c s told done =
    let t = subst (λ (k : ℕ). Tells given b k s.progress) done.core told in
    record { steps = t.steps; within = done.within; used = λ less. t.ended (done.used less) }

served_in : (given b : ShownBoard) (budgets : List ℕ) (done : List SeatProgress) (c : ℕ) → All (SeatTells given b) done
    → EachDone budgets done → c < length done
    → (s : SeatProgress) × (slice_get done c ≡ Some s) × KeepsBudget given b (slice_index budgets c) c s.progress.steps
served_in given b budgets done c told each below =
    let s : SeatProgress = get_or done c no_seat in
    let at : slice_get done c ≡ Some s = slice_get-get_or done c no_seat below in
    (s, at, served_at given b (slice_index budgets c) c s (told c no_seat below) (each c s at))

pub report_of : (given b : ShownBoard) (budgets : List ℕ) (done : List SeatProgress) (steps : List ℕ) → GoesOn given b
    → IsHistory b → All (SeatTells given b) done → EachDone budgets done → length done ≡ length budgets
    → length steps ≡ length done
    → ((k : ℕ) (s : SeatProgress) → slice_get done k ≡ Some s → slice_index steps k ≡ s.progress.steps)
    → IsReport given budgets b steps
report_of given b budgets done steps goes_on run told each all count_is steps_are = record {
  goes_on = goes_on;
  run = run;
  cores = count_is ∙ all;
  each = λ c below.
      let t = served_in given b budgets done c told each (omega arith) in
      subst (KeepsBudget given b (slice_index budgets c) c) (sym (steps_are c t.0 t.1)) t.2;
}

pub refused_of : (given b : ShownBoard) (budgets : List ℕ) (done left : List SeatProgress) (k : ℕ) → k ≡ length done
    → GoesOn given b → IsHistory b → All (SeatTells given b) done → All (SeatTells given b) left → EachDone budgets done
    → length done < length budgets → AreLeft left (length done + 1) (length budgets) → IsRefused given budgets k b
refused_of given b budgets done left k here goes_on run told others each less rest = record {
  goes_on = goes_on;
  run = run;
  core = omega arith;
  lower = λ c below.
      let t = served_in given b budgets done c told each (omega arith) in
      subst (KeepsBudget given b (slice_index budgets c) c) t.2.steps t.2;
  higher = λ c above below.
      let counted = rest.count in
      let j : ℕ = c - (length done + 1) in
      let j_is : length done + 1 + j ≡ c = omega arith in
      let inside : j < length left = omega arith in
      let is : Some (get_or left j no_seat) ≡ Some (seat_with (length done + 1 + j) no_progress) =
      sym (slice_get-get_or left j no_seat inside) ∙ rest.each j inside in
      let same : get_or left j no_seat ≡ seat_with c no_progress =
      let s : get_or left j no_seat ≡ seat_with (length done + 1 + j) no_progress = cc in
      s ∙ ap (λ n. seat_with n no_progress) j_is in
      let t : SeatTells given b (seat_with c no_progress) = subst (SeatTells given b) same (others j no_seat inside) in
      sym t.steps;
}

-- the seat in front is the one of the next core
pub left_next : (seats rest : List SeatProgress) (s : SeatProgress) (from n : ℕ) → AreLeft seats from n
    → seats ≡ s ∷ rest → (s ≡ seat_with from no_progress) × AreLeft rest (from + 1) n
left_next seats rest s from n a is =
    let b : AreLeft (s ∷ rest) from n = subst (λ (l : List SeatProgress). AreLeft l from n) is a in
    let counted = b.count in
    let first : Some s ≡ Some (seat_with (from + 0) no_progress) = b.each 0 (omega arith) in
    let one : s ≡ seat_with (from + 0) no_progress = cc in
    let zero_more : from + 0 ≡ from = omega arith in (
      one ∙ ap (λ k. seat_with k no_progress) zero_more,
      record {
        count = omega arith;
        each = λ k below. let more : from + (suc k) ≡ from + 1 + k = omega arith in
            b.each (suc k) (omega arith) ∙ ap (λ i. Some (seat_with i no_progress)) more;
      },
    )

-- one more worker is done
pub done_more : (budgets : List ℕ) (done : List SeatProgress) (s : SeatProgress) (c budget : ℕ) → EachDone budgets done
    → IsDone c budget s → c ≡ length done → budget ≡ slice_index budgets (length done)
    → EachDone budgets (done ++ s ∷ [])
done_more budgets done s c budget each this here has k x is =
    dite (ℕ_discrete k (length done))
    (λ (e : k ≡ length done).
    let two : Some s ≡ Some x = sym (slice_get_last done s) ∙ ap (λ i. slice_get (done ++ s ∷ []) i) (sym e) ∙ is in
    let same : s ≡ x = cc in
    let at : IsDone (length done) (slice_index budgets (length done)) s =
    subst (λ (y : ℕ × ℕ). IsDone y.0 y.1 s) (λ i. (here i, has i)) this in
    subst (λ (y : ℕ × SeatProgress). IsDone y.0 (slice_index budgets y.0) y.1) (λ i. (sym e i, same i)) at)
    (λ ne. each k x (let within = slice_get_within (done ++ s ∷ []) k x is in
    let below : k < length done = omega (arith, length-append done (s ∷ [])) in
    let old : slice_get done k ≡ Some (get_or done k no_seat) = slice_get-get_or done k no_seat below in
    old ∙ sym (slice_get_front done (s ∷ []) k (get_or done k no_seat) old) ∙ is))

-- what holds of each place holds of one more
pub snoc_each : {A : Type 0} (P : ℕ → A → Type 0) (xs : List A) (x : A)
    → ((k : ℕ) (y : A) → slice_get xs k ≡ Some y → P k y) → P (length xs) x
    → (k : ℕ) (y : A) → slice_get (xs ++ x ∷ []) k ≡ Some y → P k y
snoc_each P [] x old new zero y is = let same : x ≡ y = cc in subst (P 0) same new
snoc_each P [] x old new (suc k) y is = absurd (cc)
snoc_each P (z ∷ zs) x old new zero y is = old zero y is
snoc_each P (z ∷ zs) x old new (suc k) y is = snoc_each (λ n w. P (suc n) w) zs x (λ j w e. old (suc j) w e) new k y is

pub none_of : {A : Type 0} (o : Option A) (P : Type 0) → o ≡ None → IfNone o P → P
none_of None P is h = h
none_of (Some a) P is h = absurd (cc)

pub some_of : {A : Type 0} (o : Option A) (P : A → Type 0) (a : A) → o ≡ Some a → IfSome o P → P a
some_of (Some b) P a is h = let same : b ≡ a = cc in subst P same h
some_of None P a is h = absurd (cc)
