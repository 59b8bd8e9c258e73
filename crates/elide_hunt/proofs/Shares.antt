-- Where the shares of threads begin and end, and what runs come to that were made one after another.
use Rattle.std.proofs.Common.{rules, ◌≡◌, ℕ, zero, suc, ◌+◌, ◌-◌, ◌*◌, ◌/◌, ◌<◌, ◌≤◌, ◌⊎◌, inl, inr, arith, refl, true}
use Rattle.std.proofs.Common.{false, sym, subst}
use Rattle.std.proofs.lemmas.Bool.Decides.{nat_tests}
use Rattle.std.proofs.Math.Nat.{div-le_of_le-mul, div-mul-le_self, mul-le-mul_right}
use Rattle.std.proofs.lemmas.Nat.{le-div}
use Rattle.std.specs.Prelude.{Option, Some, None, is_some, option_map}
use Rattle.tm_hist.specs.Board.{ShownBoard as Board}
use Rattle.tm_hunt.specs.Attempts.{HavePassed, IsAttempt, IsFirst, IsSearch, none_passed, one_cut, one_ended}
use Rattle.tm_hunt.specs.declared.attempt.Attempt.TheVariants.{Cut, Ended}
use Rattle.tm_hunt.specs.declared.searching.Found.{Found}
use Rattle.tm_hunt.specs.declared.searching.Search.{Search}
use Rattle.tm_hunt.specs.declared.trial.Trial.{Trial}
use Rattle.elide_hunt.specs.Shares.{IsFirstFailed, IsShare, share_start}
use Rattle.elide_hunt.specs.declared.block.Share.{Share}

pub within : (first end jobs job : ℕ) → job < jobs → share_start first end jobs job ≡ first + job * (end - first) / jobs
unfolding share_start
within first end jobs job h = grind (arith, nat_tests)

pub behind : (first end jobs job : ℕ) → jobs ≤ job → share_start first end jobs job ≡ end
unfolding share_start
behind first end jobs job h = grind (arith, nat_tests)

part : (runs jobs job : ℕ) → job ≤ jobs → job * runs / jobs ≤ runs
part runs jobs job h = div-le_of_le-mul jobs (mul-le-mul_right runs h)

or_not : (a b : ℕ) → (a < b) ⊎ (b ≤ a)
or_not a b = search rules

pub share_most : (first end jobs job : ℕ) → first ≤ end → share_start first end jobs job ≤ end
share_most first end jobs job h = elim (or_not job jobs) [
  | inl below ↦
      let e = within first end jobs job below in let p = part (end - first) jobs job (omega arith) in omega arith
  | inr above ↦ let e = behind first end jobs job above in omega arith
]

pub share_least : (first end jobs job : ℕ) → first ≤ end → first ≤ share_start first end jobs job
share_least first end jobs job h = elim (or_not job jobs) [
  | inl below ↦ let e = within first end jobs job below in omega arith
  | inr above ↦ let e = behind first end jobs job above in omega arith
]

pub share_next : (first end jobs job : ℕ) → first ≤ end
    → share_start first end jobs job ≤ share_start first end jobs (job + 1)
share_next first end jobs job h = elim (or_not (job + 1) jobs) [
  | inl below ↦
      let now = within first end jobs job (omega arith) in
      let next = within first end jobs (job + 1) below in
      let more : job * (end - first) ≤ (job + 1) * (end - first) = mul-le-mul_right (end - first) (omega arith) in
      let less = div-mul-le_self (job * (end - first)) jobs in
      let p = le-div (job * (end - first) / jobs) ((job + 1) * (end - first)) jobs (omega arith) (omega arith) in
      omega arith
  | inr above ↦ let e = behind first end jobs (job + 1) above in let p = share_most first end jobs job h in omega arith
]

-- ---- runs that passed

both_here : (trial : Trial) (made : ℕ → Board → Type 0) (first next m n e c : ℕ) → first + (m + n) ≡ next
    → HavePassed trial made first m n →
    HavePassed trial made next e c → HavePassed trial made first (m + e) (n + c)
both_here trial made first next m n zero zero at h none_passed =
    let ended : m ≡ m + 0 = omega arith in
    let cut : n ≡ n + 0 = omega arith in
    subst (λ (k : ℕ). HavePassed trial made first k (n + 0)) ended
    (subst (λ (k : ℕ). HavePassed trial made first m k) cut h)
both_here trial made first next m n (suc e) c at h (one_ended rest run) =
    let there : next + (e + c) ≡ first + (m + e + (n + c)) = omega (arith, at) in
    let more : suc (m + e) ≡ m + suc e = omega arith in
    subst (λ (k : ℕ). HavePassed trial made first k (n + c)) more
    (one_ended (both_here trial made first next m n e c at h rest)
    (subst (λ (k : ℕ). IsAttempt trial (made k) Ended) there run))
both_here trial made first next m n e (suc c) at h (one_cut rest run) =
    let there : next + (e + c) ≡ first + (m + e + (n + c)) = omega (arith, at) in
    let more : suc (n + c) ≡ n + suc c = omega arith in
    subst (λ (k : ℕ). HavePassed trial made first (m + e) k) more
    (one_cut (both_here trial made first next m n e c at h rest)
    (subst (λ (k : ℕ). IsAttempt trial (made k) Cut) there run))

-- some runs passed, and those behind them
pub both_passed : (trial : Trial) (made : ℕ → Board → Type 0) (first next m n e c ended cut : ℕ)
    → first + (m + n) ≡ next → ended ≡ m + e → cut ≡ n + c →
    HavePassed trial made first m n → HavePassed trial made next e c → HavePassed trial made first ended cut
both_passed trial made first next m n e c ended cut at all whole h l =
    subst (λ (k : ℕ). HavePassed trial made first k cut) (sym all)
    (subst (λ (k : ℕ). HavePassed trial made first (m + e) k) (sym whole)
    (both_here trial made first next m n e c at h l))

-- no more runs passed than there are
fits : (first end passed : ℕ) (failed : Option ℕ) → first ≤ end → IsFirstFailed first end passed failed
    → first + passed ≤ end
fits first end passed None h k = let all = k h in omega arith
fits first end passed (Some run) h k = omega arith

pub share_fits : (trial : Trial) (made : ℕ → Board → Type 0) (first end : ℕ) (share : Share) → first ≤ end
    → IsShare trial made first end share → first + (share.ended + share.cut) ≤ end
share_fits trial made first end share h k = fits first end (share.ended + share.cut) share.failed h k.failed

-- behind runs that all passed
failed_behind : (first middle end before next all : ℕ) (failed : Option ℕ) → first + before ≡ middle → middle ≤ end
    → all ≡ before + next →
    IsFirstFailed middle end next failed → IsFirstFailed first end all failed
failed_behind first middle end before next all None h m e k = λ _. let whole = k m in omega arith
failed_behind first middle end before next all (Some run) h m e k = (omega arith, k.1)

-- up to a further end
failed_within : (first end last passed run : ℕ) → end ≤ last → IsFirstFailed first end passed (Some run)
    → IsFirstFailed first last passed (Some run)
failed_within first end last passed run h k = (k.0, omega arith)

-- a share behind some runs that all passed
pub share_behind : (trial : Trial) (made : ℕ → Board → Type 0) (first middle end ended cut : ℕ) (next all : Share)
    → HavePassed trial made first ended cut →
    first + (ended + cut) ≡ middle → middle ≤ end → IsShare trial made middle end next → all.failed ≡ next.failed
    → all.ended ≡ ended + next.ended → all.cut ≡ cut + next.cut →
    IsShare trial made first end all
share_behind trial made first middle end ended cut next all passed h m k f e c =
    let sum : all.ended + all.cut ≡ ended + cut + (next.ended + next.cut) = omega (arith, e, c) in
    record {
      passed =
          both_passed trial made first middle ended cut next.ended next.cut all.ended all.cut h e c passed k.passed;
      failed = subst (IsFirstFailed first end (all.ended + all.cut)) (sym f)
          (failed_behind first middle end (ended + cut) (next.ended + next.cut) (all.ended + all.cut) next.failed h
          m sum k.failed);
    }

-- the shares of so many threads, none of which failed
pub record Joined (trial : Trial) (made : ℕ → Board → Type 0) (first end jobs count : ℕ) (all : Share) : Type 0 where
  pub none_failed : all.failed ≡ None
  pub passed : HavePassed trial made first all.ended all.cut
  pub counted : first + (all.ended + all.cut) ≡ share_start first end jobs count

pub joined_none : (trial : Trial) (made : ℕ → Board → Type 0) (first end jobs : ℕ) → 0 < jobs
    → Joined trial made first end jobs 0 (record { failed = None; ended = 0; cut = 0 })
joined_none trial made first end jobs some =
    let at = within first end jobs 0 some in
    let zero : 0 * (end - first) / jobs ≡ 0 = search rules in
    record { none_failed = refl; passed = none_passed; counted = omega arith }

-- the next one
pub joined_share : (trial : Trial) (made : ℕ → Board → Type 0) (first end jobs count : ℕ) (before next all : Share)
    → first ≤ end → Joined trial made first end jobs count before →
    IsShare trial made (share_start first end jobs count) (share_start first end jobs (count + 1)) next →
    all.failed ≡ next.failed → all.ended ≡ before.ended + next.ended → all.cut ≡ before.cut + next.cut →
    IsShare trial made first (share_start first end jobs (count + 1)) all
joined_share trial made first end jobs count before next all h j k f e c =
    share_behind trial made first (share_start first end jobs count) (share_start first end jobs (count + 1))
    before.ended before.cut next all
    j.passed j.counted (share_next first end jobs count h) k f e c

-- none failed so far
all_passed : (first end passed : ℕ) (failed : Option ℕ) → failed ≡ None → first ≤ end
    → IsFirstFailed first end passed failed → first + passed ≡ end
all_passed first end passed failed none h k = (subst (IsFirstFailed first end passed) none k) h

pub joined_more : (trial : Trial) (made : ℕ → Board → Type 0) (first end jobs count : ℕ) (all : Share) → first ≤ end
    → all.failed ≡ None →
    IsShare trial made first (share_start first end jobs (count + 1)) all
    → Joined trial made first end jobs (count + 1) all
joined_more trial made first end jobs count all h none k = record {
  none_failed = none;
  passed = k.passed;
  counted = all_passed first (share_start first end jobs (count + 1)) (all.ended + all.cut) all.failed none
      (share_least first end jobs (count + 1) h) k.failed;
}

pub none_of : (failed : Option ℕ) → is_some failed ≡ false → failed ≡ None
none_of None e = refl
none_of (Some run) e = cc

-- one failed
widened : (first end last passed : ℕ) (failed : Option ℕ) → is_some failed ≡ true → end ≤ last
    → IsFirstFailed first end passed failed → IsFirstFailed first last passed failed
widened first end last passed None some h k = cc
widened first end last passed (Some run) some h k = failed_within first end last passed run h k

pub joined_failed : (trial : Trial) (made : ℕ → Board → Type 0) (first end jobs count : ℕ) (all : Share) → first ≤ end
    → is_some all.failed ≡ true →
    IsShare trial made first (share_start first end jobs (count + 1)) all → IsShare trial made first end all
joined_failed trial made first end jobs count all h some k = record {
  passed = k.passed;
  failed = widened first (share_start first end jobs (count + 1)) end (all.ended + all.cut) all.failed some
      (share_most first end jobs (count + 1) h) k.failed;
}

-- none did
pub joined_all : (trial : Trial) (made : ℕ → Board → Type 0) (first end jobs : ℕ) (all : Share)
    → Joined trial made first end jobs jobs all → IsShare trial made first end all
joined_all trial made first end jobs all j =
    let at = behind first end jobs jobs (omega arith) in
    let whole = j.counted in
    record {
      passed = j.passed;
      failed = subst (IsFirstFailed first end (all.ended + all.cut)) (sym j.none_failed) (λ _. omega arith);
    }

-- what a search tells of its first failing run, without the schedule
failed_of : (trial : Trial) (made : ℕ → Board → Type 0) (first end passed : ℕ) (found : Option Found)
    → IsFirst trial made first end passed found → IsFirstFailed first end passed (option_map (λ f. f.run) found)
failed_of trial made first end passed None h = h
failed_of trial made first end passed (Some found) h = (h.1, h.2)

pub share_of_search : (trial : Trial) (made : ℕ → Board → Type 0) (first end : ℕ) (search : Search) (share : Share)
    → IsSearch trial made first end search →
    share.failed ≡ option_map (λ f. f.run) search.found → share.ended ≡ search.ended → share.cut ≡ search.cut
    → IsShare trial made first end share
share_of_search trial made first end search share k f e c =
    let same : search.ended + search.cut ≡ share.ended + share.cut = omega arith in
    record {
      passed = subst (λ (n : ℕ). HavePassed trial made first n share.cut) (sym e)
          (subst (λ (n : ℕ). HavePassed trial made first search.ended n) (sym c) k.passed);
      failed = subst (IsFirstFailed first end (share.ended + share.cut)) (sym f)
          (failed_of trial made first end (share.ended + share.cut) search.found
          (subst (λ n. IsFirst trial made first end n search.found) same k.found));
    }

-- ---- searches

first_fits : (trial : Trial) (made : ℕ → Board → Type 0) (first end passed : ℕ) (found : Option Found) → first ≤ end
    → IsFirst trial made first end passed found → first + passed ≤ end
first_fits trial made first end passed None h k = let all = k h in omega arith
first_fits trial made first end passed (Some found) h k = omega (arith, k.1, k.2)

pub search_fits : (trial : Trial) (made : ℕ → Board → Type 0) (first end : ℕ) (search : Search) → first ≤ end
    → IsSearch trial made first end search → first + (search.ended + search.cut) ≤ end
search_fits trial made first end search h k =
    first_fits trial made first end (search.ended + search.cut) search.found h k.found

first_behind : (trial : Trial) (made : ℕ → Board → Type 0) (first middle end before next all : ℕ) (found : Option Found)
    → first + before ≡ middle → middle ≤ end → all ≡ before + next →
    IsFirst trial made middle end next found → IsFirst trial made first end all found
first_behind trial made first middle end before next all None h m e k = λ _. let whole = k m in omega arith
first_behind trial made first middle end before next all (Some found) h m e k = (k.0, omega (arith, k.1), k.2)

-- a search behind some runs that all passed
pub search_behind : (trial : Trial) (made : ℕ → Board → Type 0) (first middle end ended cut : ℕ) (next all : Search)
    → HavePassed trial made first ended cut →
    first + (ended + cut) ≡ middle → middle ≤ end → IsSearch trial made middle end next → all.found ≡ next.found
    → all.ended ≡ ended + next.ended → all.cut ≡ cut + next.cut →
    IsSearch trial made first end all
search_behind trial made first middle end ended cut next all passed h m k f e c =
    let sum : all.ended + all.cut ≡ ended + cut + (next.ended + next.cut) = omega (arith, e, c) in
    record {
      passed =
          both_passed trial made first middle ended cut next.ended next.cut all.ended all.cut h e c passed k.passed;
      found = subst (IsFirst trial made first end (all.ended + all.cut)) (sym f)
          (first_behind trial made first middle end (ended + cut) (next.ended + next.cut) (all.ended + all.cut)
          next.found h m sum k.found);
    }

-- up to a further end
first_within : (trial : Trial) (made : ℕ → Board → Type 0) (first end last passed : ℕ) (found : Option Found)
    → is_some found ≡ true → end ≤ last → IsFirst trial made first end passed found
    → IsFirst trial made first last passed found
first_within trial made first end last passed None some h k = cc
first_within trial made first end last passed (Some found) some h k = (k.0, k.1, omega (arith, k.2))

pub search_within : (trial : Trial) (made : ℕ → Board → Type 0) (first end last : ℕ) (search : Search)
    → is_some search.found ≡ true → end ≤ last → IsSearch trial made first end search
    → IsSearch trial made first last search
search_within trial made first end last search some h k = record {
  passed = k.passed;
  found = first_within trial made first end last (search.ended + search.cut) search.found some h k.found;
}

-- so many runs passed, which are those from a first one up to another
pub record Passed (trial : Trial) (made : ℕ → Board → Type 0) (first end at ended cut : ℕ) : Type 0 where
  pub passed : HavePassed trial made first ended cut
  pub counted : first + (ended + cut) ≡ at
  pub within : first ≤ end → at ≤ end

pub passed_none : (trial : Trial) (made : ℕ → Board → Type 0) (first end : ℕ) → Passed trial made first end first 0 0
passed_none trial made first end = record { passed = none_passed; counted = omega arith; within = λ h. h }

found_none : (trial : Trial) (made : ℕ → Board → Type 0) (first end passed : ℕ) (found : Option Found)
    → is_some found ≡ false → first ≤ end → IsFirst trial made first end passed found → first + passed ≡ end
found_none trial made first end passed None none h k = k h
found_none trial made first end passed (Some found) none h k = cc

-- with the runs of a search that none of them failed
pub passed_more : (trial : Trial) (made : ℕ → Board → Type 0) (first end at next ended cut : ℕ) (search : Search)
    → Passed trial made first end at ended cut → at ≤ next → next ≤ end →
    IsSearch trial made at next search → is_some search.found ≡ false
    → Passed trial made first end next (ended + search.ended) (cut + search.cut)
passed_more trial made first end at next ended cut search p h l k none =
    let whole = found_none trial made at next (search.ended + search.cut) search.found none h k.found in
    let before = p.counted in
    record {
      passed = both_passed trial made first at ended cut search.ended search.cut (ended + search.ended)
          (cut + search.cut) before refl refl p.passed k.passed;
      counted = omega arith;
      within = λ _. l;
    }

-- all passed
pub passed_all : (trial : Trial) (made : ℕ → Board → Type 0) (first end at : ℕ) (search : Search)
    → Passed trial made first end at search.ended search.cut → end ≤ at → search.found ≡ None
    → IsSearch trial made first end search
passed_all trial made first end at search p h none = record {
  passed = p.passed;
  found = subst (IsFirst trial made first end (search.ended + search.cut)) (sym none)
      (λ ordered. let last = p.within ordered in let before = p.counted in omega arith);
}
