-- The cores that have not stopped, and what a run came to by them.
use Rattle.std.proofs.Common.{◌≡◌, ◌∙◌, ℕ, ◌+◌, Bool, true, false, not, List, [], ◌∷◌, ◌++◌, ap}
use Rattle.std.proofs.Common.{if◌then◌else◌, length, map-id, refl, sym, zero-add}
use Rattle.std.proofs.lemmas.List.FromFn.{filter_of_map_range_with_len_more}
use Rattle.std.specs.List.{filter, list_all, range_with_len}
use Rattle.std.specs.Prelude.{cond}
use Rattle.tm_core.specs.Theorem.{ShownMachine as Machine}
use Rattle.elide_run.specs.Halting.{asked_ending, is_stopped}
use Rattle.elide_run.specs.Object.{cores_ending, running_cores}
use Rattle.elide_run.specs.declared.halting.Ending.TheVariants.{AsAsked, RunsOn}

first_case : (p : ℕ → Bool) (is : Bool) (core : ℕ) (cores : List ℕ) → p core ≡ is →
    cores_ending (filter (λ c. not (p c)) cores) ≡ (if list_all p cores then AsAsked else RunsOn) →
    cores_ending (filter (λ c. not (p c)) (core ∷ cores)) ≡ (if list_all p (core ∷ cores) then AsAsked else RunsOn)
first_case p true core cores e h = rw e h
first_case p false core cores e h = rw e refl

ending_all : (p : ℕ → Bool) (cores : List ℕ) →
    cores_ending (filter (λ c. not (p c)) cores) ≡ (if list_all p cores then AsAsked else RunsOn)
ending_all p [] = refl
ending_all p (core ∷ cores) = first_case p (p core) core cores refl (ending_all p cores)

pub ending_by : (expects : Bool) (machine : Machine) (cores : List ℕ) → cores ≡ running_cores machine →
    (if expects then cores_ending cores else AsAsked) ≡ asked_ending expects machine
ending_by true machine cores e =
    ap cores_ending e ∙ ending_all (is_stopped machine) (range_with_len 0 (length machine.views))
ending_by false machine cores e = refl

-- with one core more
pub filter_more : (p : ℕ → Bool) (count : ℕ) →
    filter p (range_with_len 0 (count + 1)) ≡ filter p (range_with_len 0 count) ++ cond (p count) (count ∷ []) []
filter_more p count =
    ap (filter p) (sym (map-id (range_with_len 0 (count + 1))))
    ∙ filter_of_map_range_with_len_more p (λ number. number) 0 count count (zero-add count)
    ∙ ap (λ l. filter p l ++ cond (p count) (count ∷ []) []) (map-id (range_with_len 0 count))
