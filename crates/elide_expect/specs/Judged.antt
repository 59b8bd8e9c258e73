-- Whether what a command came to meets what is expected of it (docs/FORMATS.md, "Tests").
use Rattle.std.specs.Prelude.{◌≡◌, ℕ, ◌==◌, ◌&&◌, ◌||◌, not, Bool, true, false, nat_eq, codes, List, [], ◌∷◌, map, drop}
use Rattle.std.specs.Prelude.{length}
use Rattle.std.specs.Prelude.{Option, Some, None, filter_map, take, ◌+◌, ◌<◌, ◌⊎◌}
use Rattle.std.specs.List.{list_all, list_any, slice_index_or, starts_with}
use denote.Bor.{Bor}
use Rattle.elide_expect.specs.declared.expectation.Rule.{Rule}
use Rattle.elide_expect.specs.declared.expectation.Rule.TheVariants.{AtLeast, Exactly, Never}
use Rattle.elide_expect.specs.declared.judge.Difference.TheVariants as difference
use Rattle.elide_expect.specs.declared.judge.Verdict.{Verdict}
use Rattle.elide_expect.specs.declared.judge.Verdict.TheVariants.{Differs, Passes}
use Rattle.elide_expect.specs.Expectations.{Wanted, Line, NoFailure, Outcomes, Status}
use Rattle.elide_expect.specs.Patterns.{meets, place_of, some_end}
use Rattle.elide_expect.specs.Tests.{TestContent}

-- the lines that a command printed
abbrev pub Lines : Type 0
Lines = List (Bor (List ℕ))

-- ---- outcomes

-- a line is of an outcome where two spaces stand in it: those behind the values
abbrev pub is_outcome : List ℕ → Bool
is_outcome line = some_end (λ rest. starts_with nat_eq rest (codes "  ")) line

-- it is of this one where this front stands at its front, and behind it the second of the spaces
abbrev pub shows : List ℕ → List ℕ → Bool
shows front line = starts_with nat_eq line front && starts_with nat_eq (drop (length front) line) (codes " ")

-- some line is of this outcome
abbrev pub is_found : Lines → List ℕ → Bool
is_found lines front = list_any (λ line. shows front line.now) lines

-- a line is of one of these, or of none
abbrev pub is_listed : List (List ℕ) → List ℕ → Bool
is_listed fronts line = not (is_outcome line) || list_any (λ front. shows front line) fronts

-- two spaces stand first at this place, or nowhere: the values before them are as long as a front of this length
abbrev pub ends_front : Option ℕ → ℕ → Bool
ends_front None size = true
ends_front (Some place) size = place + 1 == size

-- each line is of no outcome, or of one with as many values as this front
abbrev pub are_as_long : Lines → List ℕ → Bool
are_as_long lines front = list_all (λ line. ends_front (place_of (codes "  ") line.now) (length front)) lines

abbrev pub are_met : Rule → List (List ℕ) → Lines → Bool
are_met Exactly fronts lines = list_all (is_found lines) fronts && list_all (λ line. is_listed fronts line.now) lines
are_met AtLeast fronts lines = list_all (is_found lines) fronts
are_met Never fronts lines = not (list_any (is_found lines) fronts) && list_all (are_as_long lines) fronts

-- ---- lines

-- some line passes, and those behind it do
abbrev pub followed : {X : Type 0} → (X → Bool) → (List X → Bool) → List X → Bool
followed test next [] = false
followed test next (line ∷ lines) = (test line && next lines) || followed test next lines

-- lines meet these patterns in their order
abbrev pub in_order : List (List (List ℕ)) → Lines → Bool
in_order [] lines = true
in_order (pattern ∷ patterns) lines = followed (λ line. meets pattern line.now) (in_order patterns) lines

abbrev pub pattern_of : Wanted → Option (List (List ℕ))
pattern_of (Line pieces) = Some pieces
pattern_of (Status n) = None
pattern_of NoFailure = None
pattern_of (Outcomes rule fronts) = None

-- ---- a test

-- the status that is wanted: 0 where none is named
abbrev pub wanted_status : List Wanted → ℕ
wanted_status [] = 0
wanted_status (Status n ∷ rest) = n
wanted_status (Line pieces ∷ rest) = wanted_status rest
wanted_status (NoFailure ∷ rest) = wanted_status rest
wanted_status (Outcomes rule fronts ∷ rest) = wanted_status rest

-- no failure: the first line says so
abbrev pub finds_none : Lines → Bool
finds_none [] = false
finds_none (line ∷ lines) = starts_with nat_eq line.now (codes "no failure in ")

-- an expectation other than a line; a whole search ends with status 0
abbrev pub is_met : ℕ → Lines → Wanted → Bool
is_met status lines (Status n) = status == n
is_met status lines (Line pieces) = true
is_met status lines NoFailure = (status == 0) && finds_none lines
is_met status lines (Outcomes AtLeast fronts) = are_met AtLeast fronts lines
is_met status lines (Outcomes Exactly fronts) = (status == 0) && are_met Exactly fronts lines
is_met status lines (Outcomes Never fronts) = (status == 0) && are_met Never fronts lines

abbrev pub all_wanted : TestContent → List Wanted
all_wanted test = map (λ expected. expected.wanted) test.expectations

-- each is met that is no line; the lines stand in their order
abbrev pub are_each_met : ℕ → Lines → List Wanted → Bool
are_each_met status lines wanteds = list_all (is_met status lines) wanteds

abbrev pub have_lines : Lines → List Wanted → Bool
have_lines lines wanteds = in_order (filter_map pattern_of wanteds) lines

-- the status is the one that is wanted, each expectation is met, and the lines stand in their order
unfoldable pub passes : TestContent → ℕ → Lines → Bool
passes test status lines =
    (status == wanted_status (all_wanted test)) && are_each_met status lines (all_wanted test)
    && have_lines lines (all_wanted test)

-- this is the number of the first of these lines with whose expectation the test fails
pub record IsFirst (numbers : List ℕ) (wanteds : List Wanted) (test : List Wanted → Bool) (n : ℕ) : Type 0 where
  pub place : ℕ
  pub within : place < length numbers
  pub number : slice_index_or numbers place n ≡ n
  pub before : test (take place wanteds) ≡ true
  pub with_it : test (take (place + 1) wanteds) ≡ false

abbrev pub all_lines : TestContent → List ℕ
all_lines test = map (λ expected. expected.line) test.expectations

-- a difference is one: another status than this, which is wanted; or on this line the first expectation that is not
-- met, or the first line that stands nowhere behind those before
abbrev pub IsVerdict : TestContent → ℕ → Lines → Verdict → Type 0
IsVerdict test status lines Passes = passes test status lines ≡ true
IsVerdict test status lines (Differs (difference.Status n)) =
    ((status == n) ≡ false) × (n ≡ wanted_status (all_wanted test)) × (passes test status lines ≡ false)
IsVerdict test status lines (Differs (difference.Unmet n)) =
    (passes test status lines ≡ false)
    × (IsFirst (all_lines test) (all_wanted test) (are_each_met status lines) n
    ⊎ IsFirst (all_lines test) (all_wanted test) (have_lines lines) n)
