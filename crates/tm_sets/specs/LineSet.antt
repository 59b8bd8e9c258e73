-- A bounded set of lines as its callers see it.
use Rattle.std.specs.Prelude.{ℕ, List, [], refl, Option, nat_eq, position}
use Rattle.std.specs.Ordering.{nat_cmp}
use Rattle.std.specs.Coded.{Coded, code_by, coded×, coded_ℕ, coded_list}
use Rattle.std.specs.FinSet as set

abbrev pub Lines : Type 0
Lines = set.FinSet nat_cmp

-- the set that a list of lines makes
abbrev pub lines_of : List ℕ → Lines
lines_of xs = set.from_list xs

-- where a line stands in a list of lines
abbrev pub place_of : List ℕ → ℕ → Option ℕ
place_of lines line = position (λ x. nat_eq x line) lines

-- the lines in the order in which they came, and how many there is room for
pub record BoundedLines : Type 0 where
  pub order : List ℕ
  pub room : ℕ

abbrev pub bounded_lines_code : Coded BoundedLines
bounded_lines_code =
    code_by (List ℕ × ℕ) (coded× (coded_list coded_ℕ) coded_ℕ)
    (λ h. (h.order, h.room)) (λ p. record { order = p.0; room = p.1 }) (λ _. refl)

abbrev pub lines_in_set : BoundedLines → Lines
lines_in_set lines = lines_of lines.order

-- a set for nothing
abbrev pub no_line_set : BoundedLines
no_line_set = record { order = []; room = 0 }
