-- Conditions, as a text says them (docs/FORMATS.md, "Checks").
use Rattle.std.specs.Prelude.{◌≡◌, ◌<◌, ◌⊎◌, ⊤, ℕ, Bool, List, [], ◌∷◌, codes, Some, Ok, length}
use Rattle.std.specs.Str.{trim}
use Rattle.hex.specs.Hex.{decode_of}
use Rattle.elide_program.specs.Sums.{IsSum}
use Rattle.elide_program.specs.declared.file.ProgramFile.{ProgramFile}
use Rattle.elide_program.specs.Settings.{word32}
use Rattle.tm_check.specs.declared.clause.Quantity.{Quantity}
use Rattle.tm_check.specs.declared.clause.Quantity.TheVariants as quantity
use Rattle.tm_check.specs.declared.clause.RunClause.{RunClause}
use Rattle.tm_check.specs.declared.clause.RunClause.TheVariants as clause
use Rattle.tm_condition.specs.declared.clause.Clause.TheVariants.{Compare, Bytes}
use Rattle.tm_condition.specs.declared.comparison.Comparison.{Comparison}
use Rattle.tm_condition.specs.declared.comparison.Comparison.TheVariants.{Equal, NotEqual, Below, AtMost, Above}
use Rattle.tm_condition.specs.declared.comparison.Comparison.TheVariants.{AtLeast}
use Rattle.elide_checks.specs.Cuts.{IsCut, Lacks}
use Rattle.elide_checks.specs.Items.{IsItem}
use Rattle.elide_checks.specs.declared.items.Side.TheVariants.{Left, Right}

abbrev pub comparison_word : Comparison → List ℕ
comparison_word Equal = codes "=="
comparison_word NotEqual = codes "!="
comparison_word Below = codes "<"
comparison_word AtMost = codes "<="
comparison_word Above = codes ">"
comparison_word AtLeast = codes ">="

-- in which turn a part is looked through for operators
abbrev pub turn : Comparison → ℕ
turn Equal = 0
turn NotEqual = 1
turn AtMost = 2
turn AtLeast = 3
turn Below = 4
turn Above = 5

-- what stands before the first place of the first operator, by their turns, that a part has, and behind that
pub record IsCompared (text before : List ℕ) (comparison : Comparison) (behind : List ℕ) : Type 0 where
  pub cut : IsCut text (comparison_word comparison) before behind
  pub others : (other : Comparison) → turn other < turn comparison → Lacks text (comparison_word other)

-- a part has none
abbrev pub HasNoOperator : List ℕ → Type 0
HasNoOperator text = (comparison : Comparison) → Lacks text (comparison_word comparison)

-- `ITEM OP ITEM`
pub record IsComparison (file : ProgramFile) (constants : List ℕ → Bool) (text : List ℕ) (left : Quantity)
    (comparison : Comparison) (right : Quantity) : Type 0 where
  pub before : List ℕ
  pub behind : List ℕ
  pub sides : IsCompared text before comparison behind
  pub on_left : IsItem file constants Left (trim before) left
  pub on_right : IsItem file constants Right (trim behind) right

-- the pieces of `SUM:N=HEX`, which is cut at its first `=`, and before that at its first `:`
pub record ArePieces (text place count digits : List ℕ) : Type 0 where
  pub front : List ℕ
  pub behind : IsCut text (codes "=") front digits
  pub before : IsCut front (codes ":") place count

-- `SUM:N=HEX`: the sum of an address, and as many bytes as are said, two hex digits each
pub record AreBytes (file : ProgramFile) (text : List ℕ) (address : ℕ) (bytes : List ℕ) : Type 0 where
  pub place : List ℕ
  pub count : List ℕ
  pub digits : List ℕ
  pub pieces : ArePieces text place count digits
  pub at : IsSum file place (Some address)
  pub many : word32 (trim count) ≡ Some (length bytes)
  pub are : decode_of (trim digits) ≡ Ok bytes

-- the one value or the other is a count of the run
abbrev pub IsCount : Quantity → Type 0
IsCount (quantity.OfMachine item) = ⊥
IsCount (quantity.OfRun count) = ⊤

abbrev pub LooksAtRun : Quantity → Quantity → Type 0
LooksAtRun left right = IsCount left ⊎ IsCount right

abbrev pub IsClause : ProgramFile → (List ℕ → Bool) → List ℕ → RunClause → Type 0
IsClause file constants text (clause.OfMachine (Compare left comparison right)) =
    IsComparison file constants text (quantity.OfMachine left) comparison (quantity.OfMachine right)
IsClause file constants text (clause.OfMachine (Bytes address bytes)) =
    HasNoOperator text × AreBytes file text address bytes.items
IsClause file constants text (clause.Compare left comparison right) =
    LooksAtRun left right × IsComparison file constants text left comparison right

-- these, one or more, with `&&` between them, of which the first parts first
abbrev pub IsCondition : ProgramFile → (List ℕ → Bool) → List ℕ → List RunClause → Type 0
IsCondition file constants text [] = ⊥
IsCondition file constants text (one ∷ []) = Lacks text (codes "&&") × IsClause file constants text one
IsCondition file constants text (one ∷ next ∷ more) =
    (first : List ℕ) × ((rest : List ℕ) × IsCut text (codes "&&") first rest × IsClause file constants first one
    × IsCondition file constants rest (next ∷ more))
