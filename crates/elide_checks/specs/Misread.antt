-- Texts that are no condition (docs/FORMATS.md, "Checks"): one of the parts between `&&` is no clause.
use Rattle.std.specs.Prelude.{◌≡◌, ◌≢◌, ◌⊎◌, ⊤, ℕ, Bool, List, ◌∷◌, codes, length, Option, Some, None, Ok}
use Rattle.std.specs.List.{Contains}
use Rattle.std.specs.Str.{trim}
use Rattle.hex.specs.Hex.{decode_of}
use Rattle.elide_program.specs.Sums.{IsSum}
use Rattle.elide_program.specs.declared.file.ProgramFile.{ProgramFile}
use Rattle.elide_program.specs.Settings.{word32}
use Rattle.ia_lex.specs.Words.{register_of}
use Rattle.ia_word.specs.declared.width.Width.TheVariants.{D}
use Rattle.tm_check.specs.declared.clause.RunClause.{RunClause}
use Rattle.tm_check.specs.declared.clause.RunClause.TheVariants as clause
use Rattle.tm_check.specs.declared.count.AbortKind.{AbortKind}
use Rattle.tm_condition.specs.declared.comparison.Comparison.{Comparison}
use Rattle.tm_status.specs.declared.cause.Cause.{Cause}
use Rattle.elide_checks.specs.Conditions.{ArePieces, HasNoOperator, IsCompared, IsCondition}
use Rattle.elide_checks.specs.Counts.{AreAborts, IsCause, IsKind, core_said}
use Rattle.elide_checks.specs.Cuts.{IsCut, Lacks}
use Rattle.elide_checks.specs.Items.{IsParted, at_place}

-- ---- items

-- the word of no cause, of no kind of aborts, and of no aborts
abbrev pub IsNoCause : List ℕ → Type 0
IsNoCause word = (cause : Cause) → ¬ IsCause word cause

abbrev pub IsNoKind : List ℕ → Type 0
IsNoKind word = (kind : AbortKind) → ¬ IsKind word kind

abbrev pub AreNoAborts : List ℕ → Type 0
AreNoAborts word = (kind : Option AbortKind) → ¬ AreAborts word kind

-- neither commits nor aborts
abbrev pub IsNoCounted : List ℕ → Type 0
IsNoCounted name = (name ≢ codes "commits") × AreNoAborts name

-- neither `*` nor the number of a core
abbrev pub AreNoCores : List ℕ → Type 0
AreNoCores whose = (whose ≢ codes "*") × (core_said whose ≡ None)

-- the name of no register of 32 bits
abbrev pub IsNoRegister : List ℕ → Type 0
IsNoRegister name = (register : ℕ) → register_of name ≢ Some (D, register)

-- what stands before an `@` and behind it: the name of a register, and no core's number; or the name of none, and
-- nothing that is counted, or no cores
pub data IsNoNamed (name whose : List ℕ) : Type 0 where
  no_core : (register : ℕ) → register_of name ≡ Some (D, register) → core_said whose ≡ None → IsNoNamed name whose
  no_count : IsNoRegister name → IsNoCounted name → IsNoNamed name whose
  no_cores : IsNoRegister name → AreNoCores whose → IsNoNamed name whose

-- a word is no item: its parts around the first `@` say none; or it has no `@`, and its sum says nothing, which stands
-- behind `&` where it begins with that
pub data IsNoItem (file : ProgramFile) (word : List ℕ) : Type 0 where
  no_named : (name whose : List ℕ) → IsParted word name whose → IsNoNamed name whose → IsNoItem file word
  no_address : (behind : List ℕ) → at_place word ≡ length word → word ≡ 38 ∷ behind → IsSum file behind None
      → IsNoItem file word
  no_sum : at_place word ≡ length word → ((behind : List ℕ) → word ≢ 38 ∷ behind) → IsSum file word None
      → IsNoItem file word

-- ---- clauses

-- digits are not so many bytes: fewer or more, or not two hex digits for each
abbrev pub AreNotMany : ℕ → List ℕ → Type 0
AreNotMany many digits = (bytes : List ℕ) → decode_of digits ≡ Ok bytes → length bytes ≢ many

-- a text is not `SUM:N=HEX`
pub data AreNoBytes (file : ProgramFile) (text : List ℕ) : Type 0 where
  no_equals : Lacks text (codes "=") → AreNoBytes file text
  no_colon : (front digits : List ℕ) → IsCut text (codes "=") front digits → Lacks front (codes ":")
      → AreNoBytes file text
  no_place : (place count digits : List ℕ) → ArePieces text place count digits → IsSum file place None
      → AreNoBytes file text
  no_count : (place count digits : List ℕ) → ArePieces text place count digits → word32 (trim count) ≡ None
      → AreNoBytes file text
  not_many : (place count digits : List ℕ) (many : ℕ) → ArePieces text place count digits
      → word32 (trim count) ≡ Some many → AreNotMany many (trim digits) → AreNoBytes file text

-- a part is no clause: it has an operator, on whose left or right no item stands, or has none and is no bytes
pub data IsNoClause (file : ProgramFile) (text : List ℕ) : Type 0 where
  no_left : (before behind : List ℕ) (comparison : Comparison) → IsCompared text before comparison behind
      → IsNoItem file (trim before) → IsNoClause file text
  no_right : (before behind : List ℕ) (comparison : Comparison) → IsCompared text before comparison behind
      → IsNoItem file (trim behind) → IsNoClause file text
  no_bytes : HasNoOperator text → AreNoBytes file text → IsNoClause file text

-- ---- conditions

-- a text is no condition: it has no `&&` and is no clause; or what stands before the first is none, or what stands
-- behind it no condition
pub data IsNoCondition (file : ProgramFile) : List ℕ → Type 0 where
  alone : {text : List ℕ} → Lacks text (codes "&&") → IsNoClause file text → IsNoCondition file text
  first : {text : List ℕ} (one rest : List ℕ) → IsCut text (codes "&&") one rest → IsNoClause file one
      → IsNoCondition file text
  later : {text : List ℕ} (one rest : List ℕ) → IsCut text (codes "&&") one rest → IsNoCondition file rest
      → IsNoCondition file text

-- it is a condition that looks at a count of a run
abbrev pub IsOfRun : RunClause → Type 0
IsOfRun (clause.OfMachine one) = ⊥
IsOfRun (clause.Compare left comparison right) = ⊤

pub record CountsOfRun (file : ProgramFile) (constants : List ℕ → Bool) (text : List ℕ) : Type 0 where
  pub clauses : List RunClause
  pub says : IsCondition file constants text clauses
  pub one : RunClause
  pub among : Contains clauses one
  pub counting : IsOfRun one

-- a text is no condition on a machine alone
abbrev pub IsNoEndCondition : ProgramFile → (List ℕ → Bool) → List ℕ → Type 0
IsNoEndCondition file constants text = IsNoCondition file text ⊎ CountsOfRun file constants text
