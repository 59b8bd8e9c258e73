-- What a source asks for, line by line, or the first line that is wrong.
use Rattle.std.specs.Prelude.{◌≡◌, ℕ, Bool, true, false, if◌then◌else◌, Option, Some, None, option_map, List, [], ◌∷◌}
use Rattle.std.specs.Prelude.{◌++◌, map}
use Rattle.std.specs.Prelude.{Result, Ok, Err}
use Rattle.std.specs.List.{list_any}
use Rattle.std.specs.Str.{bytes_eq}
use Rattle.indexmap.specs.IndexSet.{IndexSet}
use Rattle.ia_item.specs.declared.item.Entry.{Entry}
use Rattle.ia_item.specs.declared.symbol.Symbol.{Symbol}
use Rattle.ia_names.specs.declared.names.Names.{Names}
use Rattle.ia_names.specs.Namings.{Naming, IsNaming, IsOneToOne}
use Rattle.ia_lex.specs.Tokens.{Lexeme, tokens_of}
use Rattle.ia_lex.specs.Lines.{lines_of}
use Rattle.ia_source.specs.declared.directive.Directive.TheVariants as directive
use Rattle.ia_source.specs.declared.head.Statement.{Statement}
use Rattle.ia_source.specs.declared.head.Statement.TheVariants as statement
use Rattle.ia_source.specs.declared.state.SourceState.{SourceState}
use Rattle.ia_source.specs.declared.fault.Why.{Why}
use Rattle.ia_source.specs.declared.fault.Why.TheVariants.{BadToken, NotInSubset, SymbolTwice, BadOperand}
use Rattle.ia_source.specs.declared.fault.SourceFault.{SourceFault}
use Rattle.ia_source.specs.declared.fault.SourceFault.TheVariants as fault
use Rattle.ia_source.specs.Contents.{EntryContent, Label, Reading, entry_content}
use Rattle.ia_source.specs.Symbols.{whole_of}
use Rattle.ia_source.specs.Heads.{Head, head_of}
use Rattle.ia_source.specs.Statements.{StateContent, first_state, add, statement_onto, with_label, behind}
use Rattle.ia_source.specs.Statements.{state_content}

-- what the lines so far have made: the whole names of the symbols that they define, and their entries
pub record SourceContent : Type 0 where
  pub at : StateContent
  pub names : List (List ℕ)
  pub entries : List EntryContent

abbrev pub is_among : List (List ℕ) → List ℕ → Bool
is_among names n = list_any (bytes_eq n) names

-- the symbol of a line's label is defined above
abbrev pub is_twice : List (List ℕ) → Option (List ℕ) → Bool
is_twice names None = false
is_twice names (Some name) = is_among names name

abbrev pub with_name : List (List ℕ) → Option (List ℕ) → List (List ℕ)
with_name names None = names
with_name names (Some name) = names ++ name ∷ []

-- the entry of a label; the name of an equ is none
abbrev pub add_label : List EntryContent → StateContent → Option (List ℕ) → List EntryContent
add_label es at None = es
add_label es at (Some name) = add es at (Label name)

abbrev pub label_onto : List EntryContent → StateContent → Option (List ℕ) → Statement → List EntryContent
label_onto es at name (statement.Directive directive.Equ) = es
label_onto es at name _ = add_label es at name

-- the whole name of a line's label
abbrev pub label_name : List ℕ → Option (List ℕ) → Option (List ℕ)
label_name scope label = option_map (whole_of scope) label

-- ---- lines

abbrev pub or_bad : ℕ → StateContent → List (List ℕ) → Option (List EntryContent) → Result SourceContent (ℕ × Why)
or_bad line at names None = Err (line, BadOperand)
or_bad line at names (Some es) = Ok (record { at = at; names = names; entries = es })

abbrev pub head_onto : SourceContent → Option Head → Result SourceContent (ℕ × Why)
head_onto s None = Err (s.at.line, NotInSubset)
head_onto s (Some h) =
    if is_twice s.names (label_name s.at.scope h.label) then Err (s.at.line, SymbolTwice)
    else or_bad s.at.line (behind (with_label s.at h.label h.statement) h.statement h.rest)
    (with_name s.names (label_name s.at.scope h.label))
    (statement_onto (label_onto s.entries s.at (label_name s.at.scope h.label) h.statement)
    (with_label s.at h.label h.statement) (label_name s.at.scope h.label) h.statement h.rest)

abbrev pub tokens_onto : SourceContent → Option (List Lexeme) → Result SourceContent (ℕ × Why)
tokens_onto s None = Err (s.at.line, BadToken)
tokens_onto s (Some ts) = head_onto s (head_of ts)

-- one more line, or what is wrong with it: the first of a character or number that is no token, a name in a mnemonic's
-- place, a symbol that is defined above, operands that fit no form
unfoldable pub line_onto : SourceContent → List ℕ → Result SourceContent (ℕ × Why)
line_onto s bytes = tokens_onto s (tokens_of bytes)

abbrev pub by_line : Result SourceContent (ℕ × Why) → (SourceContent → Result (List EntryContent) (ℕ × Why))
    → Result (List EntryContent) (ℕ × Why)
by_line (Err e) next = Err e
by_line (Ok s) next = next s

abbrev pub lines_onto : SourceContent → List (List ℕ) → Result (List EntryContent) (ℕ × Why)
lines_onto s [] = Ok s.entries
lines_onto s (l ∷ ls) = by_line (line_onto s l) (λ more. lines_onto more ls)

abbrev pub first_content : SourceContent
first_content = record { at = first_state; names = []; entries = [] }

-- the entries of a source in the order of its lines, or the first line that is wrong and why
abbrev pub entries_of : List ℕ → Result (List EntryContent) (ℕ × Why)
entries_of source = lines_onto first_content (lines_of source)

-- ---- what the code's values stand for

abbrev pub names_content : {S : Type 0} → Naming → IndexSet Symbol S → List (List ℕ)
names_content naming symbols = map (λ (s : Symbol). naming s.number) symbols.keys

abbrev pub source_content : {S : Type 0}
    → Reading → SourceState → Names → IndexSet Symbol S → List Entry → SourceContent
source_content r state names symbols es = record {
  at = state_content names.scope.text.now state;
  names = names_content r.naming symbols;
  entries = map (entry_content r) es;
}

-- the lines of the source ask for these entries, by any naming that has these names
abbrev pub ReadsAs : List ℕ → Names → List Entry → Type 0
ReadsAs source names es = (r : Reading) → IsNaming r.naming names → entries_of source ≡ Ok (map (entry_content r) es)

-- the lines of the source ask for these entries: by the letters of their definitions, and by the names of their
-- symbols, no two of which are the same
pub record AsksFor (source : List ℕ) (es : List Entry) : Type 0 where
  pub naming : Naming
  pub one_to_one : IsOneToOne naming
  pub named : entries_of source ≡ Ok (map (entry_content (record { naming = naming; written = false })) es)
  pub written : entries_of source ≡ Ok (map (entry_content (record { naming = naming; written = true })) es)

-- a call told what a reading says is wrong, or that no memory was left
abbrev pub Tells : {X : Type 0} → Result X (ℕ × Why) → SourceFault → Type 0
Tells read (fault.Line line why) = read ≡ Err (line, why)
Tells read fault.NoMemory = Unit {0}

abbrev pub IsTwice : Bool → ℕ → SourceFault → Type 0
IsTwice twice line (fault.Line l why) = (twice ≡ true) × (l ≡ line) × (why ≡ SymbolTwice)
IsTwice twice line fault.NoMemory = Unit {0}
