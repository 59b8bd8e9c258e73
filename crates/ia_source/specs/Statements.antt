-- What lines ask for (NASM manual, chapters 3 and 7): instructions, data and directives, with what they have to know of
-- the lines above.
use Rattle.std.specs.Prelude.{◌≡◌, ℕ, ◌+◌, ◌-◌, ◌^◌, Bool, true, false, not, ◌==◌, ◌||◌, nat_lt, if◌then◌else◌, is_some}
use Rattle.std.specs.Prelude.{Option, Some, None, option_map, unwrap_or, List, [], ◌∷◌, ◌++◌, codes, map}
use Rattle.std.specs.Str.{bytes_eq}
use Rattle.ia_item.specs.declared.item.Section.{Section}
use Rattle.ia_item.specs.declared.item.Section.TheVariants as section
use Rattle.ia_lex.specs.Words.{register_of}
use Rattle.ia_lex.specs.Tokens.{Lexeme, Word, Number, Text as Quoted}
use Rattle.ia_lex.specs.Terms.{TermContent}
use Rattle.ia_insn.specs.declared.mnemonic.Mnemonic.{Mnemonic}
use Rattle.ia_source.specs.declared.directive.Directive.{Directive}
use Rattle.ia_source.specs.declared.directive.Directive.TheVariants as directive
use Rattle.ia_source.specs.declared.head.Statement.{Statement}
use Rattle.ia_source.specs.declared.head.Statement.TheVariants as statement
use Rattle.ia_source.specs.declared.state.SourceState.{SourceState}
use Rattle.ia_source.specs.declared.fault.Why.TheVariants.{BadOperand}
use Rattle.ia_source.specs.declared.fault.SourceFault.{SourceFault}
use Rattle.ia_source.specs.declared.fault.SourceFault.TheVariants as fault
use Rattle.ia_word.specs.Bytes.{long_bytes}
use Rattle.ia_item.specs.declared.item.Entry.{Entry}
use Rattle.ia_item.specs.declared.symbol.Definition.{Definition}
use Rattle.ia_names.specs.declared.names.Names.{Names}
use Rattle.ia_names.specs.Namings.{IsNamed}
use denote.Bor.{Bor}
use Rattle.ia_source.specs.Contents.{ItemContent, EntryContent, Equ, Code, Byte, Text, Numbers, Long, Reserve, Align}
use Rattle.ia_source.specs.Contents.{Org, Reading, entry_content}
use Rattle.ia_source.specs.Symbols.{is_local, whole_of, term_in_scope, terms_in_scope}
use Rattle.ia_source.specs.Commas.{between_commas}
use Rattle.ia_form.specs.Forms.{instruction_of}
use Rattle.ia_source.specs.Operands.{Operands, operands_of, expression_of}

-- a line's number, the last label that is not local, the section in force, and whether `org` or anything placed stood
-- above
pub record StateContent : Type 0 where
  pub line : ℕ
  pub scope : List ℕ
  pub section : Section
  pub based : Bool
  pub placed : Bool

abbrev pub first_state : StateContent
first_state = record { line = 1; scope = []; section = section.Text; based = false; placed = false }

-- ---- entries

abbrev pub add : List EntryContent → StateContent → ItemContent → List EntryContent
add es at i = es ++ (record { line = at.line; section = at.section; item = i }) ∷ []

abbrev pub add_some : List EntryContent → StateContent → Option ItemContent → Option (List EntryContent)
add_some es at None = None
add_some es at (Some i) = Some (add es at i)

-- the terms of an expression with the whole names of their symbols
abbrev pub expression_in : List ℕ → List Lexeme → Option (List TermContent)
expression_in scope ts = option_map (map (term_in_scope scope)) (expression_of ts)

-- an instruction and its expressions
abbrev pub code_item : List ℕ → Bool → Mnemonic → Option Operands → Option ItemContent
code_item scope lock m None = None
code_item scope lock m (Some os) = option_map (λ i. Code i (terms_in_scope scope os.number)
    (terms_in_scope scope os.displacement)) (instruction_of lock m os.shapes)

-- ---- data

-- what stands between quotes, and alone
abbrev pub only_text : List Lexeme → Option (List ℕ)
only_text (Quoted t ∷ []) = Some t
only_text ts = None

abbrev pub text_or : Option (List ℕ) → Option ItemContent → Option ItemContent
text_or None other = other
text_or (Some t) other = Some (Text t)

abbrev pub byte_item : List ℕ → List Lexeme → Option ItemContent
byte_item scope ts = text_or (only_text ts) (option_map Byte (expression_in scope ts))

-- a value of db, or of dd
abbrev pub value_item : Bool → List ℕ → List Lexeme → Option ItemContent
value_item false scope ts = byte_item scope ts
value_item true scope ts = option_map Long (expression_in scope ts)

-- the number that a value of db or dd is, where it stands without a sign and has a place there
abbrev pub plain_number : Bool → List Lexeme → Option ℕ
plain_number long (Number (Some n) ∷ []) = if nat_lt n (if long then 2 ^ 32 else 256) then Some n else None
plain_number long ts = None

abbrev pub number_bytes : Bool → ℕ → List ℕ
number_bytes false n = n ∷ []
number_bytes true n = long_bytes n

-- the entries of a line of db or dd, and the bytes of the numbers that stand one behind the other behind them
pub record Values : Type 0 where
  pub entries : List EntryContent
  pub run : List ℕ

-- numbers that stand one behind the other are one item
abbrev pub with_run : List EntryContent → StateContent → List ℕ → List EntryContent
with_run es at [] = es
with_run es at (b ∷ run) = add es at (Numbers (b ∷ run))

abbrev pub with_entries : Option (List EntryContent) → Option Values
with_entries es = option_map (λ more. record { entries = more; run = [] }) es

abbrev pub by_number : Option ℕ → Bool → Values → Option Values → Option Values
by_number None long v other = other
by_number (Some n) long v other = Some (record { entries = v.entries; run = v.run ++ number_bytes long n })

-- one more value of db, or of dd
abbrev pub value_onto : Bool → StateContent → Values → List Lexeme → Option Values
value_onto long at v p = by_number (plain_number long p) long v
    (with_entries (add_some (with_run v.entries at v.run) at (value_item long at.scope p)))

abbrev pub by_value : Option Values → (Values → Option (List EntryContent)) → Option (List EntryContent)
by_value None next = None
by_value (Some v) next = next v

abbrev pub values_onto : Bool → StateContent → Values → List (List Lexeme) → Option (List EntryContent)
values_onto long at v [] = Some (with_run v.entries at v.run)
values_onto long at v (p ∷ ps) = by_value (value_onto long at v p) (λ more. values_onto long at more ps)

-- before the first value of a line
abbrev pub no_value : List EntryContent → Values
no_value es = record { entries = es; run = [] }

-- ---- directives

-- one word, in lower case
abbrev pub named_section : List Lexeme → Option Section
named_section (Word w ∷ []) = if bytes_eq w (codes ".text") then Some section.Text else if bytes_eq w
    (codes ".data") then Some section.Data else None
named_section _ = None

abbrev pub only_number : List Lexeme → Option (Option ℕ)
only_number (Number n ∷ []) = Some n
only_number _ = None

abbrev pub is_32 : Option (Option ℕ) → Bool
is_32 (Some (Some n)) = n == 32
is_32 _ = false

-- a name, which no register has
abbrev pub is_symbol : List Lexeme → Bool
is_symbol (Word w ∷ []) = not (is_some (register_of w))
is_symbol _ = false

-- a power of two up to 4096
abbrev pub is_power : ℕ → Bool
is_power n = (n == 1) || (n == 2) || (n == 4) || (n == 8) || (n == 16) || (n == 32) || (n == 64) || (n == 128) ||
    (n == 256) || (n == 512)
    || (n == 1024) || (n == 2048) || (n == 4096)

abbrev pub align_item : Option (Option ℕ) → Option ItemContent
align_item (Some (Some n)) = if is_power n then Some (Align n) else None
align_item _ = None

-- once, and before anything is placed
abbrev pub org_item : StateContent → List Lexeme → Option ItemContent
org_item at ts = if at.based || at.placed then None else option_map Org (only_number ts)

-- a symbol of this name, where there is one
abbrev pub equ_item : List ℕ → Option (List ℕ) → List Lexeme → Option ItemContent
equ_item scope None ts = None
equ_item scope (Some name) ts = option_map (Equ name) (expression_in scope ts)

abbrev pub if_fits : Bool → List EntryContent → Option (List EntryContent)
if_fits fits es = if fits then Some es else None

-- what a directive asks for behind entries, where a name of this whole name stands in front, or none
unfoldable pub directive_onto : List EntryContent → StateContent → Option (List ℕ) → Directive → List Lexeme
    → Option (List EntryContent)
directive_onto es at name directive.Section ts = if_fits (is_some (named_section ts)) es
directive_onto es at name directive.Org ts = add_some es at (org_item at ts)
directive_onto es at name directive.Bits ts = if_fits (is_32 (only_number ts)) es
directive_onto es at name directive.Global ts = if_fits (is_symbol ts) es
directive_onto es at name directive.Db ts = values_onto false at (no_value es) (between_commas ts)
directive_onto es at name directive.Dd ts = values_onto true at (no_value es) (between_commas ts)
directive_onto es at name directive.Resb ts = add_some es at (option_map Reserve (expression_in at.scope ts))
directive_onto es at name directive.Align ts = add_some es at (align_item (only_number ts))
directive_onto es at name directive.Equ ts = add_some es at (equ_item at.scope name ts)

-- what a line asks for, behind entries; none where its operands fit no form
abbrev pub statement_onto : List EntryContent → StateContent → Option (List ℕ) → Statement → List Lexeme
    → Option (List EntryContent)
statement_onto es at name statement.Nothing ts = Some es
statement_onto es at name (statement.Code lock m) ts = add_some es at (code_item at.scope lock m (operands_of ts))
statement_onto es at name (statement.Directive d) ts = directive_onto es at name d ts
statement_onto es at name statement.Unfit ts = None

-- ---- what the next line has to know

-- the name of an equ is no label that local ones belong to
abbrev pub with_scope : StateContent → Option (List ℕ) → StateContent
with_scope at None = at
with_scope at (Some own) = if is_local own then at else record {
  line = at.line;
  scope = own;
  section = at.section;
  based = at.based;
  placed = at.placed;
}

abbrev pub with_label : StateContent → Option (List ℕ) → Statement → StateContent
with_label at label (statement.Directive directive.Equ) = at
with_label at label _ = with_scope at label

abbrev pub in_section : StateContent → Option Section → StateContent
in_section at s = record {
  line = at.line;
  scope = at.scope;
  section = unwrap_or s at.section;
  based = at.based;
  placed = at.placed;
}

abbrev pub with_flags : StateContent → Bool → Bool → StateContent
with_flags at based placed = record {
  line = at.line;
  scope = at.scope;
  section = at.section;
  based = at.based ||
      based;
  placed = at.placed || placed;
}

abbrev pub behind_statement : StateContent → Statement → List Lexeme → StateContent
behind_statement at (statement.Directive directive.Section) ts = in_section at (named_section ts)
behind_statement at (statement.Directive directive.Org) ts = with_flags at true false
behind_statement at (statement.Directive directive.Db) ts = with_flags at false true
behind_statement at (statement.Directive directive.Dd) ts = with_flags at false true
behind_statement at (statement.Directive directive.Resb) ts = with_flags at false true
behind_statement at (statement.Directive directive.Align) ts = with_flags at false true
behind_statement at (statement.Code lock m) ts = with_flags at false true
behind_statement at _ ts = at

abbrev pub next_line : ℕ → ℕ
next_line n = if nat_lt n (2 ^ 32 - 1) then n + 1 else n

abbrev pub in_next_line : StateContent → StateContent
in_next_line at = record {
  line = next_line at.line;
  scope = at.scope;
  section = at.section;
  based = at.based;
  placed
      = at.placed;
}

abbrev pub behind : StateContent → Statement → List Lexeme → StateContent
behind at w ts = in_next_line (behind_statement at w ts)

-- ---- what the code's values stand for

abbrev pub state_content : List ℕ → SourceState → StateContent
state_content scope s = record { line = s.line; scope = scope; section = s.section; based = s.based; placed = s.placed }

-- a call that adds entries told why it did not
abbrev pub IsBad : {X : Type 0} → Option X → ℕ → SourceFault → Type 0
IsBad found line (fault.Line l why) = (found ≡ None) × (l ≡ line) × (why ≡ BadOperand)
IsBad found line fault.NoMemory = Unit {0}

abbrev pub IsUnfit : Bool → ℕ → SourceFault → Type 0
IsUnfit fits line (fault.Line l why) = (fits ≡ false) × (l ≡ line) × (why ≡ BadOperand)
IsUnfit fits line fault.NoMemory = Unit {0}

abbrev pub values_content : Reading → List Entry → List ℕ → Values
values_content r es run = record { entries = map (entry_content r) es; run = run }

-- a definition is that of a line's label: its symbol has the label's name
abbrev pub IsLabelOf : Names → Option (Bor (List ℕ)) → Option Definition → Type 0
IsLabelOf names (Some own) (Some d) = IsNamed names d.symbol (whole_of names.scope.text.now own.now)
IsLabelOf names None None = Unit {0}
IsLabelOf names _ _ = ⊥
