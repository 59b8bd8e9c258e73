-- What entries say, wherever their bytes lie.
use Rattle.std.specs.Prelude.{ℕ, Bool, if◌then◌else◌, Option, Some, None, option_map, List, map}
use Rattle.ia_insn.specs.declared.op.Insn.{Insn}
use Rattle.ia_item.specs.declared.item.Section.{Section}
use Rattle.ia_item.specs.declared.item.Item.{Item}
use Rattle.ia_item.specs.declared.item.Item.TheVariants as item
use Rattle.ia_item.specs.declared.item.Entry.{Entry}
use Rattle.ia_item.specs.declared.expression.ScopedAtom.{ScopedAtom}
use Rattle.ia_item.specs.declared.expression.ScopedAtom.TheVariants as atom
use Rattle.ia_item.specs.declared.expression.ScopedTerm.{ScopedTerm}
use Rattle.ia_item.specs.declared.expression.ScopedExpression.{ScopedExpression}
use Rattle.ia_item.specs.declared.symbol.Definition.{Definition}
use Rattle.ia_item.specs.Names.{whole_name}
use Rattle.ia_names.specs.Namings.{Naming}
use Rattle.ia_lex.specs.Terms.{AtomContent, NumberAtom, SymbolAtom, TermContent}

-- what a line, or a part of it, asks for: symbols by their whole names, expressions by their terms
pub data ItemContent : Type 0 where
  Label : List ℕ → ItemContent
  Equ : List ℕ → List TermContent → ItemContent
  Code : Insn → Option (List TermContent) → Option (List TermContent) → ItemContent
  Byte : List TermContent → ItemContent
  Text : List ℕ → ItemContent
  Numbers : List ℕ → ItemContent
  Long : List TermContent → ItemContent
  Reserve : List TermContent → ItemContent
  Align : ℕ → ItemContent
  Org : Option ℕ → ItemContent

-- an item, its line and its section
pub record EntryContent : Type 0 where
  pub line : ℕ
  pub section : Section
  pub item : ItemContent

-- the whole name of each symbol, and whether a definition has the name of its letters, or that of its symbol
pub record Reading : Type 0 where
  pub naming : Naming
  pub written : Bool

abbrev pub definition_name : Reading → Definition → List ℕ
definition_name r d = if r.written then whole_name d.name else r.naming d.symbol.number

abbrev pub scoped_atom_content : Naming → ScopedAtom → AtomContent
scoped_atom_content naming (atom.Number n) = NumberAtom (Some n)
scoped_atom_content naming atom.Huge = NumberAtom None
scoped_atom_content naming (atom.Symbol s) = SymbolAtom (naming s.number)

abbrev pub scoped_term_content : Naming → ScopedTerm → TermContent
scoped_term_content naming p = record { negative = p.negative; atom = scoped_atom_content naming p.atom }

abbrev pub expression_content : Naming → ScopedExpression → List TermContent
expression_content naming s = map (scoped_term_content naming) s.terms.items

abbrev pub item_content : Reading → Item → ItemContent
item_content r (item.Label d) = Label (definition_name r d)
item_content r (item.Equ d s) = Equ (definition_name r d) (expression_content r.naming s)
item_content r (item.Code t) = Code t.insn (option_map (expression_content r.naming) t.number)
    (option_map (expression_content r.naming) t.displacement)
item_content r (item.Byte s) = Byte (expression_content r.naming s)
item_content r (item.Text bytes) = Text bytes.now
item_content r (item.Numbers bytes) = Numbers bytes.items
item_content r (item.Long s) = Long (expression_content r.naming s)
item_content r (item.Reserve s) = Reserve (expression_content r.naming s)
item_content r (item.Align n) = Align n
item_content r (item.Org n) = Org n

abbrev pub entry_content : Reading → Entry → EntryContent
entry_content r e = record { line = e.line; section = e.section; item = item_content r e.item }
