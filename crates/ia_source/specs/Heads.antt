-- What stands in front of a line (NASM manual, "Layout of a NASM Source Line"): a label, with a colon or without, and
-- the name of an instruction or a directive.
use Rattle.std.specs.Prelude.{ℕ, Bool, true, false, not, ◌&&◌, if◌then◌else◌, is_some, Option, Some, None, option_map}
use Rattle.std.specs.Prelude.{List, [], ◌∷◌, map, drop}
use denote.Bor.{Bor}
use Rattle.ia_lex.specs.Words.{register_of}
use Rattle.ia_lex.specs.Tokens.{Lexeme, Word, lexeme_of}
use Rattle.ia_lex.specs.declared.token.Token.{Token}
use Rattle.ia_source.specs.declared.directive.Keyword.{Keyword}
use Rattle.ia_source.specs.declared.directive.Keyword.TheVariants as keyword
use Rattle.ia_source.specs.declared.head.Statement.{Statement}
use Rattle.ia_source.specs.declared.head.Statement.TheVariants.{Nothing, Code, Directive, Unfit}
use Rattle.ia_source.specs.declared.head.Head.{Head as CodeHead}
use Rattle.ia_source.specs.Keywords.{keyword_of}
use Rattle.ia_source.specs.Commas.{is_mark_of}

-- a name in front, what the line asks for, and its operands
pub record Head : Type 0 where
  pub label : Option (List ℕ)
  pub statement : Statement
  pub rest : List Lexeme

-- a first word that names no instruction, directive, prefix, register or size is a label
abbrev pub is_label : List ℕ → Bool
is_label w = not (is_some (keyword_of w)) && not (is_some (register_of w))

abbrev pub begins_with_colon : List Lexeme → Bool
begins_with_colon [] = false
begins_with_colon (t ∷ ts) = is_mark_of 58 t

abbrev pub behind_colon : List Lexeme → List Lexeme
behind_colon ts = if begins_with_colon ts then drop 1 ts else ts

abbrev pub statement_behind_lock : Option Keyword → List Lexeme → Option (Statement × List Lexeme)
statement_behind_lock None ts = None
statement_behind_lock (Some keyword.Lock) ts = None
statement_behind_lock (Some (keyword.Mnemonic m)) ts = Some (Code true m, ts)
statement_behind_lock (Some (keyword.Directive d)) ts = Some (Unfit, ts)
statement_behind_lock (Some keyword.Reserved) ts = None

abbrev pub behind_lock : List Lexeme → Option (Statement × List Lexeme)
behind_lock [] = Some (Unfit, [])
behind_lock (Word w ∷ ts) = statement_behind_lock (keyword_of w) ts
behind_lock (t ∷ ts) = None

abbrev pub by_keyword : Option Keyword → List Lexeme → Option (Statement × List Lexeme)
by_keyword None ts = None
by_keyword (Some keyword.Lock) ts = behind_lock ts
by_keyword (Some (keyword.Mnemonic m)) ts = Some (Code false m, ts)
by_keyword (Some (keyword.Directive d)) ts = Some (Directive d, ts)
by_keyword (Some keyword.Reserved) ts = None

-- what a line without a label asks for
abbrev pub statement_at : List Lexeme → Option (Statement × List Lexeme)
statement_at [] = Some (Nothing, [])
statement_at (Word w ∷ ts) = by_keyword (keyword_of w) ts
statement_at (t ∷ ts) = None

abbrev pub with_label : Option (List ℕ) → Option (Statement × List Lexeme) → Option Head
with_label label None = None
with_label label (Some s) = Some (record { label = label; statement = s.0; rest = s.1 })

-- the head of a line, or none where its name is no instruction's and no directive's
abbrev pub head_of : List Lexeme → Option Head
head_of [] = with_label None (statement_at [])
head_of (Word w ∷ ts) = if is_label w then with_label (Some w) (statement_at (behind_colon ts)) else with_label None
    (statement_at (Word w ∷ ts))
head_of (t ∷ ts) = None

-- ---- what the code's values stand for

abbrev pub statement_content : Statement × Bor (List Token) → Statement × List Lexeme
statement_content s = (s.0, map lexeme_of s.1.now)

abbrev pub head_content : CodeHead → Head
head_content h = record {
  label = option_map
      (λ l. l.now) h.label;
  statement = h.statement;
  rest = map lexeme_of h.rest.now;
}
