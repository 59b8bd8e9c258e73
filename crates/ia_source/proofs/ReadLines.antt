-- A line, once its tokens and its head are read.
use Rattle.std.proofs.Common.{◌≡◌, ℕ, Bool, false, cond, List, ◌∷◌, Option, Some, sym, ◌∙◌, ap, subst}
use Rattle.std.specs.Prelude.{Result, Ok, Err}
use Rattle.ia_lex.specs.Tokens.{Lexeme, tokens_of}
use Rattle.ia_source.specs.declared.fault.SourceFault.{SourceFault}
use Rattle.ia_source.specs.declared.fault.SourceFault.TheVariants as fault
use Rattle.ia_source.specs.declared.fault.Why.{Why}
use Rattle.ia_source.specs.declared.fault.Why.TheVariants.{SymbolTwice, BadOperand}
use Rattle.ia_source.specs.Contents.{EntryContent}
use Rattle.ia_source.specs.Heads.{Head, head_of}
use Rattle.ia_source.specs.Statements.{StateContent, statement_onto, with_label, behind, IsBad}
use Rattle.ia_source.specs.Source.{SourceContent, is_twice, with_name, label_onto, label_name, or_bad, head_onto}
use Rattle.ia_source.specs.Source.{tokens_onto, line_onto, by_line, lines_onto, Tells, IsTwice}

pub line_is : (s : SourceContent) (line : List ℕ) (ts : List Lexeme) (h : Head) → tokens_of line ≡ Some ts
    → head_of ts ≡ Some h → line_onto s line ≡ head_onto s (Some h)
unfolding line_onto
line_is s line ts h e f = ap (tokens_onto s) e ∙ ap (head_onto s) f

-- the entries behind a line's head
abbrev pub statement_of : SourceContent → Head → Option (List EntryContent)
statement_of s h = statement_onto (label_onto s.entries s.at (label_name s.at.scope h.label) h.statement)
    (with_label s.at h.label h.statement) (label_name s.at.scope h.label) h.statement h.rest

abbrev pub label_twice : SourceContent → Head → Bool
label_twice s h = is_twice s.names (label_name s.at.scope h.label)

once : (s : SourceContent) (h : Head) → label_twice s h ≡ false
    → head_onto s (Some h)
    ≡ or_bad s.at.line (behind (with_label s.at h.label h.statement) h.statement h.rest)
    (with_name s.names (label_name s.at.scope h.label)) (statement_of s h)
once s h e = ap (λ b. cond b (Err (s.at.line, SymbolTwice))
    (or_bad s.at.line (behind (with_label s.at h.label h.statement) h.statement h.rest)
    (with_name s.names (label_name s.at.scope h.label)) (statement_of s h))) e

-- its symbol is defined above
pub twice_told : (s : SourceContent) (h : Head) (f : SourceFault) (read : Result SourceContent (ℕ × Why))
    → read ≡ head_onto s (Some h) → IsTwice (label_twice s h) s.at.line f → Tells read f
twice_told s h (fault.Line l why) read is e =
    is ∙ ap (λ b. cond b (Err (s.at.line, SymbolTwice))
    (or_bad s.at.line (behind (with_label s.at h.label h.statement) h.statement h.rest)
    (with_name s.names (label_name s.at.scope h.label)) (statement_of s h))) e.0
    ∙ ap (λ n. Err (n, SymbolTwice)) (sym e.1) ∙ ap (λ w. Err (l, w)) (sym e.2)
twice_told s h fault.NoMemory read is e = tt

-- its operands fit no form
pub bad_told : (s : SourceContent) (h : Head) (f : SourceFault) (read : Result SourceContent (ℕ × Why))
    → read ≡ head_onto s (Some h) → label_twice s h ≡ false → IsBad (statement_of s h) s.at.line f → Tells read f
bad_told s h (fault.Line l why) read is none e =
    is ∙ once s h none
    ∙ ap (or_bad s.at.line (behind (with_label s.at h.label h.statement) h.statement h.rest)
    (with_name s.names (label_name s.at.scope h.label))) e.0
    ∙ ap (λ n. Err (n, BadOperand)) (sym e.1) ∙ ap (λ w. Err (l, w)) (sym e.2)
bad_told s h fault.NoMemory read is none e = tt

-- it is read
pub is_read : (s : SourceContent) (h : Head) (new : SourceContent) (read : Result SourceContent (ℕ × Why))
    → read ≡ head_onto s (Some h) → label_twice s h ≡ false
    → new.at ≡ behind (with_label s.at h.label h.statement) h.statement h.rest
    → new.names ≡ with_name s.names (label_name s.at.scope h.label) → statement_of s h ≡ Some new.entries
    → read ≡ Ok new
is_read s h new read is none at names e =
    is ∙ once s h none
    ∙ ap (or_bad s.at.line (behind (with_label s.at h.label h.statement) h.statement h.rest)
    (with_name s.names (label_name s.at.scope h.label))) e
    ∙ ap (λ (a : StateContent).
    Ok (record { at = a; names = with_name s.names (label_name s.at.scope h.label); entries = new.entries })) (sym at)
    ∙ ap (λ (n : List (List ℕ)). Ok (record { at = new.at; names = n; entries = new.entries })) (sym names)

-- ---- lines, one by one

pub one_read : (s next : SourceContent) (l : List ℕ) (ls : List (List ℕ)) → line_onto s l ≡ Ok next
    → lines_onto next ls ≡ lines_onto s (l ∷ ls)
one_read s next l ls e = sym (ap (λ r. by_line r (λ more. lines_onto more ls)) e)

pub one_refused : (s : SourceContent) (l : List ℕ) (ls : List (List ℕ)) (f : SourceFault)
    (read : Result (List EntryContent) (ℕ × Why)) → lines_onto s (l ∷ ls) ≡ read
    → Tells (line_onto s l) f → Tells read f
one_refused s l ls (fault.Line n why) read is e = sym is ∙ ap (λ r. by_line r (λ more. lines_onto more ls)) e
one_refused s l ls fault.NoMemory read is e = tt

pub bad_same : (found other : Option (List EntryContent)) (line : ℕ) (f : SourceFault) → found ≡ other
    → IsBad found line f → IsBad other line f
bad_same found other line f e h = subst (λ (o : Option (List EntryContent)). IsBad o line f) e h
