-- What lines add stands behind what there is: entries in front change nothing else.
use Rattle.std.proofs.Common.{◌≡◌, ℕ, Bool, true, false, cond, List, [], ◌∷◌, ◌++◌, Option, Some, None, refl, ◌∙◌, ap}
use Rattle.std.proofs.Common.{append_assoc}
use Rattle.std.specs.Prelude.{option_map, Result, Ok, Err, is_some}
use Rattle.ia_lex.specs.Tokens.{Lexeme, tokens_of}
use Rattle.ia_source.specs.declared.directive.Directive.{Directive}
use Rattle.ia_source.specs.declared.directive.Directive.TheVariants as directive
use Rattle.ia_source.specs.declared.head.Statement.{Statement}
use Rattle.ia_source.specs.declared.head.Statement.TheVariants as statement
use Rattle.ia_source.specs.declared.fault.Why.{Why}
use Rattle.ia_source.specs.declared.fault.Why.TheVariants.{SymbolTwice}
use Rattle.ia_source.specs.Contents.{ItemContent, EntryContent, Label, Reserve}
use Rattle.ia_source.specs.Commas.{between_commas}
use Rattle.ia_source.specs.Operands.{operands_of}
use Rattle.ia_source.specs.Heads.{Head, head_of}
use Rattle.ia_source.specs.Statements.{StateContent, add_some, expression_in, code_item, value_item, Values}
use Rattle.ia_source.specs.Statements.{plain_number, with_run, with_entries, by_number, value_onto, by_value, no_value}
use Rattle.ia_source.specs.Statements.{values_onto, named_section, only_number, is_32, is_symbol, align_item, org_item}
use Rattle.ia_source.specs.Statements.{equ_item, if_fits, directive_onto, statement_onto, with_label, behind}
use Rattle.ia_source.specs.Source.{SourceContent, is_twice, with_name, add_label, label_onto, label_name, or_bad}
use Rattle.ia_source.specs.Source.{head_onto, tokens_onto, line_onto, by_line, lines_onto}

-- ---- entries

abbrev with_front : List EntryContent → Option (List EntryContent) → Option (List EntryContent)
with_front a r = option_map (λ es. a ++ es) r

added : (a es : List EntryContent) (at : StateContent) (i : Option ItemContent)
    → add_some (a ++ es) at i ≡ with_front a (add_some es at i)
added a es at None = refl
added a es at (Some i) = ap Some (append_assoc a es (record { line = at.line; section = at.section; item = i } ∷ []))

run_added : (a es : List EntryContent) (at : StateContent) (run : List ℕ)
    → with_run (a ++ es) at run ≡ a ++ with_run es at run
run_added a es at [] = refl
run_added a es at (b ∷ run) = append_assoc a es _

abbrev values_behind : List EntryContent → Values → Values
values_behind a v = record { entries = a ++ v.entries; run = v.run }

entries_behind : (a : List EntryContent) (r : Option (List EntryContent))
    → with_entries (with_front a r) ≡ option_map (values_behind a) (with_entries r)
entries_behind a None = refl
entries_behind a (Some es) = refl

number_behind : (a : List EntryContent) (n : Option ℕ) (long : Bool) (v : Values) (other : Option Values)
    → by_number n long (values_behind a v) (option_map (values_behind a) other)
    ≡ option_map (values_behind a) (by_number n long v other)
number_behind a None long v other = refl
number_behind a (Some n) long v other = refl

value_behind : (a : List EntryContent) (long : Bool) (at : StateContent) (v : Values) (p : List Lexeme)
    → value_onto long at (values_behind a v) p ≡ option_map (values_behind a) (value_onto long at v p)
value_behind a long at v p =
    let item = value_item long at.scope p in
    let is :
    with_entries (add_some (with_run (a ++ v.entries) at v.run) at item)
    ≡ option_map (values_behind a) (with_entries (add_some (with_run v.entries at v.run) at item)) =
    ap (λ es. with_entries (add_some es at item)) (run_added a v.entries at v.run)
    ∙ ap with_entries (added a (with_run v.entries at v.run) at item)
    ∙ entries_behind a (add_some (with_run v.entries at v.run) at item) in
    ap (by_number (plain_number long p) long (values_behind a v)) is
    ∙ number_behind a (plain_number long p) long v (with_entries (add_some (with_run v.entries at v.run) at item))

by_value_behind : (a : List EntryContent) (r : Option Values) (next : Values → Option (List EntryContent))
    → ((v : Values) → next (values_behind a v) ≡ with_front a (next v))
    → by_value (option_map (values_behind a) r) next ≡ with_front a (by_value r next)
by_value_behind a None next f = refl
by_value_behind a (Some v) next f = f v

values_added : (a : List EntryContent) (long : Bool) (at : StateContent) (v : Values) (ps : List (List Lexeme))
    → values_onto long at (values_behind a v) ps ≡ with_front a (values_onto long at v ps)
values_added a long at v [] = ap Some (run_added a v.entries at v.run)
values_added a long at v (p ∷ ps) =
    ap (λ r. by_value r (λ more. values_onto long at more ps)) (value_behind a long at v p)
    ∙ by_value_behind a (value_onto long at v p) (λ more. values_onto long at more ps)
    (λ more. values_added a long at more ps)

fits_behind : (a es : List EntryContent) (b : Bool) → if_fits b (a ++ es) ≡ with_front a (if_fits b es)
fits_behind a es true = refl
fits_behind a es false = refl

directive_behind : (a es : List EntryContent) (at : StateContent) (label : Option (List ℕ)) (d : Directive)
    (ts : List Lexeme) → directive_onto (a ++ es) at label d ts ≡ with_front a (directive_onto es at label d ts)
unfolding directive_onto
directive_behind a es at label directive.Section ts = fits_behind a es (is_some (named_section ts))
directive_behind a es at label directive.Org ts = added a es at (org_item at ts)
directive_behind a es at label directive.Bits ts = fits_behind a es (is_32 (only_number ts))
directive_behind a es at label directive.Global ts = fits_behind a es (is_symbol ts)
directive_behind a es at label directive.Db ts = values_added a false at (no_value es) (between_commas ts)
directive_behind a es at label directive.Dd ts = values_added a true at (no_value es) (between_commas ts)
directive_behind a es at label directive.Resb ts = added a es at (option_map Reserve (expression_in at.scope ts))
directive_behind a es at label directive.Align ts = added a es at (align_item (only_number ts))
directive_behind a es at label directive.Equ ts = added a es at (equ_item at.scope label ts)

statement_behind : (a es : List EntryContent) (at : StateContent) (label : Option (List ℕ)) (w : Statement)
    (ts : List Lexeme) → statement_onto (a ++ es) at label w ts ≡ with_front a (statement_onto es at label w ts)
statement_behind a es at label statement.Nothing ts = refl
statement_behind a es at label (statement.Code lock m) ts = added a es at (code_item at.scope lock m (operands_of ts))
statement_behind a es at label (statement.Directive d) ts = directive_behind a es at label d ts
statement_behind a es at label statement.Unfit ts = refl

name_added : (a es : List EntryContent) (at : StateContent) (label : Option (List ℕ))
    → add_label (a ++ es) at label ≡ a ++ add_label es at label
name_added a es at None = refl
name_added a es at (Some name) =
    append_assoc a es (record { line = at.line; section = at.section; item = Label name } ∷ [])

label_added : (a es : List EntryContent) (at : StateContent) (label : Option (List ℕ)) (w : Statement)
    → label_onto (a ++ es) at label w ≡ a ++ label_onto es at label w
label_added a es at label (statement.Directive directive.Equ) = refl
label_added a es at label (statement.Directive directive.Section) = name_added a es at label
label_added a es at label (statement.Directive directive.Org) = name_added a es at label
label_added a es at label (statement.Directive directive.Bits) = name_added a es at label
label_added a es at label (statement.Directive directive.Global) = name_added a es at label
label_added a es at label (statement.Directive directive.Db) = name_added a es at label
label_added a es at label (statement.Directive directive.Dd) = name_added a es at label
label_added a es at label (statement.Directive directive.Resb) = name_added a es at label
label_added a es at label (statement.Directive directive.Align) = name_added a es at label
label_added a es at label statement.Nothing = name_added a es at label
label_added a es at label (statement.Code lock m) = name_added a es at label
label_added a es at label statement.Unfit = name_added a es at label

-- ---- lines

abbrev pub content_behind : List EntryContent → SourceContent → SourceContent
content_behind a s = record { at = s.at; names = s.names; entries = a ++ s.entries }

abbrev line_behind : List EntryContent → Result SourceContent (ℕ × Why) → Result SourceContent (ℕ × Why)
line_behind a (Err f) = Err f
line_behind a (Ok s) = Ok (content_behind a s)

-- entries in front of what lines ask for
abbrev pub lines_behind : List EntryContent → Result (List EntryContent) (ℕ × Why)
    → Result (List EntryContent) (ℕ × Why)
lines_behind a (Err f) = Err f
lines_behind a (Ok es) = Ok (a ++ es)

or_bad_behind : (a : List EntryContent) (line : ℕ) (at : StateContent) (names : List (List ℕ))
    (r : Option (List EntryContent)) → or_bad line at names (with_front a r) ≡ line_behind a (or_bad line at names r)
or_bad_behind a line at names None = refl
or_bad_behind a line at names (Some es) = refl

by_twice : (a : List EntryContent) (b : Bool) (f : ℕ × Why) (r : Result SourceContent (ℕ × Why))
    → cond b (Err f) (line_behind a r) ≡ line_behind a (cond b (Err f) r)
by_twice a true f r = refl
by_twice a false f r = refl

head_behind : (a : List EntryContent) (s : SourceContent) (h : Option Head)
    → head_onto (content_behind a s) h ≡ line_behind a (head_onto s h)
head_behind a s None = refl
head_behind a s (Some h) =
    let name = label_name s.at.scope h.label in
    let at = with_label s.at h.label h.statement in
    let labelled = label_onto s.entries s.at name h.statement in
    let bad = or_bad s.at.line (behind at h.statement h.rest) (with_name s.names name) in
    let twice = is_twice s.names name in
    ap (λ es. cond twice (Err (s.at.line, SymbolTwice)) (bad (statement_onto es at name h.statement h.rest)))
    (label_added a s.entries s.at name h.statement)
    ∙ ap (λ r. cond twice (Err (s.at.line, SymbolTwice)) (bad r))
    (statement_behind a labelled at name h.statement h.rest)
    ∙ ap (λ r. cond twice (Err (s.at.line, SymbolTwice)) r)
    (or_bad_behind a s.at.line (behind at h.statement h.rest) (with_name s.names name)
    (statement_onto labelled at name h.statement h.rest))
    ∙ by_twice a twice (s.at.line, SymbolTwice) (bad (statement_onto labelled at name h.statement h.rest))

tokens_behind : (a : List EntryContent) (s : SourceContent) (r : Option (List Lexeme))
    → tokens_onto (content_behind a s) r ≡ line_behind a (tokens_onto s r)
tokens_behind a s None = refl
tokens_behind a s (Some ts) = head_behind a s (head_of ts)

one_behind : (a : List EntryContent) (s : SourceContent) (line : List ℕ)
    → line_onto (content_behind a s) line ≡ line_behind a (line_onto s line)
unfolding line_onto
one_behind a s line = tokens_behind a s (tokens_of line)

by_line_behind : (a : List EntryContent) (r : Result SourceContent (ℕ × Why))
    (next : SourceContent → Result (List EntryContent) (ℕ × Why))
    → ((s : SourceContent) → next (content_behind a s) ≡ lines_behind a (next s))
    → by_line (line_behind a r) next ≡ lines_behind a (by_line r next)
by_line_behind a (Err f) next g = refl
by_line_behind a (Ok s) next g = g s

pub all_behind : (a : List EntryContent) (s : SourceContent) (ls : List (List ℕ))
    → lines_onto (content_behind a s) ls ≡ lines_behind a (lines_onto s ls)
all_behind a s [] = refl
all_behind a s (l ∷ ls) =
    ap (λ r. by_line r (λ more. lines_onto more ls)) (one_behind a s l)
    ∙ by_line_behind a (line_onto s l) (λ more. lines_onto more ls) (λ more. all_behind a more ls)
