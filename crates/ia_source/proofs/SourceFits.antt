-- Every entry that is read can be placed.
use Rattle.std.proofs.Common.{◌≡◌, ℕ, zero, suc, ◌≤◌, ◌^◌, ◌⊎◌, inl, inr, Bool, true, false, cond, List, [], ◌∷◌, ◌++◌}
use Rattle.std.proofs.Common.{Option, Some, None, refl, sym, ◌∙◌, subst, map, length, arith, IsTrue, rules}
use Rattle.std.proofs.lemmas.List.{length-map}
use Rattle.std.specs.Prelude.{option_map, ◌==◌, ◌||◌, Result, Ok, Err, is_some}
use Rattle.ia_insn.specs.declared.op.Op.{Op}
use Rattle.ia_insn.specs.declared.op.Insn.{Insn}
use Rattle.ia_insn.specs.Encoding.{is_encodable}
use Rattle.ia_item.specs.declared.item.Item.{Item}
use Rattle.ia_item.specs.declared.item.Item.TheVariants as item
use Rattle.ia_item.specs.declared.item.Entry.{Entry}
use Rattle.ia_item.specs.declared.expression.ScopedExpression.{ScopedExpression}
use Rattle.ia_item.specs.Fits.{FitsExpression, FitsAnyExpression, FitsItem, AllFit, IsPower}
use Rattle.ia_lex.specs.Tokens.{Lexeme, tokens_of}
use Rattle.ia_lex.specs.Terms.{TermContent}
use Rattle.ia_lex.specs.Lines.{lines_of}
use Rattle.ia_insn.specs.declared.mnemonic.Mnemonic.{Mnemonic}
use Rattle.ia_source.specs.declared.directive.Directive.{Directive}
use Rattle.ia_source.specs.declared.directive.Directive.TheVariants as directive
use Rattle.ia_source.specs.declared.head.Statement.{Statement}
use Rattle.ia_source.specs.declared.head.Statement.TheVariants as statement
use Rattle.ia_source.specs.declared.fault.Why.{Why}
use Rattle.ia_source.specs.Contents.{ItemContent, EntryContent, Label, Equ, Code, Byte, Text, Numbers, Long, Reserve}
use Rattle.ia_source.specs.Contents.{Align, Org, Reading, scoped_term_content, expression_content, item_content}
use Rattle.ia_source.specs.Contents.{entry_content}
use Rattle.ia_names.specs.Namings.{Naming}
use Rattle.ia_source.specs.Fits.{FitsTerms, FitsAnyTerms, FitsContent}
use Rattle.ia_source.specs.Symbols.{term_in_scope, terms_in_scope}
use Rattle.ia_source.specs.Commas.{between_commas}
use Rattle.ia_form.specs.Forms.{op_of, by_op, instruction_of}
use Rattle.ia_source.specs.Operands.{Operands, operands_of, expression_of}
use Rattle.ia_source.specs.Heads.{Head, head_of}
use Rattle.ia_source.specs.Statements.{StateContent, add, add_some, expression_in, code_item, byte_item, only_text}
use Rattle.ia_source.specs.Statements.{text_or, value_item, Values, plain_number, number_bytes, with_run, with_entries}
use Rattle.ia_source.specs.Statements.{by_number, value_onto, by_value, no_value, values_onto, named_section}
use Rattle.ia_source.specs.Statements.{only_number, is_32, is_symbol, is_power, align_item, org_item, equ_item, if_fits}
use Rattle.ia_source.specs.Statements.{directive_onto, statement_onto, with_label, behind}
use Rattle.ia_source.specs.Source.{SourceContent, is_twice, with_name, add_label, label_onto, label_name, or_bad}
use Rattle.ia_source.specs.Source.{head_onto, tokens_onto, line_onto, by_line, lines_onto, first_content, entries_of}
use Rattle.ia_source.proofs.FormsFit.{ReadsSum, sum_fits, mapped_fits, FitOperands, ReadsOperands, operands_fit}

-- ---- items

abbrev ReadsItem : Option ItemContent → Type 0
ReadsItem r = (i : ItemContent) → r ≡ Some i → FitsContent i

no_item : ReadsItem None
no_item i e = absurd (cc)

just_item : (j : ItemContent) → FitsContent j → ReadsItem (Some j)
just_item j h i e = let k : j ≡ i = cc in subst FitsContent k h

sum_in_fits : (scope : List ℕ) (ts : List Lexeme) → ReadsSum (expression_in scope ts)
sum_in_fits scope ts = mapped_fits (term_in_scope scope) (expression_of ts) (sum_fits ts)

of_sum : (make : List TermContent → ItemContent) (r : Option (List TermContent))
    → ((ps : List TermContent) → FitsTerms ps → FitsContent (make ps)) → ReadsSum r → ReadsItem (option_map make r)
of_sum make None f g = no_item
of_sum make (Some ps) f g = just_item (make ps) (f ps (g ps refl))

written_fits : (scope : List ℕ) (ps : List TermContent) → length ps ≤ 16 → FitsAnyTerms (terms_in_scope scope ps)
written_fits scope [] h = tt
written_fits scope (p ∷ ps) h =
    let l : length (map (term_in_scope scope) ps) ≡ length ps = length-map ps (term_in_scope scope) in
    (omega arith, omega (arith, l, h))

encoded : (i : Insn) (b : Bool) (j : Insn) → b ≡ is_encodable i → cond b (Some i) None ≡ Some j
    → IsTrue (is_encodable j)
encoded i true j f e =
    let k : i ≡ j = cc in
    let t : IsTrue (is_encodable i) = search (rules, sym f) in
    subst (λ (x : Insn). IsTrue (is_encodable x)) k t
encoded i false j f e = absurd (cc)

instruction_fits : (lock : Bool) (r : Option Op) (j : Insn) → by_op lock r ≡ Some j → IsTrue (is_encodable j)
instruction_fits lock None j e = absurd (cc)
instruction_fits lock (Some o) j e =
    encoded (record { lock = lock; op = o }) (is_encodable (record { lock = lock; op = o })) j refl e

with_insn : (scope : List ℕ) (os : Operands) (r : Option Insn) → FitOperands os
    → ((j : Insn) → r ≡ Some j → IsTrue (is_encodable j))
    → ReadsItem (option_map (λ i. Code i (terms_in_scope scope os.number) (terms_in_scope scope os.displacement)) r)
with_insn scope os None h f = no_item
with_insn scope os (Some j) h f =
    just_item (Code j (terms_in_scope scope os.number) (terms_in_scope scope os.displacement))
    (f j refl, written_fits scope os.number h.number, written_fits scope os.displacement h.displacement)

code_fits : (scope : List ℕ) (lock : Bool) (m : Mnemonic) (r : Option Operands) → ReadsOperands r
    → ReadsItem (code_item scope lock m r)
code_fits scope lock m None f = no_item
code_fits scope lock m (Some os) f =
    with_insn scope os (instruction_of lock m os.shapes) (f os refl) (instruction_fits lock (op_of m os.shapes))

byte_sum : (scope : List ℕ) (ts : List Lexeme) → ReadsItem (option_map Byte (expression_in scope ts))
byte_sum scope ts = of_sum Byte (expression_in scope ts) (λ ps h. h) (sum_in_fits scope ts)

text_fits : (t : Option (List ℕ)) (r : Option ItemContent) → ReadsItem r → ReadsItem (text_or t r)
text_fits None r h = h
text_fits (Some t) r h = just_item (Text t) tt

byte_fits : (scope : List ℕ) (ts : List Lexeme) → ReadsItem (byte_item scope ts)
byte_fits scope ts = text_fits (only_text ts) (option_map Byte (expression_in scope ts)) (byte_sum scope ts)

value_fits : (long : Bool) (scope : List ℕ) (ts : List Lexeme) → ReadsItem (value_item long scope ts)
value_fits false scope ts = byte_fits scope ts
value_fits true scope ts = of_sum Long (expression_in scope ts) (λ ps h. h) (sum_in_fits scope ts)

org_fits : (r : Option (Option ℕ)) → ReadsItem (option_map Org r)
org_fits None = no_item
org_fits (Some n) = just_item (Org n) tt

org_item_fits : (b : Bool) (r : Option (Option ℕ)) → ReadsItem (cond b None (option_map Org r))
org_item_fits true r = no_item
org_item_fits false r = org_fits r

equ_fits : (scope : List ℕ) (label : Option (List ℕ)) (ts : List Lexeme) → ReadsItem (equ_item scope label ts)
equ_fits scope None ts = no_item
equ_fits scope (Some name) ts = of_sum (Equ name) (expression_in scope ts) (λ ps h. h) (sum_in_fits scope ts)

-- the last of some tests, or one before
next_power : (n p k : ℕ) (more : Bool) → p ≡ 2 ^ k → k ≤ 12 → (more ≡ true → IsPower n)
    → (more || (n == p)) ≡ true → IsPower n
next_power n p k more e h f t = elim (either more (n == p) t) [
  | inl b ↦ f b
  | inr a ↦ let same : n ≡ p = grind (arith, a) in (k, h, same ∙ e)
]
  where
    either : (a b : Bool) → (a || b) ≡ true → (a ≡ true) ⊎ (b ≡ true)
    either true b e = inl refl
    either false b e = inr e

last_power : (n p k : ℕ) → p ≡ 2 ^ k → k ≤ 12 → (n == p) ≡ true → IsPower n
last_power n p k e h t = let same : n ≡ p = grind (arith, t) in (k, h, same ∙ e)

power_fits : (n : ℕ) → is_power n ≡ true → IsPower n
power_fits n = next_power n 4096 12 _ refl (omega arith) (next_power n 2048 11 _ refl (omega arith)
    (next_power n 1024 10 _ refl (omega arith) (next_power n 512 9 _ refl (omega arith) (next_power n 256 8 _ refl
    (omega arith) (next_power n 128 7 _ refl (omega arith) (next_power n 64 6 _ refl (omega arith) (next_power n 32 5 _
    refl (omega arith) (next_power n 16 4 _ refl (omega arith) (next_power n 8 3 _ refl (omega arith) (next_power n 4 2
    _ refl (omega arith) (next_power n 2 1 _ refl (omega arith) (last_power n 1 0 refl (omega arith)))))))))))))

if_power : (n : ℕ) (b : Bool) → (b ≡ true → IsPower n) → ReadsItem (cond b (Some (Align n)) None)
if_power n true f = just_item (Align n) (f refl)
if_power n false f = no_item

align_fits : (r : Option (Option ℕ)) → ReadsItem (align_item r)
align_fits None = no_item
align_fits (Some None) = no_item
align_fits (Some (Some n)) = if_power n (is_power n) (power_fits n)

-- ---- entries

abbrev pub EachFits : List EntryContent → Type 0
EachFits [] = Unit {0}
EachFits (e ∷ es) = FitsContent e.item × EachFits es

one_fits : (es : List EntryContent) (e : EntryContent) → EachFits es → FitsContent e.item → EachFits (es ++ e ∷ [])
one_fits [] e h f = (f, tt)
one_fits (x ∷ es) e h f = (h.0, one_fits es e h.1 f)

abbrev ReadsEntries : Option (List EntryContent) → Type 0
ReadsEntries r = (es : List EntryContent) → r ≡ Some es → EachFits es

no_entries : ReadsEntries None
no_entries es e = absurd (cc)

just_entries : (fs : List EntryContent) → EachFits fs → ReadsEntries (Some fs)
just_entries fs h es e = let k : fs ≡ es = cc in subst EachFits k h

added_fit : (es : List EntryContent) (at : StateContent) (r : Option ItemContent) → EachFits es → ReadsItem r
    → ReadsEntries (add_some es at r)
added_fit es at None h f = no_entries
added_fit es at (Some i) h f =
    just_entries (add es at i) (one_fits es (record { line = at.line; section = at.section; item = i }) h (f i refl))

run_fits : (es : List EntryContent) (at : StateContent) (run : List ℕ) → EachFits es → EachFits (with_run es at run)
run_fits es at [] h = h
run_fits es at (b ∷ run) h =
    one_fits es (record { line = at.line; section = at.section; item = Numbers (b ∷ run) }) h tt

abbrev ReadsValues : Option Values → Type 0
ReadsValues r = (v : Values) → r ≡ Some v → EachFits v.entries

entries_fit : (r : Option (List EntryContent)) → ReadsEntries r → ReadsValues (with_entries r)
entries_fit None f v e = absurd (cc)
entries_fit (Some es) f v e =
    let k : record { entries = es; run = [] } ≡ v = cc in
    subst (λ (v : Values). EachFits v.entries) k (f es refl)

number_fits : (r : Option ℕ) (long : Bool) (v : Values) (other : Option Values) → EachFits v.entries → ReadsValues other
    → ReadsValues (by_number r long v other)
number_fits None long v other h f w e = f w e
number_fits (Some n) long v other h f w e =
    let k : record { entries = v.entries; run = v.run ++ number_bytes long n } ≡ w = cc in
    subst (λ (v : Values). EachFits v.entries) k h

value_onto_fits : (long : Bool) (at : StateContent) (v : Values) (p : List Lexeme) → EachFits v.entries
    → ReadsValues (value_onto long at v p)
value_onto_fits long at v p h = number_fits (plain_number long p) long v _ h
    (entries_fit _
    (added_fit (with_run v.entries at v.run) at (value_item long at.scope p) (run_fits v.entries at v.run h)
    (value_fits long at.scope p)))

by_value_fit : (r : Option Values) (next : Values → Option (List EntryContent)) → ReadsValues r
    → ((v : Values) → EachFits v.entries → ReadsEntries (next v)) → ReadsEntries (by_value r next)
by_value_fit None next f g = no_entries
by_value_fit (Some v) next f g = g v (f v refl)

values_fit : (long : Bool) (at : StateContent) (v : Values) (ps : List (List Lexeme)) → EachFits v.entries
    → ReadsEntries (values_onto long at v ps)
values_fit long at v [] h = just_entries (with_run v.entries at v.run) (run_fits v.entries at v.run h)
values_fit long at v (p ∷ ps) h = by_value_fit (value_onto long at v p) (λ more. values_onto long at more ps)
    (value_onto_fits long at v p h) (λ more fit. values_fit long at more ps fit)

if_fits_fit : (b : Bool) (es : List EntryContent) → EachFits es → ReadsEntries (if_fits b es)
if_fits_fit true es h = just_entries es h
if_fits_fit false es h = no_entries

directive_fits : (es : List EntryContent) (at : StateContent) (label : Option (List ℕ)) (d : Directive)
    (ts : List Lexeme) → EachFits es → ReadsEntries (directive_onto es at label d ts)
unfolding directive_onto
directive_fits es at label directive.Section ts h = if_fits_fit (is_some (named_section ts)) es h
directive_fits es at label directive.Org ts h =
    added_fit es at (org_item at ts) h (org_item_fits (at.based || at.placed) (only_number ts))
directive_fits es at label directive.Bits ts h = if_fits_fit (is_32 (only_number ts)) es h
directive_fits es at label directive.Global ts h = if_fits_fit (is_symbol ts) es h
directive_fits es at label directive.Db ts h = values_fit false at (no_value es) (between_commas ts) h
directive_fits es at label directive.Dd ts h = values_fit true at (no_value es) (between_commas ts) h
directive_fits es at label directive.Resb ts h = added_fit es at (option_map Reserve (expression_in at.scope ts)) h
    (of_sum Reserve (expression_in at.scope ts) (λ ps h. h) (sum_in_fits at.scope ts))
directive_fits es at label directive.Align ts h =
    added_fit es at (align_item (only_number ts)) h (align_fits (only_number ts))
directive_fits es at label directive.Equ ts h =
    added_fit es at (equ_item at.scope label ts) h (equ_fits at.scope label ts)

statement_fits : (es : List EntryContent) (at : StateContent) (label : Option (List ℕ)) (w : Statement)
    (ts : List Lexeme) → EachFits es → ReadsEntries (statement_onto es at label w ts)
statement_fits es at label statement.Nothing ts h = just_entries es h
statement_fits es at label (statement.Code lock m) ts h = added_fit es at (code_item at.scope lock m (operands_of ts)) h
    (code_fits at.scope lock m (operands_of ts) (operands_fit ts))
statement_fits es at label (statement.Directive d) ts h = directive_fits es at label d ts h
statement_fits es at label statement.Unfit ts h = no_entries

-- ---- lines

name_fits : (es : List EntryContent) (at : StateContent) (label : Option (List ℕ)) → EachFits es
    → EachFits (add_label es at label)
name_fits es at None h = h
name_fits es at (Some name) h = one_fits es (record { line = at.line; section = at.section; item = Label name }) h tt

label_fits : (es : List EntryContent) (at : StateContent) (label : Option (List ℕ)) (w : Statement) → EachFits es
    → EachFits (label_onto es at label w)
label_fits es at label (statement.Directive directive.Equ) h = h
label_fits es at label (statement.Directive directive.Section) h = name_fits es at label h
label_fits es at label (statement.Directive directive.Org) h = name_fits es at label h
label_fits es at label (statement.Directive directive.Bits) h = name_fits es at label h
label_fits es at label (statement.Directive directive.Global) h = name_fits es at label h
label_fits es at label (statement.Directive directive.Db) h = name_fits es at label h
label_fits es at label (statement.Directive directive.Dd) h = name_fits es at label h
label_fits es at label (statement.Directive directive.Resb) h = name_fits es at label h
label_fits es at label (statement.Directive directive.Align) h = name_fits es at label h
label_fits es at label statement.Nothing h = name_fits es at label h
label_fits es at label (statement.Code lock m) h = name_fits es at label h
label_fits es at label statement.Unfit h = name_fits es at label h

abbrev ReadsLine : Result SourceContent (ℕ × Why) → Type 0
ReadsLine r = (s : SourceContent) → r ≡ Ok s → EachFits s.entries

no_line : (f : ℕ × Why) → ReadsLine (Err f)
no_line f s e = absurd (cc)

or_bad_fits : (line : ℕ) (at : StateContent) (names : List (List ℕ)) (r : Option (List EntryContent)) → ReadsEntries r
    → ReadsLine (or_bad line at names r)
or_bad_fits line at names None f s e = absurd (cc)
or_bad_fits line at names (Some es) f s e =
    let k : record { at = at; names = names; entries = es } ≡ s = cc in
    subst (λ (s : SourceContent). EachFits s.entries) k (f es refl)

by_twice : (b : Bool) (f : ℕ × Why) (r : Result SourceContent (ℕ × Why)) → ReadsLine r → ReadsLine (cond b (Err f) r)
by_twice true f r g = no_line f
by_twice false f r g = g

head_fits : (s : SourceContent) (h : Option Head) → EachFits s.entries → ReadsLine (head_onto s h)
head_fits s None f = no_line _
head_fits s (Some h) f = by_twice (is_twice s.names (label_name s.at.scope h.label)) _ _
    (or_bad_fits s.at.line (behind (with_label s.at h.label h.statement) h.statement h.rest)
    (with_name s.names (label_name s.at.scope h.label)) _
    (statement_fits (label_onto s.entries s.at (label_name s.at.scope h.label) h.statement)
    (with_label s.at h.label h.statement) (label_name s.at.scope h.label) h.statement h.rest
    (label_fits s.entries s.at (label_name s.at.scope h.label) h.statement f)))

tokens_fit : (s : SourceContent) (r : Option (List Lexeme)) → EachFits s.entries → ReadsLine (tokens_onto s r)
tokens_fit s None f = no_line _
tokens_fit s (Some ts) f = head_fits s (head_of ts) f

line_fits : (s : SourceContent) (bytes : List ℕ) → EachFits s.entries → ReadsLine (line_onto s bytes)
unfolding line_onto
line_fits s bytes f = tokens_fit s (tokens_of bytes) f

abbrev ReadsLines : Result (List EntryContent) (ℕ × Why) → Type 0
ReadsLines r = (es : List EntryContent) → r ≡ Ok es → EachFits es

by_line_fits : (r : Result SourceContent (ℕ × Why)) (next : SourceContent → Result (List EntryContent) (ℕ × Why))
    → ReadsLine r → ((s : SourceContent) → EachFits s.entries → ReadsLines (next s)) → ReadsLines (by_line r next)
by_line_fits (Err f) next g k es e = absurd (cc)
by_line_fits (Ok s) next g k es e = k s (g s refl) es e

lines_fit : (s : SourceContent) (ls : List (List ℕ)) → EachFits s.entries → ReadsLines (lines_onto s ls)
lines_fit s [] f es e = let k : s.entries ≡ es = cc in subst EachFits k f
lines_fit s (l ∷ ls) f es e =
    by_line_fits (line_onto s l) (λ more. lines_onto more ls) (line_fits s l f) (λ more fit. lines_fit more ls fit) es e

-- ---- the code's entries

sum_too : (naming : Naming) (s : ScopedExpression) → FitsTerms (expression_content naming s) → FitsExpression s
sum_too naming s h = let l : length (map (scoped_term_content naming) s.terms.items) ≡ length s.terms.items =
    length-map s.terms.items (scoped_term_content naming) in (omega (arith, l, h.0), omega (arith, l, h.1))

any_too : (naming : Naming) (s : Option ScopedExpression) → FitsAnyTerms (option_map (expression_content naming) s)
    → FitsAnyExpression s
any_too naming None h = tt
any_too naming (Some s) h = sum_too naming s h

item_too : (r : Reading) (i : Item) → FitsContent (item_content r i) → FitsItem i
item_too r (item.Label name) h = tt
item_too r (item.Equ name s) h = sum_too r.naming s h
item_too r (item.Code t) h = (h.0, any_too r.naming t.number h.1, any_too r.naming t.displacement h.2)
item_too r (item.Byte s) h = sum_too r.naming s h
item_too r (item.Text b) h = tt
item_too r (item.Numbers b) h = tt
item_too r (item.Long s) h = sum_too r.naming s h
item_too r (item.Reserve s) h = sum_too r.naming s h
item_too r (item.Align n) h = h
item_too r (item.Org n) h = tt

each_too : (r : Reading) (xs : List Entry) → EachFits (map (entry_content r) xs) → AllFit xs
each_too r [] h k d l = absurd (omega arith)
each_too r (x ∷ xs) h zero d l = item_too r x.item h.0
each_too r (x ∷ xs) h (suc k) d l = each_too r xs h.1 k d (omega arith)

sum_from : (naming : Naming) (s : ScopedExpression) → FitsExpression s → FitsTerms (expression_content naming s)
sum_from naming s h = let l : length (map (scoped_term_content naming) s.terms.items) ≡ length s.terms.items =
    length-map s.terms.items (scoped_term_content naming) in (omega (arith, l, h.0), omega (arith, l, h.1))

any_from : (naming : Naming) (s : Option ScopedExpression) → FitsAnyExpression s
    → FitsAnyTerms (option_map (expression_content naming) s)
any_from naming None h = tt
any_from naming (Some s) h = sum_from naming s h

item_from : (r : Reading) (i : Item) → FitsItem i → FitsContent (item_content r i)
item_from r (item.Label name) h = tt
item_from r (item.Equ name s) h = sum_from r.naming s h
item_from r (item.Code t) h = (h.0, any_from r.naming t.number h.1, any_from r.naming t.displacement h.2)
item_from r (item.Byte s) h = sum_from r.naming s h
item_from r (item.Text b) h = tt
item_from r (item.Numbers b) h = tt
item_from r (item.Long s) h = sum_from r.naming s h
item_from r (item.Reserve s) h = sum_from r.naming s h
item_from r (item.Align n) h = h
item_from r (item.Org n) h = tt

each_from : (r : Reading) (xs : List Entry) → AllFit xs → EachFits (map (entry_content r) xs)
each_from r [] h = tt
each_from r (x ∷ xs) h =
    (item_from r x.item (h 0 x (omega arith)), each_from r xs (λ k d l. h (suc k) d (omega (arith, l))))

-- entries that a line adds can be placed
pub line_fit : (r : Reading) (s new : SourceContent) (line : List ℕ) (xs ys : List Entry) → line_onto s line ≡ Ok new
    → s.entries ≡ map (entry_content r) xs → new.entries ≡ map (entry_content r) ys → AllFit xs
    → AllFit ys
line_fit r s new line xs ys e old more h =
    each_too r ys (subst EachFits more (line_fits s line (subst EachFits (sym old) (each_from r xs h)) new e))

-- entries that are those of a source can be placed
pub all_fit : (r : Reading) (source : List ℕ) (xs : List Entry)
    → entries_of source ≡ Ok (map (entry_content r) xs) → AllFit xs
all_fit r source xs e = each_too r xs (lines_fit first_content (lines_of source) tt (map (entry_content r) xs) e)
