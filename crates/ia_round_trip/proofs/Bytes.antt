-- The text of an instruction assembles to the bytes of the instruction.
use Rattle.std.proofs.Common.{◌≡◌, ℕ, ◌+◌, ◌<◌, ◌≤◌, ◌^◌, false, cond, List, [], ◌∷◌, inl, inr, Option, Some, None}
use Rattle.std.proofs.Common.{Result, Ok, Err, refl, sym, ◌∙◌, ap, subst, arith, length, append-nil, map}
use Rattle.std.specs.Prelude.{◌||◌, nat_lt, option_map, IsTrue}
use Rattle.std.proofs.lemmas.Bool.{lt-ltb, le-ltb}
use Rattle.ia_insn.specs.declared.op.Insn.{Insn}
use Rattle.ia_insn.specs.Encoding.{is_encodable, insn_bytes}
use Rattle.ia_insn.proofs.Lengths.{spelling_len, spelling_some}
use Rattle.ia_insn.proofs.Spelt.{insn_spelt}
use Rattle.ia_item.specs.declared.item.Entry.{Entry}
use Rattle.ia_item.specs.declared.item.Item.{Item}
use Rattle.ia_item.specs.declared.item.Item.TheVariants as item
use Rattle.ia_item.specs.declared.item.Section.{Section}
use Rattle.ia_item.specs.declared.item.Section.TheVariants.{Text as InText, Data as InData}
use Rattle.ia_item.specs.declared.item.Template.{Template}
use Rattle.ia_item.specs.Expressions.{Env}
use Rattle.ia_lex.specs.Terms.{TermContent}
use Rattle.ia_source.specs.declared.fault.Why.{Why}
use Rattle.ia_names.specs.Namings.{Naming}
use Rattle.ia_source.specs.Contents.{ItemContent, EntryContent, Code, Org, Reading, expression_content, item_content}
use Rattle.ia_source.specs.Contents.{entry_content}
use Rattle.ia_source.specs.Source.{AsksFor}
use Rattle.ia_asm.specs.declared.fault.AsmFault.{AsmFault}
use Rattle.ia_asm.specs.declared.fault.AsmFault.TheVariants as told_as
use Rattle.ia_resolve.specs.declared.place_fault.PlaceFault.TheVariants.{Range}
use Rattle.ia_asm.specs.declared.assembly.Unit.{Unit as Assembly}
use Rattle.ia_resolve.specs.PlaceFaults.{first_of}
use Rattle.ia_asm.specs.Faults.{at_line}
use Rattle.ia_resolve.specs.Items.{code_bytes, template_fault}
use Rattle.ia_layout.specs.Placement.{LayoutState, EntryPlace, nowhere, place_at, next, places, base_of, base_or, start}
use Rattle.ia_layout.specs.Placement.{text_end, tail_base, all_places, values, bytes_at, size_of, section_bytes}
use Rattle.ia_layout.specs.Placement.{code_and_data, gap, end_fault, org_fault, item_fault, place_fault, fault_on}
use Rattle.ia_layout.specs.Placement.{by_first, first_fault}
use Rattle.ia_asm.specs.Assemblies.{IsAssembly, code_of, tail_of, fault_of}
use Rattle.ia_asm.specs.Assembles.{Refused}
use Rattle.ia_round_trip.specs.Resolution.{resolved_insn as known_number}
use Rattle.ia_round_trip.specs.Program.{source_at, entries_at}
use Rattle.ia_round_trip.specs.Bytes.{IsAsked, LineAssemblesToItsBytes, Gives, SourceAssemblesToItsBytes}
use Rattle.ia_round_trip.proofs.SameValues.{some_same, code_agrees}
use Rattle.ia_round_trip.proofs.RoundTrip.{instruction_reads_back}
use Rattle.ia_round_trip.proofs.Program.{source_reads_back}

-- ---- a line

-- with what it asks for, an instruction is filled in to be the same
same_given : (naming : Naming) (at : ℕ) (o i : Insn) (number place : Option (List TermContent)) (t : Template)
    → IsAsked naming o number place t → known_number at o number place ≡ Some i
    → known_number at t.insn (option_map (expression_content naming) t.number)
    (option_map (expression_content naming) t.displacement) ≡ Some i
same_given naming at o i number place t (insn, n, p) e =
    ap (λ x. known_number at x (option_map (expression_content naming) t.number)
    (option_map (expression_content naming) t.displacement)) insn
    ∙ ap (λ x. known_number at o x (option_map (expression_content naming) t.displacement)) n
    ∙ ap (known_number at o number) p ∙ e

pub line_assembles_to_its_bytes : LineAssemblesToItsBytes
line_assembles_to_its_bytes i at e =
    let r = instruction_reads_back i at e in (
      r.0,
      r.1,
      r.2,
      r.3,
      λ naming env t asked. code_agrees naming env at t i (same_given naming at r.0 i r.1 r.2 t asked r.4),
    )

-- ---- the entries of the source

-- a base and an instruction
abbrev two : ℕ → ℕ → ℕ → Template → List Entry
two l m at t = (record { line = l; section = InText; item = item.Org (Some at) })
    ∷ (record { line = m; section = InText; item = item.Code t }) ∷ []

abbrev read : List EntryContent → Result (List EntryContent) (ℕ × Why)
read es = Ok es

abbrev read_or : List EntryContent → Result (List EntryContent) (ℕ × Why) → List EntryContent
read_or d (Ok es) = es
read_or d (Err f) = d

read_same : (a b : List EntryContent) → read a ≡ read b → a ≡ b
read_same a b e = ap (read_or a) e

abbrev base_in : ItemContent → Option (Option ℕ)
base_in (Org n) = Some n
base_in _ = None

abbrev code_in : ItemContent → Option (Insn × Option (List TermContent) × Option (List TermContent))
code_in (Code i n p) = Some (i, n, p)
code_in _ = None

org_is : (r : Reading) (x : Item) (n : Option ℕ) → item_content r x ≡ Org n → x ≡ item.Org n
org_is r (item.Org m) n e = ap (λ z. item.Org z) (some_same m n (ap base_in e))
org_is r (item.Label name) n e = absurd cc
org_is r (item.Equ name s) n e = absurd cc
org_is r (item.Code t) n e = absurd cc
org_is r (item.Byte s) n e = absurd cc
org_is r (item.Text b) n e = absurd cc
org_is r (item.Numbers b) n e = absurd cc
org_is r (item.Long s) n e = absurd cc
org_is r (item.Reserve s) n e = absurd cc
org_is r (item.Align m) n e = absurd cc

code_is : (r : Reading) (x : Item) (i : Insn) (n p : Option (List TermContent)) → item_content r x ≡ Code i n p
    → (t : Template) × (x ≡ item.Code t) × IsAsked r.naming i n p t
code_is r (item.Code t) i n p e =
    let s = some_same
    (t.insn, option_map (expression_content r.naming) t.number, option_map (expression_content r.naming) t.displacement)
    (i, n, p) (ap code_in e) in
    (t, refl, (ap (λ x. x.0) s, ap (λ x. x.1) s, ap (λ x. x.2) s))
code_is r (item.Label name) i n p e = absurd cc
code_is r (item.Equ name s) i n p e = absurd cc
code_is r (item.Byte s) i n p e = absurd cc
code_is r (item.Text b) i n p e = absurd cc
code_is r (item.Numbers b) i n p e = absurd cc
code_is r (item.Long s) i n p e = absurd cc
code_is r (item.Reserve s) i n p e = absurd cc
code_is r (item.Align m) i n p e = absurd cc
code_is r (item.Org m) i n p e = absurd cc

abbrev head_or : EntryContent → List EntryContent → EntryContent
head_or d [] = d
head_or d (x ∷ r) = x

abbrev second_or : EntryContent → List EntryContent → EntryContent
second_or d [] = d
second_or d (x ∷ r) = head_or d r

abbrev IsTwo : Reading → List Entry → EntryContent → EntryContent → Type 0
IsTwo r es a b = (x : Entry) × (y : Entry) × (es ≡ x ∷ y ∷ []) × (entry_content r x ≡ a) × (entry_content r y ≡ b)

pair_is : (r : Reading) (es : List Entry) (a b : EntryContent) → map (entry_content r) es ≡ a ∷ b ∷ [] → IsTwo r es a b
pair_is r [] a b e = absurd cc
pair_is r (x ∷ []) a b e = absurd cc
pair_is r (x ∷ y ∷ []) a b e = (x, y, refl, ap (head_or a) e, ap (second_or b) e)
pair_is r (x ∷ y ∷ z ∷ more) a b e = absurd cc

entry_is : (e : Entry) (s : Section) (x : Item) → e.section ≡ s → e.item ≡ x
    → e ≡ record { line = e.line; section = s; item = x }
entry_is e s x p q = ap (λ z. record { line = e.line; section = z; item = e.item }) p
    ∙ ap (λ z. record { line = e.line; section = s; item = z }) q

-- what the source asks for
abbrev IsSource : Naming → List Entry → ℕ → Insn → Option (List TermContent) → Option (List TermContent) → Type 0
IsSource naming es at o number place =
    (l : ℕ) × (m : ℕ) × (t : Template) × (es ≡ two l m at t) × IsAsked naming o number place t

abbrev seen_org : ℕ → EntryContent
seen_org at = record { line = 1; section = InText; item = Org (Some at) }

abbrev code_content : Insn → Option (List TermContent) → Option (List TermContent) → EntryContent
code_content o number place = record { line = 2; section = InText; item = Code o number place }

source_is : (r : Reading) (es : List Entry) (at : ℕ) (o : Insn) (number place : Option (List TermContent))
    → map (entry_content r) es ≡ entries_at at o number place → IsSource r.naming es at o number place
source_is r es at o number place e =
    let (x, y, terms, a, b) = pair_is r es (seen_org at) (code_content o number place) e in
    let (t, code, asked) = code_is r y.item o number place (ap (λ (z : EntryContent). z.item) b) in
    let org : Entry = record { line = x.line; section = InText; item = item.Org (Some at) } in
    let first : x ≡ org =
    entry_is x InText (item.Org (Some at)) (ap (λ (z : EntryContent). z.section) a)
    (org_is r x.item (Some at) (ap (λ (z : EntryContent). z.item) a)) in
    let second = entry_is y InText (item.Code t) (ap (λ (z : EntryContent). z.section) b) code in
    (x.line, y.line, t, terms ∙ ap (λ z. z ∷ y ∷ []) first ∙ ap (λ z. org ∷ z ∷ []) second, asked)

-- ---- placed

-- the base is the address
base_is : (l m at : ℕ) (t : Template) → at < 2 ^ 32 → base_of (two l m at t) ≡ at
unfolding base_or
base_is l m at t h = ap (λ b. cond b at 0) (lt-ltb at (2 ^ 32) h)

code_placed : (env : Env) (s : LayoutState) (l m at : ℕ) (t : Template)
    → section_bytes InText env (places s (two l m at t)) ≡ code_bytes env (s.text + 0) t
unfolding bytes_at size_of
code_placed env s l m at t = append-nil (code_bytes env (s.text + 0) t)

tail_placed : (env : Env) (s : LayoutState) (l m at : ℕ) (t : Template)
    → section_bytes InData env (places s (two l m at t)) ≡ []
tail_placed env s l m at t = refl

end_fine : (base end : ℕ) → end ≤ base + 2 ^ 28 → end ≤ 2 ^ 32 → end_fault base end ≡ None
end_fine base end near low =
    ap (λ b. cond (b || nat_lt (2 ^ 32) end) (Some Range) None) (le-ltb (base + 2 ^ 28) end near)
    ∙ ap (λ b. cond b (Some Range) None) (le-ltb (2 ^ 32) end low)

told_none : (env : Env) (base : ℕ) (s : LayoutState) (l m at : ℕ) (t : Template) → at < 2 ^ 32
    → template_fault env (s.text + 0) t ≡ None
    → end_fault base ((s.text + 0) + length (code_bytes nowhere (s.text + 0) t)) ≡ None
    → first_fault env base (places s (two l m at t)) ≡ None
unfolding item_fault size_of
told_none env base s l m at t h fine near =
    let x : Entry = record { line = l; section = InText; item = item.Org (Some at) } in
    let y : Entry = record { line = m; section = InText; item = item.Code t } in
    let q : EntryPlace = place_at (next s x) y in
    let org : org_fault (Some at) ≡ None = ap (λ b. cond b None (Some Range)) (lt-ltb at (2 ^ 32) h) in
    let code : place_fault env base q ≡ None = ap (λ f. first_of f (end_fault base (q.at + q.size))) fine ∙ near in
    ap (λ f. by_first f l (fault_on l env base (q ∷ [])) (first_fault env base (q ∷ []))) org
    ∙ ap (λ f. by_first f m None None) code

-- what placing the entries gives
abbrev Places : List Entry → ℕ → Insn → Type 0
Places es at i = (base_of es ≡ at) × (code_of es ≡ insn_bytes i) × (tail_of es ≡ []) × (fault_of es ≡ None)

-- an encodable instruction has 1 to 13 bytes
length_is : (i : Insn) → IsTrue (is_encodable i) → (1 ≤ length (insn_bytes i)) × (length (insn_bytes i) ≤ 13)
length_is i e = (spelling_some (insn_spelt false false i e), spelling_len (insn_spelt false false i e))

two_placed : (naming : Naming) (l m at : ℕ) (t : Template) (i : Insn) → IsTrue (is_encodable i)
    → at + length (insn_bytes i) ≤ 2 ^ 32
    → known_number at t.insn (option_map (expression_content naming) t.number)
    (option_map (expression_content naming) t.displacement) ≡ Some i → Places (two l m at t) at i
two_placed naming l m at t i e h is = (
  base,
  code_placed env s l m at t ∙ (agrees env).0,
  tail_placed env s l m at t,
  told_none env (base_of es) s l m at t low (agrees env).1
      (end_fine (base_of es) _ (omega (arith, long, bytes, here, base)) (omega (arith, bytes, here, h))),
)
  where
    es : List Entry
    es = two l m at t

    s : LayoutState
    s = start (base_of es) (tail_base (text_end es))

    env : Env
    env = values (all_places es)

    long : (1 ≤ length (insn_bytes i)) × (length (insn_bytes i) ≤ 13)
    long = length_is i e

    low : at < 2 ^ 32
    low = omega (arith, long, h)

    base : base_of es ≡ at
    base = base_is l m at t low

    here : s.text + 0 ≡ at
    here = omega (arith, base)

    agrees : (env : Env) → (code_bytes env (s.text + 0) t ≡ insn_bytes i) × (template_fault env (s.text + 0) t ≡ None)
    agrees env = code_agrees naming env (s.text + 0) t i
        (ap (λ x. known_number x t.insn (option_map (expression_content naming) t.number)
        (option_map (expression_content naming) t.displacement)) here ∙ is)

    bytes : length (code_bytes nowhere (s.text + 0) t) ≡ length (insn_bytes i)
    bytes = ap length (agrees nowhere).0

-- ---- what is answered

-- any entries that the source asks for
source_placed : (i : Insn) (at : ℕ) → IsTrue (is_encodable i) → at + length (insn_bytes i) ≤ 2 ^ 32
    → (es : List Entry) → AsksFor (source_at i at) es → Places es at i
source_placed i at e h es asks =
    let r = source_reads_back i at (omega (arith, length_is i e, h)) e in
    let named : Reading = record { naming = asks.naming; written = false } in
    let (l, m, t, terms, asked) = source_is named es at r.0 r.1 r.2
    (sym (read_same (entries_at at r.0 r.1 r.2) (map (entry_content named) es) (sym r.3 ∙ asks.named))) in
    subst (λ es. Places es at i) (sym terms)
    (two_placed asks.naming l m at t i e h (same_given asks.naming at r.0 i r.1 r.2 t asked r.4))

image_gives : (at : ℕ) (i : Insn) (es : List Entry) (u : Assembly) → Places es at i → IsAssembly es u
    → Gives at (insn_bytes i) (Ok u)
image_gives at i es u (base, code, tail, none) a = (
  a.0.base ∙ base,
  a.0.image ∙ ap (code_and_data (code_of es) (gap 64 (text_end es))) tail ∙ code,
  a.0.code_len ∙ ap length code,
)

refused_never : (i : Insn) (at : ℕ) → IsTrue (is_encodable i) → at + length (insn_bytes i) ≤ 2 ^ 32
    → (f : AsmFault) → Refused (source_at i at) f → ⊥
refused_never i at e h f (inl (line, why, first_fault, is)) =
    let r = source_reads_back i at (omega (arith, length_is i e, h)) e in
    let wrong : read (entries_at at r.0 r.1 r.2) ≡ Err (line, why) = sym r.3 ∙ first_fault in
    absurd cc
refused_never i at e h f (inr (es, asks, is)) =
    let p = source_placed i at e h es asks in
    let wrong : None ≡ Some f = sym (ap (option_map (λ t. at_line t.0 t.1)) p.3) ∙ is in
    absurd cc

pub source_assembles_to_its_bytes : SourceAssemblesToItsBytes
source_assembles_to_its_bytes i at e h (Ok u) (es, asks, placed) =
    image_gives at i es u (source_placed i at e h es asks) placed
source_assembles_to_its_bytes i at e h (Err told_as.NoMemory) a = refl
source_assembles_to_its_bytes i at e h (Err (told_as.BadToken l)) a =
    absurd (refused_never i at e h (told_as.BadToken l) a)
source_assembles_to_its_bytes i at e h (Err (told_as.BadOperand l)) a =
    absurd (refused_never i at e h (told_as.BadOperand l) a)
source_assembles_to_its_bytes i at e h (Err (told_as.UnknownSymbol l)) a =
    absurd (refused_never i at e h (told_as.UnknownSymbol l) a)
source_assembles_to_its_bytes i at e h (Err (told_as.SymbolTwice l)) a =
    absurd (refused_never i at e h (told_as.SymbolTwice l) a)
source_assembles_to_its_bytes i at e h (Err (told_as.Range l)) a = absurd (refused_never i at e h (told_as.Range l) a)
source_assembles_to_its_bytes i at e h (Err (told_as.NotInSubset l)) a =
    absurd (refused_never i at e h (told_as.NotInSubset l) a)
source_assembles_to_its_bytes i at e h (Err (told_as.ShortJumpTooFar l)) a =
    absurd (refused_never i at e h (told_as.ShortJumpTooFar l) a)
