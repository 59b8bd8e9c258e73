-- What the lines that are left of a source ask for.
use Rattle.std.proofs.Common.{◌≡◌, ℕ, List, [], ◌∷◌, ◌++◌, ◌+◌, ◌-◌, refl, sym, ◌∙◌, ap, map, drop, take, length}
use Rattle.std.proofs.Common.{append-nil, append_assoc, false, subst, arith}
use Rattle.std.specs.Prelude.{Result, Ok, Err, MatchResult}
use Rattle.std.proofs.lemmas.List.{drop_all, drop-drop, take_rest, map-append}
use Rattle.std.proofs.lemmas.List.Elements.{All-append}
use Rattle.indexmap.specs.IndexSet.{IndexSet}
use Rattle.ia_item.specs.declared.item.Entry.{Entry}
use Rattle.ia_item.specs.declared.name.Scope.{Scope}
use Rattle.ia_item.specs.declared.symbol.Symbol.{Symbol}
use Rattle.ia_item.specs.Fits.{FitsEntry, AllFit}
use Rattle.ia_names.specs.declared.names.Names.{Names}
use Rattle.ia_names.specs.Namings.{IsNaming, Grows, naming_of}
use Rattle.ia_names.proofs.Namings.{naming_less, is_naming}
use Rattle.ia_lex.specs.Lines.{lines_of}
use Rattle.ia_source.specs.declared.fault.SourceFault.{SourceFault}
use Rattle.ia_source.specs.declared.fault.SourceFault.TheVariants as fault
use Rattle.ia_source.specs.declared.fault.Why.{Why}
use Rattle.ia_source.specs.declared.rest.Rest.{Rest}
use Rattle.ia_source.specs.declared.state.SourceState.{SourceState}
use Rattle.ia_source.specs.Contents.{EntryContent, Reading, entry_content}
use Rattle.ia_source.specs.Statements.{StateContent, first_state, state_content}
use Rattle.ia_source.specs.Source.{lines_onto, first_content, entries_of, names_content, source_content, ReadsAs, Tells}
use Rattle.ia_source.specs.Rests.{entries_with, LeftAs}
use Rattle.ia_source.proofs.Fronts.{lines_behind, all_behind}

-- the first of the lines that are left
pub first_left : (source line : List ℕ) (place taken : ℕ)
    → lines_of (take (length source - place) (drop place source))
    ≡ line ∷ lines_of (drop taken (take (length source - place) (drop place source)))
    → lines_of (drop place source) ≡ line ∷ lines_of (drop (place + taken) source)
first_left source line place taken e =
    let rest : take (length source - place) (drop place source) ≡ drop place source = take_rest source place in
    sym (ap lines_of rest) ∙ e ∙ ap (λ l. line ∷ lines_of (drop taken l)) rest
    ∙ ap (λ l. line ∷ lines_of l) (drop-drop taken place source)

-- names in the same scope and the same entries
pub same_content : {S : Type 0} (r : Reading) (state : SourceState) (a b : Names) (defined : IndexSet Symbol S)
    (xs ys : List Entry) → b.scope ≡ a.scope → ys ≡ xs
    → source_content r state b defined ys ≡ source_content r state a defined xs
same_content r state a b defined xs ys scope same =
    ap (λ (es : List Entry). source_content r state b defined es) same
    ∙ ap (λ (x : Scope). record (source_content r state b defined xs) { at = state_content x.text.now state }) scope

-- before the first line
pub from_start : (r : Reading) (rest : Rest) (names : Names) (source : List ℕ) → rest.source.now ≡ source
    → rest.place ≡ 0 → names.scope.text.now ≡ [] → state_content [] rest.state ≡ first_state → rest.defined.keys ≡ []
    → entries_with r rest names [] ≡ entries_of source
from_start r rest names source is place scope state defined =
    let lines = lines_of (drop rest.place rest.source.now) in
    ap (λ (x : List ℕ). lines_onto
    (record { at = state_content x rest.state; names = names_content r.naming rest.defined; entries = [] }) lines) scope
    ∙ ap (λ (a : StateContent).
    lines_onto (record { at = a; names = names_content r.naming rest.defined; entries = [] }) lines) state
    ∙ ap (λ (ks : List Symbol). lines_onto
    (record { at = first_state; names = map (λ (s : Symbol). r.naming s.number) ks; entries = [] }) lines) defined
    ∙ ap (λ n. lines_onto first_content (lines_of (drop n rest.source.now))) place
    ∙ ap (λ l. lines_onto first_content (lines_of l)) is

-- where no line is left
pub none_left : (r : Reading) (rest : Rest) (names : Names) (es : List Entry) → rest.place ≡ length rest.source.now
    → entries_with r rest names es ≡ Ok (map (entry_content r) es)
none_left r rest names es h =
    ap (λ l. lines_onto (source_content r rest.state names rest.defined es) (lines_of l))
    (drop_all rest.place rest.source.now (omega arith))

-- the entries so far stand in front
pub entries_in_front : (r : Reading) (rest : Rest) (names : Names) (es : List Entry)
    → entries_with r rest names es ≡ lines_behind (map (entry_content r) es) (entries_with r rest names [])
entries_in_front r rest names es =
    let front : List EntryContent = map (entry_content r) es in
    let content = source_content r rest.state names rest.defined in
    let lines = lines_of (drop rest.place rest.source.now) in
    ap (λ (xs : List EntryContent). lines_onto (record (content es) { entries = xs }) lines) (sym (append-nil front))
    ∙ all_behind front (content []) lines

pub both_in_front : (a b : List EntryContent) (r : Result (List EntryContent) (ℕ × Why))
    → lines_behind (a ++ b) r ≡ lines_behind a (lines_behind b r)
both_in_front a b (Ok es) = ap Ok (append_assoc a b es)
both_in_front a b (Err f) = refl

-- what is wrong is so behind entries too
pub told_behind : (a : List EntryContent) (r : Result (List EntryContent) (ℕ × Why)) (f : SourceFault) → Tells r f
    → Tells (lines_behind a r) f
told_behind a r (fault.Line line why) e = ap (lines_behind a) e
told_behind a r fault.NoMemory e = tt

-- ---- a part, and what is left behind it

module _ {W : Type 0} (Walked : W → List Entry → W → Type 0)
    (goes_on : (a b c : W) (es fs : List Entry) → Walked a es b → Walked b fs c → Walked a (es ++ fs) c) where
  pub part_then_rest : {X : Type 0} (result : Result X SourceFault) (source : List ℕ) (rest : Rest) (old new : Names)
      (a b c : W) (es : List Entry)
      → ((r : Reading) → IsNaming r.naming old → entries_with r rest old es ≡ entries_of source) → Grows old new
      → AllFit es → Walked a es b
      → MatchResult result (λ _. (fs : List Entry) × LeftAs rest old new fs × AllFit fs × Walked b fs c)
      (λ f. (r : Reading) → IsNaming r.naming new → Tells (entries_with r rest old []) f)
      → MatchResult result (λ _. (fs : List Entry) × ReadsAs source new fs × AllFit fs × Walked a fs c)
      (Tells (entries_of source))
  part_then_rest (Ok x) source rest old new a b c es read grows fit walked h = (
    es ++ h.0,
    λ r n.
        sym (read r (naming_less r.naming old new grows n)) ∙ entries_in_front r rest old es
        ∙ ap (lines_behind (map (entry_content r) es)) (h.1 r n)
        ∙ ap Ok (sym (map-append (entry_content r) es h.0)),
    All-append FitsEntry es h.0 fit h.2,
    goes_on a b c es h.0 walked h.3,
  )
  part_then_rest (Err f) source rest old new a b c es read grows fit walked h =
      let r : Reading = record { naming = naming_of new; written = false } in
      subst (λ t. Tells t f)
      (sym (entries_in_front r rest old es) ∙ read r (naming_less r.naming old new grows (is_naming new)))
      (told_behind (map (entry_content r) es) (entries_with r rest old []) f (h r (is_naming new)))
