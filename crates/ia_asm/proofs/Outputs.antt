-- What is made of the places of entries that are laid out.
use Rattle.std.proofs.Common.{◌≡◌, ℕ, ◌+◌, List, [], ◌++◌, sym, ◌∙◌, ap, append-nil, length, map, arith}
use Rattle.std.specs.Prelude.{flat_map}
use Rattle.indexmap.specs.IndexMap.{insert_all}
use Rattle.ia_item.specs.Names.{same_name}
use Rattle.ia_item.specs.Expressions.{Env}
use Rattle.ia_item.specs.Fits.{AllFit}
use Rattle.ia_item.specs.declared.item.Entry.{Entry}
use Rattle.ia_item.specs.declared.item.Section.{Section}
use Rattle.ia_item.specs.declared.item.Section.TheVariants.{Text as InText, Data as InData}
use Rattle.ia_resolve.specs.Symbols.{known}
use Rattle.ia_layout.specs.Placement.{EntryPlace, all_places, base_of, code_and_data, gap, section_bytes, text_end}
use Rattle.ia_layout.specs.Placement.{values}
use Rattle.ia_layout.specs.Parts.{Keeps}
use Rattle.ia_asm.specs.declared.program_layout.ProgramLayout.{ProgramLayout}
use Rattle.ia_asm.specs.declared.code.Code.{Code}
use Rattle.ia_asm.specs.declared.named_values.NamedValues.{NamedValues}
use Rattle.ia_asm.specs.declared.listing.Lister.{Lister}
use Rattle.ia_asm.specs.declared.marks.Marks.{Marks}
use Rattle.ia_asm.specs.ListingText.{listing_text}
use Rattle.ia_asm.specs.Lister.{listing_with}
use Rattle.ia_asm.specs.Takers.{HasBytes, code_with, kinds_with, lines_with, names_with, tail_with}
use Rattle.ia_asm.specs.Assemblies.{IsCodeOf, code_line, code_of, definition, kinds_of, lines_of, listing_of}
use Rattle.ia_asm.specs.Assemblies.{symbol_kind, symbol_modulo, symbols_of, tail_of}
use Rattle.ia_asm.specs.ProgramLayouts.{IsLayout}
use Rattle.ia_asm.proofs.Ends.{code_fits}
use Rattle.ia_asm.proofs.Placements.{is_placement}
use Rattle.ia_asm.proofs.SymbolValues.{all_modulo}

-- all of it, from nothing on
pub given_all : {S X G : Type 0} (given : S → List X → G) (a b : S) (xs : List X) → Keeps given a xs b
    → given b [] ≡ given a xs
given_all given a b xs k = k [] ∙ ap (given a) (append-nil xs)

bytes_are : (part : Section) (es : List Entry) (l : ProgramLayout) (before now : List ℕ) (env : Env) → IsLayout es l
    → env ≡ known l.table.values.entries → before ≡ []
    → now ++ [] ≡ before ++ section_bytes part env (all_places es)
    → now ≡ section_bytes part (values (all_places es)) (all_places es)
bytes_are part es l before now env s is none e =
    sym (append-nil now) ∙ e ∙ ap (λ b. b ++ section_bytes part env (all_places es)) none
    ∙ ap (λ (x : Env). section_bytes part x (all_places es)) (is ∙ s.1.known_as)

pub has_bytes : (es : List Entry) (l : ProgramLayout) (a b : Code) → IsLayout es l → a.symbols.now ≡ l.table
    → a.code.items ≡ [] → a.tail.items ≡ []
    → Keeps code_with a (all_places es) b → Keeps tail_with a (all_places es) b → HasBytes es b
has_bytes es l a b s is no_code no_tail code tail =
    let env = known a.symbols.now.values.entries in
    let same : env ≡ known l.table.values.entries = ap (λ t. known t.values.entries) is in (
      bytes_are InText es l a.code.items b.code.items env s same no_code (given_all code_with a b (all_places es) code),
      bytes_are InData es l a.tail.items b.tail.items env s same no_tail (given_all tail_with a b (all_places es) tail),
    )

pub names_are : (es : List Entry) (a b : NamedValues) → a.symbols.entries ≡ [] → Keeps names_with a (all_places es) b
    → b.symbols.entries ≡ symbols_of es
names_are es a b none k =
    given_all names_with a b (all_places es) k
    ∙ ap (λ l. insert_all same_name l (map symbol_modulo (flat_map definition (all_places es)))) none
    ∙ all_modulo [] (flat_map definition (all_places es))

pub kinds_are : (es : List Entry) (a b : Marks) → a.kinds.items ≡ [] → Keeps kinds_with a (all_places es) b
    → b.kinds.items ≡ kinds_of es
kinds_are es a b none k =
    sym (append-nil b.kinds.items) ∙ given_all kinds_with a b (all_places es) k
    ∙ ap (λ l. l ++ flat_map symbol_kind (all_places es)) none

pub lines_are : (es : List Entry) (a b : Marks) → a.lines.items ≡ [] → Keeps lines_with a (all_places es) b
    → b.lines.items ≡ lines_of es
lines_are es a b none k =
    sym (append-nil b.lines.items) ∙ given_all lines_with a b (all_places es) k
    ∙ ap (λ l. l ++ flat_map code_line (all_places es)) none

pub listing_is : (es : List Entry) (l : ProgramLayout) (a b : Lister) → IsLayout es l
    → ((ps : List EntryPlace) → listing_with a ps ≡ listing_text (known l.table.values.entries) ps)
    → Keeps listing_with a (all_places es) b → listing_with b [] ≡ listing_of es
listing_is es l a b s empty k =
    given_all listing_with a b (all_places es) k ∙ empty (all_places es)
    ∙ ap (λ (x : Env). listing_text x (all_places es)) s.1.known_as

pub image_is : (es : List Entry) (l : ProgramLayout) (code tail image : List ℕ) (base code_len : ℕ) → AllFit es
    → IsLayout es l → code ≡ code_of es → tail ≡ tail_of es
    → base ≡ l.base → image ≡ code_and_data code (gap 64 l.end) tail → l.base + code_len ≡ l.end
    → IsCodeOf es image base code_len
image_is es l code tail image base code_len fits s code_is tail_is at is count =
    let begins : base ≡ base_of es = at ∙ s.1.begins in
    let whole : image ≡ code_and_data (code_of es) (gap 64 (text_end es)) (tail_of es) =
    is ∙ ap (λ x. code_and_data x (gap 64 l.end) tail) code_is ∙ ap (code_and_data (code_of es) (gap 64 l.end)) tail_is
    ∙ ap (λ x. code_and_data (code_of es) (gap 64 x) (tail_of es)) s.1.ends in
    let long : code_len ≡ length (code_of es) = omega (arith, count, code_fits es, s.1.begins, s.1.ends) in
    record {
      faultless = s.0;
      base = begins;
      image = whole;
      code_len = long;
      end = code_fits es;
      placement = is_placement es base code_len image fits begins whole long;
    }
