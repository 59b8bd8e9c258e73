-- Where the entries of a source go.
use Rattle.std.proofs.Common.{◌≡◌, ℕ, ◌≤◌, ◌^◌, ◌+◌, Some, None, List, [], refl, sym, ◌∙◌, ap, subst, arith}
use Rattle.std.proofs.Math.Path.{fun_ext}
use Rattle.std.specs.Prelude.{option_map, ℤ}
use Rattle.ia_item.specs.declared.symbol.Symbol.{Symbol}
use Rattle.ia_item.specs.declared.item.Entry.{Entry}
use Rattle.ia_item.specs.Expressions.{Env}
use Rattle.ia_names.specs.declared.names.Names.{Names}
use Rattle.ia_names.specs.Namings.{Naming, IsOneToOne, Grows}
use Rattle.ia_names.proofs.Namings.{grows_more}
use Rattle.ia_resolve.specs.declared.place_fault.PlaceFault.{PlaceFault}
use Rattle.ia_resolve.specs.declared.place_fault.PlaceFault.TheVariants as fault
use Rattle.ia_resolve.specs.Symbols.{known}
use Rattle.ia_layout.specs.Placement.{start, after, base_of, text_end, tail_base, places, all_places, symbols, values}
use Rattle.ia_layout.specs.Placement.{first_fault}
use Rattle.ia_asm.specs.declared.program_layout.ProgramLayout.{ProgramLayout}
use Rattle.ia_asm.specs.Faults.{at_line}
use Rattle.ia_asm.specs.Assemblies.{fault_of, TellsFault}
use Rattle.ia_asm.specs.Assembles.{RefusedAs}
use Rattle.ia_asm.specs.ProgramLayouts.{ForEntries, OfEntries, ArePlaced, IsLayout, IsLaidOut}
use Rattle.ia_asm.proofs.SameGiven.{same_given}
use Rattle.ia_asm.proofs.Ends.{code_fits, code_near}
use Rattle.ia_asm.proofs.Readings.{asks_for, of_entries, of_more}
use Rattle.ia_asm.proofs.Refusals.{placing_refused}
use Rattle.ia_asm.proofs.SamePlaces.{SameState, SamePlaces, SameContents, same_after, same_base, same_places}
use Rattle.ia_asm.proofs.SamePlaces.{same_symbols}

-- ---- what one reading gives is what each gives

same_start : (m : Naming) (base tail : ℕ) → SameState m m (start base tail) (start base tail)
same_start m base tail = record { above = λ s t st. refl; text = refl; tail = refl }

same_all : (m : Naming) → IsOneToOne m → (base tail : ℕ) (es fs : List Entry) → SameContents m m es fs
    → SamePlaces m m (places (start base tail) es) (places (start base tail) fs)
same_all m one base tail es fs same =
    same_places m m one one (start base tail) (start base tail) (same_start m base tail) es fs same

pub base_found : (source : List ℕ) (names : Names) (base : ℕ) → ForEntries source names (λ es. base ≡ base_of es)
    → OfEntries source names (λ es. base ≡ base_of es)
base_found source names base = of_entries source names (λ es. base ≡ base_of es) (λ es. base ≡ base_of es)
    (λ m one es fs same e. e ∙ same_base m m one one es fs same)

pub end_found : (source : List ℕ) (names : Names) (base end : ℕ)
    → ForEntries source names (λ es. end ≡ (after (start base 0) es).text)
    → OfEntries source names (λ es. end ≡ (after (start base 0) es).text)
end_found source names base end =
    of_entries source names (λ es. end ≡ (after (start base 0) es).text) (λ es. end ≡ (after (start base 0) es).text)
    (λ m one es fs same e. e
    ∙ (same_after m m one one (start base 0) (start base 0) (same_start m base 0) es fs same).text)

pub table_found : (source : List ℕ) (names : Names) (base tail : ℕ) (table : List (Symbol × ℤ))
    → ForEntries source names (λ es. table ≡ symbols (places (start base tail) es))
    → OfEntries source names (λ es. known table ≡ values (places (start base tail) es))
table_found source names base tail table = of_entries source names (λ es. table ≡ symbols (places (start base tail) es))
    (λ es. known table ≡ values (places (start base tail) es))
    (λ m one es fs same e. ap known e ∙ fun_ext (λ s. same_symbols m m [] [] (places (start base tail) es)
    (places (start base tail) fs) (λ s t st. refl) (same_all m one base tail es fs same) s s refl))

-- ---- all of it

placed : (es : List Entry) (l : ProgramLayout) → l.base ≡ base_of es → l.end ≡ (after (start l.base 0) es).text
    → l.tail ≡ tail_base l.end
    → known l.table.values.entries ≡ values (places (start l.base l.tail) es) → ArePlaced es l
placed es l b e t k =
    let ends : l.end ≡ text_end es = e ∙ ap (λ x. (after (start x 0) es).text) b in
    let tails : l.tail ≡ tail_base (text_end es) = t ∙ ap tail_base ends in
    record {
      begins = b;
      ends = ends;
      tail = tails;
      known_as = k ∙ ap (λ x. values (places (start x l.tail) es)) b
          ∙ ap (λ x. values (places (start (base_of es) x) es)) tails;
    }

-- the walks read the same source, and its names grow
pub all_found : (source s1 s2 : List ℕ) (n1 n2 names : Names) (l : ProgramLayout) → s1 ≡ source → s2 ≡ s1 → Grows n1 n2
    → Grows n2 names
    → OfEntries source n1 (λ es. l.base ≡ base_of es) → OfEntries s1 n2 (λ es. l.end ≡ (after (start l.base 0) es).text)
    → l.tail ≡ tail_base l.end
    → OfEntries s2 names (λ es. known l.table.values.entries ≡ values (places (start l.base l.tail) es))
    → OfEntries source names (λ es. ArePlaced es l)
all_found source s1 s2 n1 n2 names l one two g1 g2 b e t k m is es r =
    placed es l
    (of_more source n1 names (λ es. l.base ≡ base_of es) (grows_more n1 n2 names g1 g2) b m is es r)
    (of_more source n2 names E g2 (subst (λ s. OfEntries s n2 E) one e) m is es r)
    t (subst (λ s. OfEntries s names K) (two ∙ one) k m is es r)
  where
    E : List Entry → Type 0
    E es = l.end ≡ (after (start l.base 0) es).text

    K : List Entry → Type 0
    K es = known l.table.values.entries ≡ values (places (start l.base l.tail) es)

found : (es : List Entry) (f : PlaceFault) (line : ℕ) → fault_of es ≡ Some (f, line) → TellsFault es (at_line f line)
found es fault.UnknownSymbol line e = ap (option_map (λ t. at_line t.0 t.1)) e
found es fault.Range line e = ap (option_map (λ t. at_line t.0 t.1)) e
found es fault.ShortJumpTooFar line e = ap (option_map (λ t. at_line t.0 t.1)) e

-- a line that has a fault is told
pub told_line : (source : List ℕ) (names : Names) (f : PlaceFault) (line : ℕ)
    → ForEntries source names (λ es. Some (f, line) ≡ fault_of es) → RefusedAs source (at_line f line)
told_line source names f line (es, reads, fits, e) =
    placing_refused source es (asks_for source names es reads) (at_line f line) (found es f line (sym e))

-- no line has one
pub laid_out : (source : List ℕ) (old names : Names) (l : ProgramLayout) → Grows old names
    → OfEntries source old (λ es. ArePlaced es l) → ForEntries source names (λ es. None ≡ fault_of es)
    → IsLaidOut source names l
laid_out source old names l grows are none m is es r =
    let faultless = of_entries source names (λ es. None ≡ fault_of es) (λ es. fault_of es ≡ None)
    (λ n one es fs same e. sym (e ∙ (same_given n n one one es fs same).fault)) none in
    (faultless m is es r, of_more source old names (λ es. ArePlaced es l) grows are m is es r)

-- ---- of a layout

pub all_laid : (es : List Entry) (l : ProgramLayout) → ArePlaced es l → places (start l.base l.tail) es ≡ all_places es
all_laid es l s = ap (λ x. places (start x l.tail) es) s.begins ∙ ap (λ x. places (start (base_of es) x) es) s.tail

pub fault_is : (es : List Entry) (l : ProgramLayout) → ArePlaced es l
    → first_fault (known l.table.values.entries) l.base (places (start l.base l.tail) es) ≡ fault_of es
fault_is es l s =
    ap (first_fault (known l.table.values.entries) l.base) (all_laid es l s)
    ∙ ap (λ (e : Env). first_fault e l.base (all_places es)) s.known_as
    ∙ ap (λ x. first_fault (values (all_places es)) x (all_places es)) s.begins

pub begins_before_end : (es : List Entry) (l : ProgramLayout) → IsLayout es l → l.base ≤ l.end
begins_before_end es l s = omega (arith, code_fits es, s.1.begins, s.1.ends)

pub ends_near : (es : List Entry) (l : ProgramLayout) → IsLayout es l → l.end ≤ l.base + 2 ^ 28
ends_near es l s = omega (arith, code_near es s.0, s.1.begins, s.1.ends)
