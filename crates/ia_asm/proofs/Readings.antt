-- What holds of the entries of one reading holds of those of another.
use Rattle.std.proofs.Common.{ℕ, true, List, Result, Ok, Err, sym, ◌∙◌, ap, map}
use Rattle.ia_item.specs.declared.item.Entry.{Entry}
use Rattle.ia_names.specs.declared.names.Names.{Names}
use Rattle.ia_names.specs.Namings.{Naming, IsOneToOne, Grows, naming_of}
use Rattle.ia_names.proofs.Namings.{is_naming, naming_less}
use Rattle.ia_source.specs.declared.fault.Why.{Why}
use Rattle.ia_source.specs.Contents.{EntryContent, entry_content}
use Rattle.ia_source.specs.Source.{AsksFor, ReadsAs}
use Rattle.ia_asm.specs.ProgramLayouts.{ForEntries, OfEntries}
use Rattle.ia_asm.proofs.SameItems.{by_number}
use Rattle.ia_asm.proofs.SamePlaces.{SameContents}

abbrev pub read_or : List EntryContent → Result (List EntryContent) (ℕ × Why) → List EntryContent
read_or d (Ok es) = es
read_or d (Err f) = d

pub of_entries : (source : List ℕ) (names : Names) (P Q : List Entry → Type 0)
    → ((m : Naming) → IsOneToOne m → (es fs : List Entry) → SameContents m m es fs → P es → Q fs)
    → ForEntries source names P → OfEntries source names Q
of_entries source names P Q go (es, reads, fits, p) m is fs r =
    go m is.one_to_one es fs (ap (read_or (map (entry_content (by_number m)) es)) (sym (reads (by_number m) is) ∙ r)) p

-- names that grow keep what holds
pub of_more : (source : List ℕ) (a b : Names) (P : List Entry → Type 0) → Grows a b → OfEntries source a P
    → OfEntries source b P
of_more source a b P grows of m is es r = of m (naming_less m a b grows is) es r

pub asks_for : (source : List ℕ) (names : Names) (es : List Entry) → ReadsAs source names es → AsksFor source es
asks_for source names es reads = record {
  naming = naming_of names;
  one_to_one = (is_naming names).one_to_one;
  named = reads (by_number (naming_of names)) (is_naming names);
  written = reads (record { naming = naming_of names; written = true }) (is_naming names);
}

-- it holds of entries that were read
pub of_read : (source : List ℕ) (names : Names) (P : List Entry → Type 0) (es : List Entry) → ReadsAs source names es
    → OfEntries source names P → P es
of_read source names P es reads of =
    of (naming_of names) (is_naming names) es (reads (by_number (naming_of names)) (is_naming names))
