-- Entries that can be placed, as contents.
use Rattle.std.specs.Prelude.{◌≤◌, Option, Some, None, List, IsTrue, length}
use Rattle.ia_insn.specs.Encoding.{is_encodable}
use Rattle.ia_item.specs.Fits.{IsPower}
use Rattle.ia_lex.specs.Terms.{TermContent}
use Rattle.ia_source.specs.Contents.{ItemContent, Label, Equ, Code, Byte, Text, Numbers, Long, Reserve, Align, Org}

-- 1 to 16 terms
abbrev pub FitsTerms : List TermContent → Type 0
FitsTerms ps = (1 ≤ length ps) × (length ps ≤ 16)

abbrev pub FitsAnyTerms : Option (List TermContent) → Type 0
FitsAnyTerms None = Unit {0}
FitsAnyTerms (Some ps) = FitsTerms ps

abbrev pub FitsContent : ItemContent → Type 0
FitsContent (Label name) = Unit {0}
FitsContent (Equ name ps) = FitsTerms ps
FitsContent (Code i number place) = IsTrue (is_encodable i) × FitsAnyTerms number × FitsAnyTerms place
FitsContent (Byte ps) = FitsTerms ps
FitsContent (Text bytes) = Unit {0}
FitsContent (Numbers bytes) = Unit {0}
FitsContent (Long ps) = FitsTerms ps
FitsContent (Reserve ps) = FitsTerms ps
FitsContent (Align n) = IsPower n
FitsContent (Org n) = Unit {0}
