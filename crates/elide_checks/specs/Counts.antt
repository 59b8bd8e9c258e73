-- Counts of a run, as their words say them (docs/FORMATS.md, "Checks").
use Rattle.std.specs.Prelude.{◌≡◌, ℕ, List, [], ◌∷◌, ◌++◌, codes, Option, Some, None, Ok, option_and_then}
use Rattle.hex.specs.Hex.{decode_of}
use Rattle.elide_program.specs.Settings.{below, word32}
use Rattle.tm_hist.specs.Lines.{interference_word}
use Rattle.tm_check.specs.declared.count.AbortKind.{AbortKind}
use Rattle.tm_check.specs.declared.count.AbortKind.TheVariants.{Program, Outside}
use Rattle.tm_check.specs.declared.count.Cores.{Cores}
use Rattle.tm_check.specs.declared.count.Cores.TheVariants.{All, One}
use Rattle.tm_check.specs.declared.count.Count.{Count}
use Rattle.tm_check.specs.declared.count.Count.TheVariants.{Commits, Aborts}
use Rattle.tm_status.specs.declared.cause.Cause.{Cause}
use Rattle.tm_status.specs.declared.cause.Cause.TheVariants.{Conflict, Capacity, Nest, Explicit, Debug, Other}

-- the number of a core, 0 to 255
abbrev pub core_said : List ℕ → Option ℕ
core_said word = option_and_then (below 256) (word32 word)

-- that, or `*` for all
abbrev pub AreCores : List ℕ → Cores → Type 0
AreCores word All = word ≡ codes "*"
AreCores word (One core) = core_said word ≡ Some core

-- the word of a cause: that of the overflow of sets and of depth is one, since they have one status
abbrev pub IsCause : List ℕ → Cause → Type 0
IsCause word Conflict = word ≡ codes "conflict"
IsCause word Capacity = word ≡ codes "capacity"
IsCause word Nest = ⊥
IsCause word (Explicit argument) =
    (digits : List ℕ) × (word ≡ codes "xabort:" ++ digits) × (decode_of digits ≡ Ok (argument ∷ []))
IsCause word Debug = word ≡ codes "INT3"
IsCause word Other = word ≡ codes "other"

abbrev pub IsKind : List ℕ → AbortKind → Type 0
IsKind word (Program cause) = IsCause word cause
IsKind word (Outside by) = word ≡ interference_word by

-- `aborts` alone, or with a kind behind a colon
abbrev pub AreAborts : List ℕ → Option AbortKind → Type 0
AreAborts word None = word ≡ codes "aborts"
AreAborts word (Some kind) = (rest : List ℕ) × (word ≡ codes "aborts:" ++ rest) × IsKind rest kind

-- what is counted, and whose
abbrev pub IsCountOf : List ℕ → List ℕ → Count → Type 0
IsCountOf name whose (Commits cores) = (name ≡ codes "commits") × AreCores whose cores
IsCountOf name whose (Aborts kind cores) = AreAborts name kind × AreCores whose cores
