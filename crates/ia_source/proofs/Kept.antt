-- The entries of a source that a reader keeps.
use Rattle.std.proofs.Common.{◌≡◌, ℕ, false, List, Option, Some, subst}
use Rattle.std.proofs.Props.{props}
use Rattle.std.proofs.Math.Logic.{∥∥₁_elim}
use Rattle.std.specs.Prelude.{IfSome}
use Rattle.ia_item.specs.declared.item.Entry.{Entry}
use Rattle.ia_item.specs.Fits.{AllFit}
use Rattle.ia_names.specs.declared.names.Names.{Names}
use Rattle.ia_names.specs.Namings.{naming_of}
use Rattle.ia_names.proofs.Namings.{is_naming}
use Rattle.ia_source.specs.Contents.{EntryContent, Reading}
use Rattle.ia_source.specs.Source.{ReadsAs}
use Rattle.ia_source.proofs.SourceFits.{all_fit}

entry_set : IsSet EntryContent
entry_set = hlevel props

-- that a source asks for entries has one proof at most
reads_prop : (source : List ℕ) (names : Names) (es : List Entry) → IsProp (ReadsAs source names es)
reads_prop source names es = hlevel (props, entry_set)

pub kept_read : {V : Type 0} (items : V → List Entry) (source : List ℕ) (names : Names) (whole : Option V) (v : V)
    → ∥ IfSome whole (λ w. ReadsAs source names (items w)) ∥₁ → whole ≡ Some v
    → ReadsAs source names (items v)
kept_read items source names whole v kept is =
    ∥∥₁_elim kept (reads_prop source names (items v))
    (λ k. subst (λ w. IfSome w (λ w. ReadsAs source names (items w))) is k)

pub read_fit : (source : List ℕ) (names : Names) (es : List Entry) → ReadsAs source names es → AllFit es
read_fit source names es reads =
    let r : Reading = record { naming = naming_of names; written = false } in
    all_fit r source es (reads r (is_naming names))
