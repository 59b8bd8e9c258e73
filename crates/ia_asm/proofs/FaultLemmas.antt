-- Fault after fault.
use Rattle.std.proofs.Common.{◌≡◌, ℕ, Bool, true, false, cond, List, [], ◌∷◌, Option, Some, None, refl, sym, ◌∙◌, ap}
use Rattle.std.specs.Prelude.{option_map, ◌==◌}
use Rattle.ia_item.specs.Expressions.{Env}
use Rattle.ia_resolve.specs.declared.place_fault.PlaceFault.{PlaceFault}
use Rattle.ia_resolve.specs.declared.place_fault.PlaceFault.TheVariants.{UnknownSymbol, Range, ShortJumpTooFar}
use Rattle.ia_resolve.specs.PlaceFaults.{first_of}
use Rattle.ia_layout.specs.Placement.{EntryPlace, place_fault, fault_on, by_first, first_fault}
use Rattle.ia_asm.specs.Faults.{with_next, fault_from}

in_turn : (a b c : Option PlaceFault) → first_of (first_of a b) c ≡ first_of a (first_of b c)
in_turn None b c = refl
in_turn (Some UnknownSymbol) b c = refl
in_turn (Some Range) None c = refl
in_turn (Some Range) (Some UnknownSymbol) c = refl
in_turn (Some Range) (Some Range) None = refl
in_turn (Some Range) (Some Range) (Some UnknownSymbol) = refl
in_turn (Some Range) (Some Range) (Some Range) = refl
in_turn (Some Range) (Some Range) (Some ShortJumpTooFar) = refl
in_turn (Some Range) (Some ShortJumpTooFar) None = refl
in_turn (Some Range) (Some ShortJumpTooFar) (Some UnknownSymbol) = refl
in_turn (Some Range) (Some ShortJumpTooFar) (Some Range) = refl
in_turn (Some Range) (Some ShortJumpTooFar) (Some ShortJumpTooFar) = refl
in_turn (Some ShortJumpTooFar) None c = refl
in_turn (Some ShortJumpTooFar) (Some UnknownSymbol) c = refl
in_turn (Some ShortJumpTooFar) (Some Range) None = refl
in_turn (Some ShortJumpTooFar) (Some Range) (Some UnknownSymbol) = refl
in_turn (Some ShortJumpTooFar) (Some Range) (Some Range) = refl
in_turn (Some ShortJumpTooFar) (Some Range) (Some ShortJumpTooFar) = refl
in_turn (Some ShortJumpTooFar) (Some ShortJumpTooFar) None = refl
in_turn (Some ShortJumpTooFar) (Some ShortJumpTooFar) (Some UnknownSymbol) = refl
in_turn (Some ShortJumpTooFar) (Some ShortJumpTooFar) (Some Range) = refl
in_turn (Some ShortJumpTooFar) (Some ShortJumpTooFar) (Some ShortJumpTooFar) = refl

pub first_some : (f : PlaceFault) (g : Option PlaceFault) → (h : PlaceFault) × (first_of (Some f) g ≡ Some h)
first_some UnknownSymbol g = (UnknownSymbol, refl)
first_some Range None = (Range, refl)
first_some Range (Some UnknownSymbol) = (UnknownSymbol, refl)
first_some Range (Some Range) = (Range, refl)
first_some Range (Some ShortJumpTooFar) = (Range, refl)
first_some ShortJumpTooFar None = (ShortJumpTooFar, refl)
first_some ShortJumpTooFar (Some f) = (f, refl)

pub step : (env : Env) (base : ℕ) (found : Option (PlaceFault × ℕ)) (p : EntryPlace) (ps : List EntryPlace)
    (g : Option PlaceFault) → place_fault env base p ≡ g →
    fault_from env base (with_next found g p.entry.line) ps ≡ fault_from env base found (p ∷ ps)
step env base None p ps None e =
    sym (ap (λ g. by_first g p.entry.line (fault_on p.entry.line env base ps) (first_fault env base ps)) e)
step env base None p ps (Some f) e =
    sym (ap (λ g. by_first g p.entry.line (fault_on p.entry.line env base ps) (first_fault env base ps)) e)
step env base (Some (f, l)) p ps g e = by (p.entry.line == l) refl
  where
    more : Option PlaceFault
    more = fault_on l env base ps

    goes : (h : PlaceFault) → first_of (Some f) g ≡ Some h →
        fault_from env base (option_map (λ x. (x, l)) (first_of (Some f) g)) ps
        ≡ option_map (λ x. (x, l)) (first_of (Some f) (first_of (place_fault env base p) more))
    goes h is = ap (λ x. fault_from env base (option_map (λ y. (y, l)) x) ps) is
        ∙ ap (λ x. option_map (λ y. (y, l)) (first_of x more)) (sym is)
        ∙ ap (option_map (λ x. (x, l))) (in_turn (Some f) g more)
        ∙ ap (λ x. option_map (λ y. (y, l)) (first_of (Some f) (first_of x more))) (sym e)

    by : (t : Bool) → (p.entry.line == l) ≡ t →
        fault_from env base (cond (p.entry.line == l) (option_map (λ x. (x, l)) (first_of (Some f) g)) (Some (f, l))) ps
        ≡ option_map (λ x. (x, l))
        (first_of (Some f) (first_of (cond (p.entry.line == l) (place_fault env base p) None) more))
    by true same = rw same (goes (first_some f g).0 (first_some f g).1)
    by false other = rw other refl

-- behind the last place stands what is told
pub ended : (env : Env) (base : ℕ) (found : Option (PlaceFault × ℕ)) → fault_from env base found [] ≡ found
ended env base None = refl
ended env base (Some (UnknownSymbol, l)) = refl
ended env base (Some (Range, l)) = refl
ended env base (Some (ShortJumpTooFar, l)) = refl
