use Rattle.std.proofs.Common.{◌≡◌, Bool, false, true, refl, sym, ◌∙◌, map, subst}
use Rattle.std.specs.Prelude.{Ok}
use Rattle.ia_names.specs.Namings.{naming_of}
use Rattle.ia_names.proofs.Namings.{is_naming}
use Rattle.ia_source.specs.Contents.{Reading, entry_content}
use Rattle.ia_source.specs.Source.{Tells, entries_of}
use Rattle.ia_source.proofs.Rests.{from_start, none_left}
use Rattle.ia_source.proofs.source.entries.Goals as goal

pub returns-in-Ok-clause-exact : goal.returns-in-Ok-clause-exact
returns-in-Ok-clause-exact c = record {
  naming = naming_of c.part.new.names;
  one_to_one = (is_naming c.part.new.names).one_to_one;
  named = read false;
  written = read true;
}
  where
    read : (b : Bool)
        → entries_of c.args.source.now
        ≡ Ok (map (entry_content (record { naming = naming_of c.part.new.names; written = b })) c.in-Ok.entries.items)
    read b =
        let r : Reading = record { naming = naming_of c.part.new.names; written = b } in
        sym (from_start r c.new.result c.new-names.result c.args.source.now c.new.ensures.source c.new.ensures.place
        c.new-names.ensures c.new.ensures.state c.new.ensures.defined)
        ∙ sym (c.in-Ok.ensures.read r (is_naming c.part.new.names))
        ∙ none_left r c.part.new.self c.part.new.names c.in-Ok.entries.items (c.in-Ok.ensures.whole refl)

pub returns-clause-exact : goal.returns-clause-exact
returns-clause-exact c =
    let names = c.part.new.names in
    let r : Reading = record { naming = naming_of names; written = false } in
    subst (λ t. Tells t c.in-Err.fault)
    (from_start r c.new.result c.new-names.result c.args.source.now c.new.ensures.source c.new.ensures.place
    c.new-names.ensures c.new.ensures.state c.new.ensures.defined)
    (c.in-Err.ensures.read r (is_naming names))
