use Rattle.std.proofs.Common.{ℕ, true, false, List, Option, ap, ◌∙◌, refl}
use denote.Bor.{Bor}
use Rattle.std.specs.Prelude.{option_map}
use Rattle.ia_names.proofs.Namings.{naming_is}
use Rattle.ia_source.specs.Symbols.{whole_of}
use Rattle.ia_source.specs.Source.{is_twice, label_name, names_content}
use Rattle.ia_source.proofs.Names.{was_among}
use Rattle.ia_source.proofs.line.define.Goals as goal

pub returns-then-is_new-clause-new : goal.returns-then-is_new-clause-new
returns-then-is_new-clause-new c naming h =
    let scope = c.args.names.now.scope.text.now in
    let d = c.in_ok-definition-in-Some.definition in
    let w = whole_of scope c.in-Some.own.now in
    ap (λ (l : Option (Bor (List ℕ))). is_twice (names_content naming c.args.defined.now)
    (label_name scope (option_map (λ r. r.now) l))) c.in-Some.is
    ∙ was_among naming h.one_to_one c.args.defined.now.keys d.symbol w c.in_ok-is_new-in-Some.is_new true
    (naming_is naming c.definition.new.self d.symbol w h c.in_ok-definition-in-Some.ensures.named)
    c.in_ok-is_new-in-Some.ensures.added c.if-is_new.true

pub returns-else-is_new-clause-new : goal.returns-else-is_new-clause-new
returns-else-is_new-clause-new c naming h =
    let scope = c.args.names.now.scope.text.now in
    let d = c.in_ok-definition-in-Some.definition in
    let w = whole_of scope c.in-Some.own.now in (
      ap (λ (l : Option (Bor (List ℕ))). is_twice (names_content naming c.args.defined.now)
          (label_name scope (option_map (λ r. r.now) l))) c.in-Some.is
          ∙ was_among naming h.one_to_one c.args.defined.now.keys d.symbol w c.in_ok-is_new-in-Some.is_new false
          (naming_is naming c.definition.new.self d.symbol w h c.in_ok-definition-in-Some.ensures.named)
          c.in_ok-is_new-in-Some.ensures.added c.if-is_new.false,
      refl,
      refl,
    )
