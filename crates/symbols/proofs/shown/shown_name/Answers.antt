use Rattle.std.proofs.Common.{◌≡◌, ◌∙◌, ap, arith, take}
use Rattle.std.proofs.lemmas.Grind.{common_steps}
use Rattle.symbols.specs.Shown.{shown_name}
use Rattle.symbols.proofs.Showing.{plain_text}
use Rattle.symbols.proofs.shown.shown_name.Goals as goal

pub returns-clause-plain : goal.returns-clause-plain
returns-clause-plain c =
    let all : take c.bytes.index c.args.name.now ≡ c.args.name.now = grind (arith, common_steps) in
    plain_text c.args.name.now c.bytes.shown.items (c.bytes.invariant ∙ ap shown_name all)
