use Rattle.std.proofs.Common.{◌∙◌, ap, nat_eq}
use Rattle.std.specs.Prelude.{codes, not}
use Rattle.std.specs.Cmp.Lexicographic.{pointwise}
use Rattle.elide_expect.proofs.Lists.{any_map}
use Rattle.elide_expect.proofs.suits.prints_lines.Goals as goal

pub returns : goal.returns
returns c = ap not (c.ask_for_json.ensures
    ∙ any_map (λ word. pointwise nat_eq word (codes "--json")) (λ row. row.items) c.args.words.now)
