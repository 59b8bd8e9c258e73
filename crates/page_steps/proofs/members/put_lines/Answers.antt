use Rattle.std.proofs.Common.{arith, sym}
use Rattle.std.proofs.lemmas.Grind.{common_steps}
use Rattle.page_steps.specs.Numbers.{numbers_text}
use Rattle.page_steps.proofs.Saying.{named_says}
use Rattle.page_steps.proofs.members.put_lines.Goals as goal

pub returns-clause-some : goal.returns-clause-some
returns-clause-some g c =
    sym (named_says c.args.some c.args.name.now numbers_text c.args.lines.now c.requires (grind (arith, common_steps)))
