use Rattle.std.proofs.Common.{get_or, refl, ap, ◌∙◌}
use Rattle.tm_page.proofs.Lists.{byte_joins}
use Rattle.tm_page.specs.Applied.{stored_at}
use Rattle.tm_page.proofs.bytes.put_byte.Goals as goal

pub returns : goal.returns
returns c = λ at within.
    ap (λ xs. stored_at xs at) c.in_ok-push.ensures.items
    ∙ byte_joins (λ a. get_or c.args.memory.now a 0) c.args.bytes.now.items c.args.address
    (get_or c.args.memory.now c.args.address 0) refl at
