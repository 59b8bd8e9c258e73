use Rattle.std.proofs.Common.{◌≡◌, ap, ◌∙◌}
use Rattle.tm_core.specs.Seen.{byte_seen}
use Rattle.tm_page.proofs.Lists.{byte_joins}
use Rattle.tm_page.specs.Applied.{stored_at}
use Rattle.tm_page.proofs.bytes.put_seen.Goals as goal

pub returns : goal.returns
returns c = λ at within.
    let is : c.unwrap-byte.result ≡ byte_seen c.args.machine.now c.args.core c.args.address =
    rw c.unwrap-byte.ensures at c.seen.ensures.shown in
    ap (λ xs. stored_at xs at) c.in_ok-push.ensures.items
    ∙ byte_joins (byte_seen c.args.machine.now c.args.core) c.args.bytes.now.items c.args.address
    c.unwrap-byte.result is at
