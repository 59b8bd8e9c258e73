use Rattle.tm_page.proofs.Run.{sees}
use Rattle.tm_page.proofs.laws.private_bytes_are_seen.Goals as goal

pub returns : goal.returns
returns c = sees
