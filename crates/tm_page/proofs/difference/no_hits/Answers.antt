use Rattle.std.proofs.Common.{None}
use Rattle.tm_page.proofs.Rows.{default_of}
use Rattle.tm_page.proofs.difference.no_hits.Goals as goal

pub returns : goal.returns
returns c = λ other. default_of 64 other None
