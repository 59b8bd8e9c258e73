use Rattle.text_out.proofs.Writing.{wrote_then}
use Rattle.elide_asm.proofs.listing.write_name.Goals as goal

pub returns : goal.returns
returns g c = wrote_then c.in_ok-put.ensures c.in_ok-put-2.ensures
