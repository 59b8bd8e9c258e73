use Rattle.std.proofs.Common.{ℕ, ◌++◌, subst}
use Rattle.std.specs.Prelude.{codes, decimal}
use Rattle.text_out.proofs.Writing.{wrote_then}
use Rattle.text_out.specs.Writing.{Wrote}
use Rattle.elide_page.proofs.front.write_most_read.Goals as goal

pub returns : goal.returns
returns g c =
    subst (λ (n : ℕ). Wrote (g.O.Out.device c.args.out.now) (g.O.Out.device c.write_number.new.out)
    (codes ",\"limits\":[" ++ decimal n)) c.from.ensures
    (wrote_then c.in_ok-put.ensures c.in_ok-write_number.ensures)
