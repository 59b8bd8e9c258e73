use Rattle.std.proofs.Common.{ℕ, List, ◌++◌, subst}
use Rattle.std.specs.Prelude.{codes}
use Rattle.text_out.proofs.Writing.{wrote_then}
use Rattle.text_out.specs.Writing.{Wrote}
use Rattle.page_text.specs.Escaped.{string_text}
use Rattle.elide_page.proofs.front.write_file_name.Goals as goal

pub returns : goal.returns
returns g c =
    subst (λ (t : List ℕ). Wrote (g.O.Out.device c.args.out.now) (g.O.Out.device c.write_string.new.out)
    (codes "{\"format\":1,\"name\":" ++ string_text t 60)) c.as_bytes.ensures.value
    (wrote_then c.in_ok-put.ensures c.in_ok-write_string.ensures.text)
