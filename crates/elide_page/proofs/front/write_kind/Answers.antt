use Rattle.std.proofs.Common.{ℕ, List, ◌++◌, subst}
use Rattle.std.specs.Prelude.{codes}
use Rattle.text_out.proofs.Writing.{wrote_then}
use Rattle.text_out.specs.Writing.{Wrote}
use Rattle.page_text.specs.Escaped.{string_text}
use Rattle.elide_page.proofs.front.write_kind.Goals as goal

pub returns : goal.returns
returns g c =
    let behind : List ℕ = codes "\",\"command\":" ++ string_text c.args.subject.now.command.now 600 in
    subst (λ (t : List ℕ). Wrote (g.O.Out.device c.args.out.now) (g.O.Out.device c.write_string.new.out)
    (codes ",\"kind\":\"" ++ (t ++ behind))) c.form_word.ensures
    (wrote_then c.in_ok-put.ensures (wrote_then c.in_ok-put-2.ensures
    (wrote_then c.in_ok-put-3.ensures c.in_ok-write_string.ensures.text)))
