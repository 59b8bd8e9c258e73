use Rattle.std.proofs.Common.{ℕ, List, subst}
use Rattle.std.proofs.lemmas.Result.{on_ok_weaker}
use Rattle.text_out.proofs.Writing.{wrote_then}
use Rattle.text_out.specs.Writing.{Wrote}
use Rattle.elide_json.specs.Outcomes.{run_front}
use Rattle.elide_json.proofs.outcomes.put_front.Goals as goal

pub returns-clause-wrote : goal.returns-clause-wrote
unfolding run_front
returns-clause-wrote g c =
    let device = g.O.Out.device in
    on_ok_weaker c.put-2.result
    (λ h. wrote_then c.in_ok-put.ensures.wrote
    (subst (λ (text : List ℕ). Wrote (device c.put.new.out) (device c.put-2.new.out) text) c.opening.ensures h))
    c.put-2.ensures.wrote
