use Rattle.std.proofs.Common.{ℕ, List, Option, Bor, subst}
use Rattle.std.specs.Option.{option_copied}
use Rattle.std.proofs.lemmas.Result.{on_ok_weaker}
use Rattle.text_out.specs.Writing.{Wrote}
use Rattle.elide_json.specs.Objects.{run_members}
use Rattle.elide_json.specs.Outcomes.{run_back}
use Rattle.elide_run.proofs.object.put_end.Goals as goal

pub returns-clause-wrote : goal.returns-clause-wrote
returns-clause-wrote g c =
    let machine = c.args.end.machine.now in
    let options = c.args.end.options.now in
    let parts = c.args.end.setup.now.parts in
    let back = λ (texts : List (Bor (List ℕ))) (running : Option (List ℕ)). run_back options.traces
    (run_members machine parts texts running c.args.end.status) in
    let old = g.O.Out.device c.args.out.now in
    let new = g.O.Out.device c.put_back.new.out in
    let asked = option_copied c.asked_cores-running.result in
    on_ok_weaker c.put_back.result
    (λ wrote. subst (λ (running : Option (List ℕ)). Wrote old new (back options.machine.shows.items running))
    c.asked_cores-running.ensures
    (subst (λ (texts : List (Bor (List ℕ))). Wrote old new (back texts asked)) c.as_slice.ensures.value wrote))
    c.put_back.ensures.wrote
