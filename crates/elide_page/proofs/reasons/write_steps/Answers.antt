use Rattle.std.proofs.Common.{◌≡◌, ◌∙◌, ℕ, List, false, refl, sym}
use Rattle.std.proofs.lemmas.Result.{IfOk-weaker, err_from_is_err_and}
use Rattle.std.specs.Prelude.{codes}
use Rattle.text_out.specs.Writing.{Wrote}
use Rattle.page_run.proofs.Refusing.{not_told_of}
use Rattle.elide_page.proofs.Explaining.{all_reasoned, reasons_written}
use Rattle.elide_page.specs.Reasons.{AreReasonsOf, Spot}
use Rattle.elide_page.specs.declared.reasons.Reasoning.{Reasoning}
use Rattle.elide_page.proofs.reasons.write_steps.Goals as goal

pub returns-clause-text : goal.returns-clause-text
returns-clause-text g c =
    let spot : Reasoning g.row.T.Denot g.row.O.Denot → Spot = λ r. record {
      machine = r.machine;
      window = r.window;
      made = r.made;
      some = r.some;
      device = g.O.Out.device r.out;
    } in
    let stretch = c.args.stretch in
    let walked = c.in_ok-walk.ensures.walked in
    let ended = c.walk.new.maker in
    let all = all_reasoned spot (λ a steps b h. h) walked.0 _ ended walked.2 in
    IfOk-weaker c.put_end.result
    (λ (last : g.row.O.Denot). Wrote (g.O.Out.device ended.out) (g.O.Out.device last) (codes "}}"))
    (λ (last : g.row.O.Denot). (text : List ℕ) × AreReasonsOf stretch text
    × Wrote (g.O.Out.device c.args.out) (g.O.Out.device last) text)
    (λ last end. reasons_written stretch walked.0 _ (spot ended) (g.O.Out.device c.args.out) (g.O.Out.device last)
    walked.1 c.in_ok-machine.ensures.made refl refl refl all c.in_ok-check_total.ensures.all
    c.in_ok-out.ensures.text end)
    c.put_end.ensures.text

pub returns-in_err-walk-clause-refused : goal.returns-in_err-walk-clause-refused
returns-in_err-walk-clause-refused g c =
    let p = err_from_is_err_and c.from_residual-in_err-walk.result c.from_residual-in_err-walk.ensures.1 in
    let cores = c.cores-cores.ensures.count in
    rw (p.1, p.2)
    (not_told_of (λ (r : Reasoning g.row.T.Denot g.row.O.Denot). r.machine) (λ a steps b h. h.3.step.same.cores)
    c.args.stretch _ _ _ (sym cores) (cores ∙ c.in_ok-machine.ensures.cores) c.in_err-walk.ensures.refused)
