use Rattle.std.proofs.Common.{List, ◌++◌, ◌∙◌, ap, subst}
use Rattle.std.specs.List.{flat_map}
use Rattle.std.specs.Prelude.{OnOk}
use Rattle.text_out.specs.Writing.{Wrote}
use Rattle.tm_hunt.specs.Deciding.{deciding}
use Rattle.tm_model.specs.declared.outcome.Pick.{Pick}
use Rattle.elide_hunt.specs.Cycles.{cycle_text}
use Rattle.elide_hunt.specs.Lates.{late_line}
use Rattle.elide_hunt.specs.Lines.{check_text, counts_line, counts_of, told_line}
use Rattle.elide_hunt.specs.declared.late.Late.{Late}
use Rattle.elide_hunt.specs.declared.report.Counts.{Counts}
use Rattle.elide_shell.proofs.Texts.{then_on_ok}
use Rattle.elide_hunt.proofs.report.tell_failure.Goals as goal

pub returns : goal.returns
returns g c =
    let options = c.args.options.now in
    let found = c.args.found.now in
    let picks = found.failure.picks.items in
    let front = found.failure.front in
    let beside = c.args.beside.now in
    let device = g.O.Out.device in
    let r = c.put_line.result in
    let counts = subst
    (λ (after : Counts). Wrote (device c.put_check.new.out) (device c.put_counts.new.out)
    (counts_line beside.before after front))
    (c.counts_of.ensures ∙ ap counts_of c.as_slice.ensures.value) c.in_ok-put_counts.ensures in
    let command = subst
    (λ (l : List Pick). OnOk r (Wrote (device c.put_lates.new.out) (device c.put_line.new.out)
    (told_line options found.run l)))
    c.deciding.ensures c.put_line.ensures in
    let round = subst (λ (l : List Pick). Wrote (device c.put_counts.new.out) (device c.put_cycle.new.out)
    (cycle_text l beside.cycle)) c.as_slice-2.ensures.value c.in_ok-put_cycle.ensures in
    let lates = subst (λ (l : List Late). Wrote (device c.put_cycle.new.out) (device c.put_lates.new.out)
    (flat_map late_line l)) c.as_slice-3.ensures.value c.in_ok-put_lates.ensures in
    let line = told_line options found.run (deciding found.failure) in
    let late = flat_map late_line beside.lates.items ++ line in
    let behind = cycle_text picks beside.cycle ++ late in
    let last = counts_line beside.before (counts_of picks) front ++ behind in
    then_on_ok _ (check_text options found.failure.check ++ last) r c.in_ok-put_run.ensures
    (then_on_ok _ last r c.in_ok-put_check.ensures (then_on_ok _ behind r counts
    (then_on_ok _ late r round (then_on_ok _ line r lates command))))
