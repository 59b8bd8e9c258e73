use Rattle.std.proofs.Common.{◌∙◌, List, [], ap, length, subst, sym}
use Rattle.std.proofs.lemmas.Result.{IfOk-weaker, err_from_is_err_and}
use Rattle.std.specs.Prelude.{codes}
use Rattle.text_out.specs.Writing.{Wrote}
use Rattle.elide_setup.specs.Runs.{IsRunOf}
use Rattle.tm_core.specs.Theorem.{ShownMachine as Machine}
use Rattle.page_run.proofs.Refusing.{not_told_of}
use Rattle.page_telling.proofs.Knowing.{IsKnown, known_first}
use Rattle.page_telling.proofs.Lines.{HasTold, all_tell, has_told, lines_written}
use Rattle.page_telling.specs.Telling.{Spot}
use Rattle.page_telling.specs.Told.{AreLinesWritten}
use Rattle.page_telling.specs.declared.kept.KeptByte.{KeptByte}
use Rattle.page_telling.specs.declared.telling.Telling.{Telling}
use Rattle.page_telling.proofs.telling.write_steps.Goals as goal

pub returns-clause-written : goal.returns-clause-written
returns-clause-written g c =
    let spot : Telling g.row.O.Denot → Spot = λ t. record {
      machine = t.machine;
      kept = t.behind.kept.bytes.items;
      window = t.window;
      made = t.made;
      device = g.O.Out.device t.out;
    } in
    let stretch = c.args.stretch in
    let program = stretch.setup.now.program in
    let limits = stretch.setup.now.limits in
    let machine : Machine = c.in_ok-machine.machine in
    let opened = c.open_first.new.self in
    let ended = c.walk.new.maker in
    let walked = c.in_ok-walk.ensures.walked in
    let known : IsKnown opened.machine opened.behind.kept.bytes.items =
    subst (λ (kept : List KeptByte). IsKnown opened.machine kept)
    (sym (c.open_first.ensures.kept ∙ c.in_ok-behind.ensures.kept))
    (subst (λ (m : Machine). IsKnown m []) (sym c.open_first.ensures.machine)
    (known_first program limits machine c.in_ok-machine.ensures.made)) in
    let opens : IsRunOf program limits [] opened.machine =
    subst (λ (m : Machine). IsRunOf program limits [] m) (sym c.open_first.ensures.machine)
    c.in_ok-machine.ensures.made in
    let all : HasTold (spot opened) walked.0 (spot ended) =
    has_told (spot opened) walked.0 (spot ended) known
    (all_tell spot (λ a steps b h. h) walked.0 opened ended walked.2) in
    IfOk-weaker c.put_end.result
    (λ (last : g.row.O.Denot). Wrote (g.O.Out.device ended.out) (g.O.Out.device last) (codes "]"))
    (λ (last : g.row.O.Denot). AreLinesWritten stretch (g.O.Out.device c.args.out) (g.O.Out.device last))
    (λ last end. lines_written stretch walked.0 (spot opened) (spot ended) (g.O.Out.device c.args.out)
    (g.O.Out.device last) walked.1 opens
    c.open_first.ensures.made c.open_first.ensures.window c.in_ok-open_first.ensures.text all
    c.in_ok-check_made.ensures.all c.in_ok-check_made.ensures.reached end)
    c.put_end.ensures.text

pub returns-in_err-walk-clause-refused : goal.returns-in_err-walk-clause-refused
returns-in_err-walk-clause-refused g c =
    let p = err_from_is_err_and c.from_residual-in_err-walk.result c.from_residual-in_err-walk.ensures.1 in
    let cores = c.cores-cores.ensures.count in
    let same = ap (λ (m : Machine). length m.views) c.open_first.ensures.machine ∙ sym cores in
    rw (p.1, p.2)
    (not_told_of (λ (t : Telling g.row.O.Denot). t.machine) (λ a steps b h. h.2.cores) c.args.stretch _ _ _ same
    (cores ∙ c.in_ok-machine.ensures.cores) c.in_err-walk.ensures.refused)
