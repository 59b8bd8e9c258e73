use Rattle.std.proofs.Common.{ℕ, List, ◌++◌, subst, sym}
use Rattle.std.specs.Io.KnownBytes.{Appends}
use Rattle.text_out.specs.Writing.{Device}
use Rattle.elide_device.specs.Gathering.{told}
use Rattle.elide_setup.specs.Shown.{shown_text}
use Rattle.elide_device.specs.declared.gathered.Gathered.{Gathered}
use Rattle.elide_why.proofs.Passing.{both_passed_on}
use Rattle.std.proofs.lemmas.Result.{err_from_is_err_and}
use Rattle.elide_threads.proofs.Refusing.{of_counts}
use Rattle.elide_threads.specs.Printed.{board_object}
use Rattle.elide_threads.proofs.workers.tell_run.Goals.{then-options+in_ok-tell_counts, else-options+in_ok-tell_asked}
use Rattle.elide_threads.proofs.workers.tell_run.Goals as goal

pub returns-clause-told : goal.returns-clause-told
returns-clause-told g c =
    let held : Gathered g.row.O.Denot → Device = λ m. record {
      contents = told (g.O.Out.device m.out).contents (g.O.Out.device m.before.value).contents m.failures m.row.items;
      failures = m.failures;
    } in
    let begun = c.new-page.result in
    let page = c.in_ok-page.page in
    let last = c.if-options.page in
    let above = c.in_ok-page.ensures.told in
    let passed : (text : List ℕ) → Appends (held page).contents (held last).contents text →
    Appends (g.O.Out.device c.args.out).contents (g.O.Out.device c.in_ok-finish.field-0).contents (above.0 ++ text) =
    λ text told. both_passed_on (g.O.Out.device c.args.out).contents (held begun).contents (held page).contents
    (held last).contents
    (g.O.Out.device c.in_ok-finish.field-0).contents above.0 text c.new-page.ensures.kept above.2.bytes told
    c.in_ok-finish.ensures.kept in
    record {
      lines = above.0;
      unexplained = above.1;
      state = λ e no. elim c.if-options.branch [
        | then-options+in_ok-tell_counts w ↦ let counts = w.if-options.true in cc
        | else-options+in_ok-tell_asked w ↦
            let t = w.in_ok-tell_asked.ensures.lines no in (
              t.0,
              t.1,
              passed (shown_text c.args.board.now.machine t.0)
                  (subst (λ (m : Gathered g.row.O.Denot). Appends (held page).contents (held m).contents
                  (shown_text c.args.board.now.machine t.0)) (sym w.page-is) t.2.bytes),
            )
      ];
      object = λ e is plain. elim c.if-options.branch [
        | then-options+in_ok-tell_counts w ↦ let counts = w.if-options.true in cc
        | else-options+in_ok-tell_asked w ↦
            let text = board_object c.args.board.now c.args.loaded.now.setup c.args.options.now in
            subst (λ (lines : List ℕ). Appends (g.O.Out.device c.args.out).contents
            (g.O.Out.device c.in_ok-finish.field-0).contents (lines ++ text)) (above.1 plain)
            (passed text
            (subst (λ (m : Gathered g.row.O.Denot). Appends (held page).contents (held m).contents text) (sym w.page-is)
            (w.in_ok-tell_asked.ensures.object is).bytes))
      ];
    }

pub returns-in_err-tell_counts-clause-refused : goal.returns-in_err-tell_counts-clause-refused
returns-in_err-tell_counts-clause-refused g c =
    let p =
    err_from_is_err_and c.from_residual-in_err-tell_counts.result c.from_residual-in_err-tell_counts.ensures.1 in
    rw (p.1, p.2)
    (of_counts c.args.loaded.now.setup c.args.board.now c.in_err-tell_counts.field-0.0 c.in_err-tell_counts.ensures)
