use Rattle.std.proofs.Common.{◌≡◌, ℕ, List, ◌++◌, Option, ap, ◌∙◌, subst}
use Rattle.std.specs.Io.KnownBytes.{Appends}
use Rattle.text_out.specs.Writing.{Device}
use Rattle.elide_device.specs.Gathering.{told}
use Rattle.elide_setup.specs.Shown.{shown_text}
use Rattle.tm_core.specs.Theorem.{ShownMachine as Machine}
use Rattle.elide_device.specs.declared.gathered.Gathered.{Gathered}
use Rattle.elide_replay.specs.Told.{agreement_object, agreement_text}
use Rattle.elide_replay.specs.declared.agreement.Agreement.{Agreement}
use Rattle.elide_replay.specs.declared.agreement.Agreement.TheVariants.{Agrees}
use Rattle.elide_why.proofs.Passing.{both_passed_on}
use Rattle.std.proofs.lemmas.Result.{err_from_is_err_and}
use Rattle.elide_replay.proofs.Refusing.{of_telling}
use Rattle.elide_replay.proofs.once_more.compare.Goals as goal

pub returns-clause-told : goal.returns-clause-told
returns-clause-told g c =
    let held : Gathered g.row.O.Denot → Device = λ m. record {
      contents = told (g.O.Out.device m.out).contents (g.O.Out.device m.before.value).contents m.failures m.row.items;
      failures = m.failures;
    } in
    let begun = c.new-page.result in
    let page = c.in_ok-page.page in
    let above = c.in_ok-page.ensures.told in
    let memory = c.in_ok-memory.memory in
    let is = c.in_ok-memory.ensures in
    let agrees : c.in_ok-agreement.agreement ≡ Agrees =
    c.in_ok-agreement.ensures.agrees.1 c.in_ok-serial.ensures.serial in
    let page-end : Option (List ℕ) = (held c.tell_asked.new.out).contents in
    let last : Option (List ℕ) = (g.O.Out.device c.in_ok-out.out).contents in
    let passed :
    (text : List ℕ) → Appends (held page).contents page-end text
    → Appends (g.O.Out.device c.args.out).contents last (above.0 ++ text) =
    λ text told. both_passed_on (g.O.Out.device c.args.out).contents (held begun).contents (held page).contents page-end
    last above.0 text
    c.new-page.ensures.kept above.2.bytes told c.in_ok-out.ensures.kept in
    let machine = c.args.rerun.board.now.machine in
    record {
      law = c.is_run.ensures;
      lines = above.0;
      unexplained = above.1;
      memory = memory;
      shown = record {
        bytes = is.bytes ∙ c.view.ensures ∙ ap (λ (m : Machine). m.memory) c.machine.ensures;
        dumps = is.dumps;
        sums = is.sums ∙ c.as_slice-sums.ensures.value;
        values = is.values;
        whole = is.whole;
      };
      wrote = λ no. passed _ (subst (λ (a : Agreement). Appends (held page).contents page-end
          (shown_text machine memory ++ agreement_text a)) agrees
          (c.in_ok-agreement.ensures.lines no).bytes);
      object = λ is plain. subst (λ (lines : List ℕ). Appends (g.O.Out.device c.args.out).contents last
          (lines ++ agreement_object machine c.args.rerun.setup.now c.args.rerun.options.now Agrees)) (above.1 plain)
          (passed _ (subst (λ (a : Agreement). Appends (held page).contents page-end
          (agreement_object machine c.args.rerun.setup.now c.args.rerun.options.now a)) agrees
          (c.in_ok-agreement.ensures.object is).bytes));
    }

pub returns-in_err-agreement-clause-refused : goal.returns-in_err-agreement-clause-refused
returns-in_err-agreement-clause-refused g c =
    let p = err_from_is_err_and c.from_residual-in_err-agreement.result c.from_residual-in_err-agreement.ensures.1 in
    rw (p.1, p.2)
    (of_telling c.args.rerun.setup.now c.args.rerun.board.now c.args.rerun.path c.in_err-agreement.field-0.0
    c.in_err-agreement.ensures.unsent)
