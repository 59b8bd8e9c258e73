use Rattle.std.proofs.Common.{List, Option, subst, ℕ}
use Rattle.std.proofs.lemmas.Result.{err_from_is_err_and}
use Rattle.elide_program.specs.Faults.{unread}
use Rattle.elide_program.specs.Files.{Gives, Tells, most_bytes}
use Rattle.tm_outcomes.specs.declared.table.FoundOutcome.{FoundOutcome}
use Rattle.elide_outcomes.specs.Refused.{IsNotFound, IsNotShown, misread, not_found, not_paged, not_read, unwritten}
use Rattle.elide_outcomes.proofs.Refusing.{err_weaker}
use Rattle.elide_outcomes.proofs.Trials.{searched_by}
use Rattle.elide_outcomes.proofs.command.outcomes_with_stops.Goals as goal

pub returns-clause-ok : goal.returns-clause-ok
returns-clause-ok g c =
    let options = c.args.request.options.now in
    record {
      found = c.in_ok-found.found;
      searched = searched_by (g.P.Paths.content c.args.paths.now) options c.in_ok-settings.settings c.in_ok-under.under
          c.args.request.stops.now c.in_ok-most.most c.in_ok-text.text.items c.as_slice.result.now c.in_ok-found.found
          (subst (λ (known : Option (List ℕ)). Gives known most_bytes c.in_ok-text.text.items)
          (c.read-3.ensures.kept options.machine.file.now) c.in_ok-text.ensures.given)
          c.as_slice.ensures.value c.in_ok-settings.ensures.settings c.in_ok-under.ensures.ok c.requires
          c.in_ok-most.ensures.ok c.in_ok-found.ensures;
      came_to = c.of-answer.ensures;
      wrote = c.in_ok-write.ensures.ok;
    }

-- ---- why it is refused

pub returns-in_err-settings-clause-err : goal.returns-in_err-settings-clause-err
returns-in_err-settings-clause-err g c =
    let p = err_from_is_err_and c.from_residual.result c.from_residual.ensures.1 in
    rw p.1 (misread c.in_err-settings.field-0.0 c.in_err-settings.ensures.misread p.2)

pub returns-in_err-text-clause-err : goal.returns-in_err-text-clause-err
returns-in_err-text-clause-err g c =
    let r = c.from_residual-in_err-text in
    let p = err_from_is_err_and r.result r.ensures.1 in
    let file = c.args.request.options.now.machine.file.now in
    rw p.1
    (not_read c.in_err-text.field-0.0 (subst (λ (known : Option (List ℕ)). Tells unread known c.in_err-text.field-0.0)
    (c.read-3.ensures.kept file) c.in_err-text.ensures.given) p.2)

pub returns-in_err-found-clause-err : goal.returns-in_err-found-clause-err
returns-in_err-found-clause-err g c =
    let r = c.from_residual-in_err-found in
    let p = err_from_is_err_and r.result r.ensures.1 in
    let options = c.args.request.options.now in
    let settings = c.in_ok-settings.settings in
    let under = c.in_ok-under.under in
    let stops = c.args.request.stops.now in
    rw (p.1, p.2) (not_found c.in_ok-text.text.items settings under stops
    (subst (λ (known : Option (List ℕ)). Gives known most_bytes c.in_ok-text.text.items)
    (c.read-3.ensures.kept options.machine.file.now) c.in_ok-text.ensures.given)
    c.in_ok-settings.ensures.settings c.in_ok-under.ensures.ok c.requires
    (subst (λ (text : List ℕ). IsNotFound text settings options under stops c.in_err-found.field-0.0)
    c.as_slice.ensures.value
    c.in_err-found.ensures))

pub returns-in_err-write-clause-err : goal.returns-in_err-write-clause-err
returns-in_err-write-clause-err g c =
    let r = c.from_residual-in_err-write in
    let p = err_from_is_err_and r.result r.ensures.1 in
    rw (p.1, p.2) (unwritten c.in_err-write.ensures.err)

pub returns-clause-page : goal.returns-clause-page
returns-clause-page g c =
    let options = c.args.request.options.now in
    err_weaker c.write-paged.result _ _
    (λ why h. not_paged (record {
      page = c.in_ok-page.page;
      said = c.in_ok-page.ensures.ok;
      found = c.in_ok-found.found;
      searched = searched_by (g.P.Paths.content c.args.paths.now) options c.in_ok-settings.settings c.in_ok-under.under
          c.args.request.stops.now c.in_ok-most.most c.in_ok-text.text.items c.as_slice.result.now c.in_ok-found.found
          (subst (λ (known : Option (List ℕ)). Gives known most_bytes c.in_ok-text.text.items)
          (c.read-3.ensures.kept options.machine.file.now) c.in_ok-text.ensures.given)
          c.as_slice.ensures.value c.in_ok-settings.ensures.settings c.in_ok-under.ensures.ok c.requires
          c.in_ok-most.ensures.ok c.in_ok-found.ensures;
      refused =
          subst (λ (text : List ℕ). IsNotShown text options.machine c.in_ok-found.found.search.outcomes.items
          c.in_ok-page.page why)
          c.as_slice-2.ensures.value
          (subst
          (λ (told : List FoundOutcome). IsNotShown c.as_slice-2.result.now options.machine told c.in_ok-page.page why)
          c.as_slice-told.ensures.value h);
    })) c.write-paged.ensures
