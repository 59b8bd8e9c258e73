use Rattle.std.proofs.Common.{◌∙◌, ℕ, List, Option, refl, subst, sym}
use Rattle.std.proofs.lemmas.Result.{err_from_is_err_and}
use Rattle.std.specs.Borrow.{Bor}
use Rattle.std.specs.Prelude.{IfSome}
use Rattle.elide_program.specs.Files.{Gives, most_bytes}
use Rattle.elide_setup.specs.Recorded.{IsRecorded}
use Rattle.elide_setup.specs.Refused.{HasNoProgram, IsNotPaged, no_setup, not_read}
use Rattle.tm_schedule.specs.Schedule.{schedule_text}
use Rattle.tm_hunt.specs.Deciding.{deciding}
use Rattle.elide_hunt.proofs.Hunted.{searched_by}
use Rattle.elide_hunt.specs.Refused.{misordered, not_told, unpaged, without_program}
use Rattle.elide_hunt.proofs.command.hunt.Goals as goal

pub returns-clause-printed : goal.returns-clause-printed
returns-clause-printed g c =
    let content : List ℕ → Option (List ℕ) = g.P.Paths.content c.args.paths.now in
    let left : List ℕ → Option (List ℕ) = g.P.Paths.content c.write_record.new.paths in
    let options = c.args.options.now in
    let bytes : List ℕ = c.in_ok-text.text.items in
    let given : Gives (content options.machine.file.now) most_bytes bytes =
    subst (λ (known : Option (List ℕ)). Gives known most_bytes bytes)
    (c.record_path.ensures.kept options.machine.file.now)
    (subst (λ (known : Option (List ℕ)). Gives known most_bytes bytes)
    (c.page_path.ensures.kept options.machine.file.now) c.in_ok-text.ensures.given) in
    let one = c.in_ok-search.search in
    let orders = c.in_ok-orders.orders in
    let beside = c.in_ok-search.beside in
    record {
      search = one;
      searched = searched_by content options c.in_ok-settings.settings orders bytes c.as_slice.result.now one beside
          given c.as_slice.ensures.value c.in_ok-settings.ensures.settings
          (record {
            runs = c.in_ok-orders.ensures.runs;
            seed = c.in_ok-orders.ensures.seed;
            method = c.in_ok-orders.ensures.method;
            events = c.in_ok-orders.ensures.events;
            most = c.in_ok-orders.ensures.most;
            jobs = c.in_ok-orders.ensures.jobs;
          })
          c.in_ok-search.ensures.hunted;
      told = c.in_ok-answer.ensures.told;
      recorded = subst (λ (path : Option (Bor (List ℕ))). IfSome one.found (λ found. IsRecorded left path
          (schedule_text (deciding found.failure)))) c.in_ok-path.ensures.given c.in_ok-write_record.ensures.written;
    }

pub returns-in_err-settings-clause-refused : goal.returns-in_err-settings-clause-refused
returns-in_err-settings-clause-refused g c =
    let p = err_from_is_err_and c.from_residual.result c.from_residual.ensures.1 in
    rw (p.1, p.2)
    (without_program
    (λ any. no_setup c.in_err-settings.field-0.0 (HasNoProgram.misread c.in_err-settings.ensures.misread) refl))

pub returns-in_err-orders-clause-refused : goal.returns-in_err-orders-clause-refused
returns-in_err-orders-clause-refused g c =
    let p = err_from_is_err_and c.from_residual-in_err-orders.result c.from_residual-in_err-orders.ensures.1 in
    rw (p.1, p.2) (misordered c.in_err-orders.ensures.err)

pub returns-in_err-text-clause-refused : goal.returns-in_err-text-clause-refused
returns-in_err-text-clause-refused g c =
    let file = c.args.options.now.machine.file.now in
    let cause = c.in_err-text.field-0.0 in
    let p = err_from_is_err_and c.from_residual-in_err-text.result c.from_residual-in_err-text.ensures.1 in
    rw (p.1, p.2)
    (without_program (λ any. no_setup cause
    (not_read
    (rw (c.record_path.ensures.kept file) at (rw (c.page_path.ensures.kept file) at c.in_err-text.ensures.given)))
    refl))

pub returns-in_err-answer-clause-refused : goal.returns-in_err-answer-clause-refused
returns-in_err-answer-clause-refused g c =
    let p = err_from_is_err_and c.from_residual-in_err-answer.result c.from_residual-in_err-answer.ensures.1 in
    rw (p.1, p.2) (not_told c.in_err-answer.ensures.refused)

pub returns-in_err-paged-clause-refused : goal.returns-in_err-paged-clause-refused
returns-in_err-paged-clause-refused g c =
    let p = err_from_is_err_and c.from_residual-in_err-paged.result c.from_residual-in_err-paged.ensures.1 in
    let content : List ℕ → Option (List ℕ) = g.P.Paths.content c.args.paths.now in
    let options = c.args.options.now in
    let bytes : List ℕ = c.in_ok-text.text.items in
    let given : Gives (content options.machine.file.now) most_bytes bytes =
    subst (λ (known : Option (List ℕ)). Gives known most_bytes bytes)
    (c.record_path.ensures.kept options.machine.file.now)
    (subst (λ (known : Option (List ℕ)). Gives known most_bytes bytes)
    (c.page_path.ensures.kept options.machine.file.now) c.in_ok-text.ensures.given) in
    let orders = c.in_ok-orders.orders in
    let paged = c.in_err-paged.ensures in
    rw (p.1, p.2)
    (unpaged (record {
      page = paged.0;
      asked = sym c.in_ok-page.ensures.given ∙ paged.2;
      search = c.in_ok-search.search;
      searched = searched_by content options c.in_ok-settings.settings orders bytes c.as_slice.result.now
          c.in_ok-search.search c.in_ok-search.beside given c.as_slice.ensures.value c.in_ok-settings.ensures.settings
          (record {
            runs = c.in_ok-orders.ensures.runs;
            seed = c.in_ok-orders.ensures.seed;
            method = c.in_ok-orders.ensures.method;
            events = c.in_ok-orders.ensures.events;
            most = c.in_ok-orders.ensures.most;
            jobs = c.in_ok-orders.ensures.jobs;
          })
          c.in_ok-search.ensures.hunted;
      found = paged.1;
      failed = paged.3;
      refused =
          subst (λ (text : List ℕ). IsNotPaged text options.machine (deciding paged.1.failure) c.in_err-paged.field-0.0)
          c.as_slice-2.ensures.value paged.4;
    }))
