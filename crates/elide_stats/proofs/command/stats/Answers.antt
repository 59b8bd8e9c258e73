use Rattle.std.proofs.Common.{◌≡◌, ◌∙◌, ℕ, Bool, List, Option, ap, inl, inr, subst}
use Rattle.std.proofs.lemmas.Result.{IfErr-weaker, err_from_is_err_and, on_ok_weaker}
use Rattle.std.specs.Borrow.{Bor}
use Rattle.elide_setup.proofs.Made.{of_plan}
use Rattle.elide_program.specs.ProgramFile.{IsRead}
use Rattle.elide_program.specs.declared.file.ProgramFile.{ProgramFile}
use Rattle.elide_setup.specs.Made.{HasRun, HasRunPlan}
use Rattle.elide_setup.specs.Refused.{misplanned, misread, no_setup}
use Rattle.elide_setup.specs.Schedules.{AreAsked, form_asked}
use Rattle.elide_stats.specs.Refused.{IsNotCounted, IsRefused, unscheduled}
use Rattle.elide_stats.proofs.command.stats.Goals as goal

pub returns-clause-ran : goal.returns-clause-ran
returns-clause-ran g c =
    let content = g.P.Paths.content c.args.paths.now in
    let next = g.P.Paths.content c.record_path.new.paths in
    let left = g.P.Paths.content c.stats_of_path.new.paths in
    let options = c.args.options.now in
    let Runs : Option (Bor (List ℕ)) → Type 0 = λ path. HasRun content left options.machine options.schedule path in
    on_ok_weaker c.stats_of_path.result
    (λ (made : (file : ProgramFile) × (given : List ℕ → Option (List ℕ)) × IsRead (next options.machine.file.now) file
    × ((other : List ℕ) → given other ≡ next other)
    × HasRunPlan given left file c.in_ok-settings.settings c.in_ok-plan.plan c.in_ok-path.path).
    subst Runs c.in_ok-path.ensures.given
    (of_plan content made.1 left options.machine options.schedule c.in_ok-path.path made.0 c.in_ok-settings.settings
    c.in_ok-plan.plan
    (λ other. made.3 other ∙ c.record_path.ensures.kept other)
    (subst (λ (held : Option (List ℕ)). IsRead held made.0)
    (c.record_path.ensures.kept options.machine.file.now) made.2)
    c.in_ok-settings.ensures.settings
    (λ picks are. subst (λ (drains : Bool). AreAsked drains content options.schedule picks) c.has_store_buffer.ensures
    (c.in_ok-plan.ensures.steps content picks are))
    (c.in_ok-plan.ensures.listed
    ∙ ap (λ (drains : Bool). form_asked drains options.schedule) c.has_store_buffer.ensures) made.4))
    c.stats_of_path.ensures.ran

pub stats_of_path-requires : goal.stats_of_path-requires
stats_of_path-requires g c = record {
  settings = c.in_ok-settings.ensures.settings;
  planned = λ content picks are.
      subst (λ (drains : Bool). AreAsked drains content c.args.options.now.schedule picks) c.has_store_buffer.ensures
      (c.in_ok-plan.ensures.steps content picks are);
  named = c.in_ok-plan.ensures.path;
  recorded = c.in_ok-path.ensures.given;
}

pub returns-clause-refused : goal.returns-clause-refused
returns-clause-refused g c =
    let content : List ℕ → Option (List ℕ) = g.P.Paths.content c.args.paths.now in
    let options = c.args.options.now in
    IfErr-weaker c.stats_of_path.result (IsNotCounted content options)
    (IsRefused content (g.P.Paths.are_one c.args.paths.now) options)
    (λ why h. inr h) (c.stats_of_path.ensures.refused content c.record_path.ensures.kept)

pub returns-in_err-path-clause-refused : goal.returns-in_err-path-clause-refused
returns-in_err-path-clause-refused g c =
    let p = err_from_is_err_and c.from_residual.result c.from_residual.ensures.1 in
    rw (p.1, p.2) (inl c.in_err-path.ensures.over)

pub returns-in_err-settings-clause-refused : goal.returns-in_err-settings-clause-refused
returns-in_err-settings-clause-refused g c =
    let p = err_from_is_err_and c.from_residual-in_err-settings.result c.from_residual-in_err-settings.ensures.1 in
    rw p.1 (inr (unscheduled (no_setup c.in_err-settings.field-0.0 (misread c.in_err-settings.ensures.misread) p.2)))

pub returns-in_err-plan-clause-refused : goal.returns-in_err-plan-clause-refused
returns-in_err-plan-clause-refused g c =
    let p = err_from_is_err_and c.from_residual-in_err-plan.result c.from_residual-in_err-plan.ensures.1 in
    rw (p.1, p.2) (inr (unscheduled (misplanned c.in_err-plan.ensures.none)))
