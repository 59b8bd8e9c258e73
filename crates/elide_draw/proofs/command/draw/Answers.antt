use Rattle.std.proofs.Common.{◌≡◌, ◌∙◌, ℕ, Bool, List, Option, subst, sym}
use Rattle.std.proofs.lemmas.Result.{on_ok_weaker}
use Rattle.std.specs.Borrow.{Bor}
use Rattle.elide_setup.proofs.Made.{of_plan}
use Rattle.elide_program.specs.ProgramFile.{IsRead}
use Rattle.elide_program.specs.Settings.{AreSettings}
use Rattle.elide_program.specs.declared.file.ProgramFile.{ProgramFile}
use Rattle.elide_program.specs.declared.settings.Settings.{Settings}
use Rattle.elide_setup.specs.Made.{HasRun, HasRunPlan}
use Rattle.elide_setup.specs.Schedules.{AreAsked, form_asked, plan_form}
use Rattle.elide_draw.proofs.command.draw.Goals as goal

pub returns-in-Ok : goal.returns-in-Ok
returns-in-Ok g c =
    let content = g.P.Paths.content c.args.paths.now in
    let next = g.P.Paths.content c.record_path.new.paths in
    let left = g.P.Paths.content c.draw_plan.new.paths in
    let options = c.args.options.now in
    let asked = c.in-Ok.asked in
    let said : AreSettings options.machine asked.settings =
    subst (λ (settings : Settings). AreSettings options.machine settings) (sym c.in-Ok.ensures.settings)
    c.in_ok-settings.ensures.settings in
    let Runs : Option (Bor (List ℕ)) → Type 0 = λ path. HasRun content left options.machine options.schedule path in
    on_ok_weaker c.draw_plan.result
    (λ (made : (file : ProgramFile) × (given : List ℕ → Option (List ℕ)) × IsRead (next asked.file.now) file
    × ((other : List ℕ) → given other ≡ next other)
    × HasRunPlan given left file asked.settings c.in_ok-plan.plan asked.path).
    subst Runs (c.in-Ok.ensures.path ∙ c.in_ok-path.ensures.given)
    (of_plan content made.1 left options.machine options.schedule asked.path made.0 asked.settings
    c.in_ok-plan.plan
    (λ other. made.3 other ∙ c.record_path.ensures.kept other)
    (subst (λ (held : Option (List ℕ)). IsRead held made.0) (c.record_path.ensures.kept options.machine.file.now)
    (subst (λ (file : Bor (List ℕ)). IsRead (next file.now) made.0) c.in-Ok.ensures.file made.2))
    said
    (λ picks are. subst (λ (drains : Bool). AreAsked drains content options.schedule picks)
    c.has_store_buffer-drains.ensures (c.in_ok-plan.ensures.steps content picks are))
    (subst (λ (drains : Bool). plan_form c.in_ok-plan.plan ≡ form_asked drains options.schedule)
    c.has_store_buffer-drains.ensures c.in_ok-plan.ensures.listed) made.4))
    c.draw_plan.ensures
