use Rattle.std.proofs.Common.{◌≡◌, ◌<◌, ◌≤◌, ◌∙◌, ℕ, List, [], ◌∷◌, ◌++◌, Option, Some, length}
use Rattle.std.proofs.Common.{arith, refl, subst, sym}
use Rattle.std.proofs.lemmas.Result.{err_from_is_err_and}
use Rattle.std.specs.Prelude.{IfSome, slice_get}
use Rattle.elide_setup.specs.Schedules.{picks_made}
use Rattle.tm_model.specs.Runs.{picks_of}
use Rattle.tm_model.specs.declared.outcome.Outcome.{Outcome}
use Rattle.tm_model.specs.declared.outcome.Pick.{Pick}
use Rattle.elide_setup.proofs.Histories.{next_at, picks_all, picks_more}
use Rattle.elide_setup.proofs.Walks.{leads_more}
use Rattle.elide_setup.proofs.history.walk_made.Goals as goal

pub loop-index-init : goal.loop-index-init
loop-index-init g c = ([], refl, ([], refl, refl))

pub loop-index-preserved : goal.loop-index-preserved
loop-index-preserved g c =
    let made = c.loop-index.invariant in
    let index = c.loop-index.index in
    let pick : Pick = c.unwrap.result in
    let others : List (Pick × Outcome) = (pick, c.in_ok-make_step.field-0) ∷ [] in
    let there : slice_get (picks_of c.args.board.now.history) index ≡ Some pick =
    sym c.pick_at.ensures.pick ∙ c.unwrap.ensures in (
      made.0 ++ others,
      picks_more (picks_of c.args.board.now.history) index pick c.in_ok-make_step.field-0 made.0 there made.1,
      leads_more g.S.StepMaker.takes made.0 others c.args.maker.now c.loop-index.maker c.make_step.new.self made.2
          c.in_ok-make_step.ensures.made,
    )

pub returns-clause-walked : goal.returns-clause-walked
returns-clause-walked g c =
    let made = c.loop-index.invariant in
    let history : List (ℕ × Outcome) = c.args.board.now.history in
    let all : length history ≤ c.loop-index.index = omega (arith, c.made-steps.ensures.made, c.loop-index-test.false) in
    (made.0, picks_all history c.loop-index.index (picks_made made.0) all made.1, made.2)

pub returns-in_err-make_step-clause-refused : goal.returns-in_err-make_step-clause-refused
returns-in_err-make_step-clause-refused g c =
    let made = c.loop-index.invariant in
    let index = c.loop-index.index in
    let picks : List Pick = picks_of c.args.board.now.history in
    let pick : Pick = c.unwrap.result in
    let entries : ℕ = length c.args.board.now.program.entries in
    let there : slice_get picks index ≡ Some pick = sym c.pick_at.ensures.pick ∙ c.unwrap.ensures in
    let within : pick.core < entries =
    subst (λ (found : Option Pick). IfSome found (λ one. one.core < entries)) c.unwrap.ensures
    c.pick_at.ensures.exists in
    let p = err_from_is_err_and c.from_residual.result c.from_residual.ensures.1 in
    rw (p.1, p.2)
    (record {
      made = made.0;
      after = c.loop-index.maker;
      lead = made.2;
      pick = pick;
      due = record { next = next_at picks index pick made.0 there made.1; core = within };
      refused = c.in_err-make_step.ensures.refused;
    })
