use Rattle.std.proofs.Common.{◌≡◌, ℕ, List, Option, None, ap, ◌∙◌, subst, arith}
use Rattle.ia_regs.specs.declared.Regs.{Regs}
use Rattle.tm_core.specs.Theorem.{view_at}
use Rattle.tm_model.specs.Access.{loaded_addresses}
use Rattle.tm_model.specs.Explained.{IsReachTold, addresses_stored_at}
use Rattle.tm_model.specs.Owed.{owed_outcome}
use Rattle.tm_model.specs.Setting.{Setting}
use Rattle.tm_model.specs.State.{Closed, Core, seen_by}
use Rattle.tm_outcomes.specs.Outcomes.{trial_setting}
use Rattle.tm_outcomes.specs.Unseen.{are_none}
use Rattle.tm_outcomes.proofs.Leads.{shows}
use Rattle.tm_outcomes.proofs.Resting.{closed_shown}
use Rattle.tm_outcomes.proofs.place.Place.stores_nothing.Goals as goal

pub returns : goal.returns
returns c = λ now stands.
    let machine = c.args.self.now.machine in
    let core = c.args.core in
    let seen : List ℕ = seen_by now.state core in
    let setting : Setting = trial_setting c.args.trial.now in
    let base : Regs = (view_at machine core).base in
    let closed = closed_shown setting seen (now.state.cores core) (now.doomed core) (view_at machine core)
    (shows machine setting now c.requires.place.rules stands core
    (let count = c.requires.place.count in let is_core = c.requires.core in omega arith))
    c.requires.running in
    let told : IsReachTold setting seen (now.state.cores core) (now.doomed core) c.in-Ok.preview.reach =
    subst (λ (s : Setting). IsReachTold s seen (now.state.cores core) (now.doomed core) c.in-Ok.preview.reach)
    c.requires.place.rules
    (c.in-Ok.ensures.reach now.state now.doomed stands) in
    let stores : loaded_addresses c.in-Ok.preview.reach.store
    ≡ addresses_stored_at setting seen (Closed base)
    (owed_outcome setting seen (Closed base) None) =
    told.stores
    ∙ (ap (λ (x : Core). addresses_stored_at setting seen x
    (owed_outcome setting seen x (now.doomed core))) closed.0
    ∙ ap (λ (d : Option ℕ). addresses_stored_at setting seen (Closed base)
    (owed_outcome setting seen (Closed base) d)) closed.1) in
    c.is_absent.ensures ∙ ap are_none stores
