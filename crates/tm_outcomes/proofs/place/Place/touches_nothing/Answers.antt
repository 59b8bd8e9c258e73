use Rattle.std.proofs.Common.{◌≡◌, Bool, true, false, ℕ, sym, ◌∙◌, subst}
use Rattle.ia_regs.specs.declared.Regs.{Regs}
use Rattle.tm_core.specs.Buffering.{TellsAhead}
use Rattle.tm_core.specs.Theorem.{view_at}
use Rattle.tm_core.specs.declared.buffering.Buffering.{Buffering}
use Rattle.tm_core.specs.declared.buffering.Buffering.TheVariants as buffering
use Rattle.tm_model.specs.Setting.{program_setting}
use Rattle.tm_outcomes.specs.Outcomes.{trial_setting}
use Rattle.tm_outcomes.specs.Unseen.{are_none}
use Rattle.tm_outcomes.specs.declared.trial.Trial.{Trial}
use Rattle.tm_outcomes.proofs.Buffers.{goes_touches, loads_touches, pends_touches, told_ahead}
use Rattle.tm_outcomes.proofs.Buffers.{waits_touches}
use Rattle.tm_outcomes.proofs.place.Place.touches_nothing.Goals as goal

-- what was asked of the registers
loads_at : (trial : Trial) (regs base : Regs) (asked told : Bool) → base ≡ regs →
    ((reads writes stores : ℕ) →
    asked ≡ are_none ((program_setting trial.program.now reads writes stores).load_of regs)) → asked ≡ told →
    are_none ((trial_setting trial).load_of base) ≡ told
loads_at trial regs base asked told same is e =
    subst (λ (r : Regs). are_none ((trial_setting trial).load_of r) ≡ told) (sym same)
    (sym (is trial.limits.read_lines trial.limits.write_lines trial.limits.stores) ∙ e)

pub returns-then-not-loads_nothing : goal.returns-then-not-loads_nothing
returns-then-not-loads_nothing c = λ now stands.
    let trial = c.args.trial.now in
    let base : Regs = (view_at c.args.self.now.machine c.args.core).base in
    loads_touches (trial_setting trial) now.state.memory (now.state.pending c.args.core) base
    (loads_at trial c.in-Ok.regs base c.loads_nothing.result false (sym c.in-Ok.ensures.shown) c.loads_nothing.ensures
    c.if-not-loads_nothing.true)

pub returns-in-Waits : goal.returns-in-Waits
returns-in-Waits c = λ now stands.
    let trial = c.args.trial.now in
    let place = c.args.self.now in
    let core : ℕ = c.args.core in
    let base : Regs = (view_at place.machine core).base in
    let told = told_ahead trial place core (buffering.Waits c.in-Waits._wait) c.requires.place c.requires.core
    c.requires.running
    (subst (λ (b : Buffering). TellsAhead place.machine core b) c.in-Waits.is c.in-Ok-ahead.ensures.told) now stands in
    waits_touches (trial_setting trial) now.state.memory (now.state.pending core) base
    (loads_at trial c.in-Ok.regs base c.loads_nothing.result true (sym c.in-Ok.ensures.shown) c.loads_nothing.ensures
    c.if-not-loads_nothing.false) told.waits

pub returns-in-Pends : goal.returns-in-Pends
returns-in-Pends c = λ now stands.
    let trial = c.args.trial.now in
    let place = c.args.self.now in
    let core : ℕ = c.args.core in
    let base : Regs = (view_at place.machine core).base in
    let told = told_ahead trial place core buffering.Pends c.requires.place c.requires.core c.requires.running
    (subst (λ (b : Buffering). TellsAhead place.machine core b) c.in-Pends.is c.in-Ok-ahead.ensures.told) now stands in
    pends_touches (trial_setting trial) now.state.memory (now.state.pending core) base
    (loads_at trial c.in-Ok.regs base c.loads_nothing.result true (sym c.in-Ok.ensures.shown) c.loads_nothing.ensures
    c.if-not-loads_nothing.false) told.0 told.1

pub returns-in-Goes : goal.returns-in-Goes
returns-in-Goes c = λ now stands.
    let trial = c.args.trial.now in
    let place = c.args.self.now in
    let core : ℕ = c.args.core in
    let base : Regs = (view_at place.machine core).base in
    let told = told_ahead trial place core buffering.Goes c.requires.place c.requires.core c.requires.running
    (subst (λ (b : Buffering). TellsAhead place.machine core b) c.in-Goes.is c.in-Ok-ahead.ensures.told) now stands in
    c.stores_nothing.ensures now stands
    ∙ goes_touches (trial_setting trial) now.state.memory (now.state.pending core) base
    (loads_at trial c.in-Ok.regs base c.loads_nothing.result true (sym c.in-Ok.ensures.shown) c.loads_nothing.ensures
    c.if-not-loads_nothing.false) told.0 told.1
