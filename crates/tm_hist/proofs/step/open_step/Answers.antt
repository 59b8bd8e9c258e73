use Rattle.std.proofs.Common.{◌≡◌, ◌+◌, suc, sym, ◌∙◌, ap, arith, Some}
use Rattle.std.specs.Option.{option_and_then}
use Rattle.tm_model.specs.Isolated.{isolated_body}
use Rattle.tm_model.specs.State.{Closed, Opened}
use Rattle.tm_model.specs.Steps.{after_commit, after_step_of}
use Rattle.tm_hist.specs.Serial.{flat_setting}
use Rattle.tm_hist.proofs.step.open_step.Goals as goal

pub returns-in-None-clause-step : goal.returns-in-None-clause-step
returns-in-None-clause-step c =
    let k = flat_setting c.args.listing.now.code c.args.size in
    let e : suc c.args.steps ≡ c.args.steps + 1 = omega arith in
    ap (λ o. after_step_of k c.args.memory.now (Opened c.args.regs.now c.args.steps) o) c.in-Committed.is
    ∙ ap (λ n. option_and_then (after_commit c.args.memory.now) (isolated_body k c.args.regs.now c.args.memory.now n)) e
    ∙ c.in-None.ensures

pub returns-in-Aborted-clause-step : goal.returns-in-Aborted-clause-step
returns-in-Aborted-clause-step c =
    let k = flat_setting c.args.listing.now.code c.args.size in
    ap (λ o. after_step_of k c.args.memory.now (Opened c.args.regs.now c.args.steps) o) c.in-Aborted.is
    ∙ ap (λ r. Some (c.args.memory.now, Closed r)) (sym (c.registers_after_abort.ensures c.args.size))

pub returns-in-AbortedBy-clause-step : goal.returns-in-AbortedBy-clause-step
returns-in-AbortedBy-clause-step c =
    let k = flat_setting c.args.listing.now.code c.args.size in
    ap (λ o. after_step_of k c.args.memory.now (Opened c.args.regs.now c.args.steps) o) c.in-AbortedBy.is
    ∙ ap (λ r. Some (c.args.memory.now, Closed r)) (sym (c.registers_after_abort-in-AbortedBy.ensures c.args.size))
