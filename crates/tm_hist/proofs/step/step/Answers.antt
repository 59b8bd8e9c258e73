use Rattle.std.proofs.Common.{◌≡◌, ◌≤◌, ◌+◌, refl, sym, ◌∙◌, ap, arith, get_or}
use Rattle.tm_model.specs.Setting.{setting_of}
use Rattle.tm_model.specs.Steps.{after_step_of}
use Rattle.tm_hist.specs.History.{outcome_of}
use Rattle.tm_hist.specs.Serial.{core_of, flat_setting, steps_of}
use Rattle.tm_hist.proofs.Runs.{growth_some, no_core, step_either, step_some}
use Rattle.tm_hist.proofs.step.step.Goals as goal

pub returns-then-usual_step-clause-step : goal.returns-then-usual_step-clause-step
returns-then-usual_step-clause-step c =
    let code = c.args.listing.now.code.bytes.now in
    let base = c.args.listing.now.code.base in
    let m = c.args.memory.now in
    let o = outcome_of c.args.pair.now.outcome in
    let x = get_or c.args.cores.now c.from-index.result no_core in
    step_some (setting_of code base c.args.size 0 0 0) m c.usual_step.new.memory c.args.cores.now c.from-index.result
    c.args.pair.now.core o x no_core c.usual_step.new.core
    c.from-index.ensures c.if-index-cores.false refl
    (ap (λ n. after_step_of (setting_of code base n 0 0 0) m (core_of x) o) (sym c.requires.size)
    ∙ c.if-usual_step.ensures.step refl)

pub returns-then-usual_step-clause-growth : goal.returns-then-usual_step-clause-growth
returns-then-usual_step-clause-growth c most h =
    let x = get_or c.args.cores.now c.from-index.result no_core in
    growth_some c.args.cores.now c.from-index.result most x no_core c.usual_step.new.core c.if-index-cores.false refl
    (c.if-usual_step.ensures.growth refl) h

pub returns-clause-step : goal.returns-clause-step
returns-clause-step c =
    let k = flat_setting c.args.listing.now.code c.args.size in
    let o = outcome_of c.args.pair.now.outcome in
    let x = get_or c.args.cores.now c.from-index.result no_core in
    let same = c.if-usual_step.ensures.same refl in
    step_either k c.args.memory.now c.other_step.new.memory c.args.cores.now c.from-index.result c.args.pair.now.core o
    x no_core c.other_step.new.core c.other_step.result
    c.from-index.ensures c.if-index-cores.false refl
    (ap (λ y. after_step_of k c.args.memory.now (core_of y) o) (sym same.1)
    ∙ ap (λ y. after_step_of k y (core_of c.usual_step.new.core) o) (sym same.0) ∙ c.other_step.ensures.step)

pub returns-clause-growth : goal.returns-clause-growth
returns-clause-growth c most h =
    let x = get_or c.args.cores.now c.from-index.result no_core in
    let same : steps_of c.usual_step.new.core ≡ steps_of x = ap steps_of (c.if-usual_step.ensures.same refl).1 in
    let bound : steps_of c.other_step.new.core ≤ steps_of c.usual_step.new.core + 1 = c.other_step.ensures.growth in
    let grown : steps_of c.other_step.new.core ≤ steps_of x + 1 = omega arith in
    growth_some c.args.cores.now c.from-index.result most x no_core c.other_step.new.core
    c.if-index-cores.false refl grown h
