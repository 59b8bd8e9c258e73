use Rattle.std.proofs.Common.{[], ◌∷◌}
use Rattle.elide_setup.specs.Runs.{IsMachineStep}
use Rattle.elide_draw.specs.Told.{AreTold}
use Rattle.elide_draw.proofs.Telling.{any_reason, if_ok_both}
use Rattle.elide_draw.proofs.watch.WatcherStepMaker.make_step.Goals as goal

pub returns-clause-made : goal.returns-clause-made
returns-clause-made g c =
    let before = c.args.self.now in
    let pick = c.args.pick in
    if_ok_both c.watch_step.result (λ outcome. IsMachineStep before.machine pick outcome c.watch_step.new.machine)
    (λ outcome. AreTold before.timeline ((pick, outcome) ∷ []) c.watch_step.new.timeline) c.watch_step.ensures.step
    c.watch_step.ensures.told

pub returns-clause-refused : goal.returns-clause-refused
returns-clause-refused g c = any_reason c.watch_step.result
