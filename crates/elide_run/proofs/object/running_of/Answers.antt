use Rattle.std.proofs.Common.{◌∙◌, ◌++◌, [], ◌∷◌, Bool, List, ℕ, ap, arith, not, sym}
use Rattle.std.specs.List.{filter, range_with_len}
use Rattle.std.specs.Prelude.{cond}
use Rattle.elide_run.specs.Halting.{is_stopped}
use Rattle.elide_run.proofs.Ends.{filter_more}
use Rattle.elide_run.proofs.object.running_of.Goals as goal

pub loop-core-preserved : goal.loop-core-preserved
loop-core-preserved c =
    let machine = c.args.machine.now in
    let core = c.loop-core.core in
    let before = c.loop-core.invariant in (
      c.push_running.ensures.cores
          ∙ ap (λ (items : List ℕ). items ++ cond (not c.has_stopped.result) (core ∷ []) []) before.0
          ∙ ap (λ (is : Bool). filter (λ n. not (is_stopped machine n)) (range_with_len 0 core)
          ++ cond (not is) (core ∷ []) []) c.has_stopped.ensures
          ∙ sym (filter_more (λ n. not (is_stopped machine n)) core),
      omega (arith, c.push_running.ensures.len, before.1),
    )
