use Rattle.std.proofs.Common.{ℕ, List, ◌∙◌, length, refl}
use Rattle.tm_sets.specs.Content.{Content}
use Rattle.tm_model.specs.Setting.{Setting}
use Rattle.tm_model.specs.Shown.{View}
use Rattle.tm_core.specs.PendingStep.{core_like}
use Rattle.tm_core.specs.Representation.{cpu_view, setting_with}
use Rattle.tm_core.specs.StepRefinement.{stepped}
use Rattle.tm_core.specs.Types.{Open}
use Rattle.tm_core.proofs.Aheads.{ahead_goes, ahead_none, commit_at}
use Rattle.tm_core.proofs.ahead.foresee_open.Goals as goal

pub returns-then-is_commit : goal.returns-then-is_commit
returns-then-is_commit g c most =
    let a : Content = g.S.Sets.content c.args.sets.now in
    let code : List ℕ = c.args.code.now.bytes.now in
    let base : ℕ = c.args.code.now.base in
    let m : List ℕ = c.args.memory.now in
    let k : Setting = setting_with code base (length m) a most in
    let v : View = cpu_view a c.args.c c.args.cpu.now in
    ahead_none k m c.args.pending.now (core_like v (Open c.args.depth)) (stepped k m v (Open c.args.depth))
    (commit_at code base (length m) a most m v c.args.depth c.is_commit.result c.is_commit.ensures
    ∙ c.if-is_commit.true)
    refl c.with_none.result c.with_none.ensures

pub returns-else-is_commit : goal.returns-else-is_commit
returns-else-is_commit g c most =
    let a : Content = g.S.Sets.content c.args.sets.now in
    let code : List ℕ = c.args.code.now.bytes.now in
    let base : ℕ = c.args.code.now.base in
    let m : List ℕ = c.args.memory.now in
    let k : Setting = setting_with code base (length m) a most in
    let v : View = cpu_view a c.args.c c.args.cpu.now in
    ahead_goes k m c.args.pending.now (core_like v (Open c.args.depth)) (stepped k m v (Open c.args.depth))
    (commit_at code base (length m) a most m v c.args.depth c.is_commit.result c.is_commit.ensures
    ∙ c.if-is_commit.false)
    refl
