use Rattle.std.proofs.Common.{◌≡◌, ◌∙◌, ℕ, List, length, ap}
use Rattle.tm_sets.specs.Content.{Content}
use Rattle.tm_model.specs.Setting.{Setting}
use Rattle.tm_core.specs.declared.ahead.Ahead.TheVariants as ahead
use Rattle.tm_core.specs.declared.cpu.Cpu.{Cpu}
use Rattle.tm_core.specs.Representation.{cpu_views, setting_with}
use Rattle.tm_core.proofs.AheadTold.{goes_ahead, stores_ahead, waits_ahead}
use Rattle.tm_core.proofs.ForetoldPending.{foreseen_there}
use Rattle.tm_core.proofs.OtherCores.{length-seen}
use Rattle.tm_core.proofs.StoreBuffers.{parts_like}
use Rattle.tm_core.proofs.buffering.told_ahead.Goals as goal

pub foresee-requires-clause-parts : goal.foresee-requires-clause-parts
foresee-requires-clause-parts g c =
    let m : List ℕ = c.args.memory.now in
    parts_like c.args.code.now.bytes.now c.args.code.now.base m c.of-seen.result (g.S.Sets.content c.args.sets.now)
    c.args.cpus.now (ap length c.of-seen.ensures ∙ length-seen m c.args.pending.now) c.requires.parts

pub returns-in-Waits : goal.returns-in-Waits
returns-in-Waits g c =
    let a : Content = g.S.Sets.content c.args.sets.now in
    let code : List ℕ = c.args.code.now.bytes.now in
    let base : ℕ = c.args.code.now.base in
    let m : List ℕ = c.args.memory.now in
    let cpus : List Cpu = c.args.cpus.now in
    let k : Setting = setting_with code base (length m) a c.args.most in
    waits_ahead k m c.args.pending.now (cpu_views a cpus c.args.c) c.in-Waits.wait
    (foreseen_there code base c.args.most m a cpus c.args.pending.now c.args.c c.requires.parts c.requires.exists
    c.of-seen.result (ahead.Waits c.in-Waits.wait) c.of-seen.ensures c.in-Waits.ensures)

pub returns-in-Stores : goal.returns-in-Stores
returns-in-Stores g c =
    let a : Content = g.S.Sets.content c.args.sets.now in
    let code : List ℕ = c.args.code.now.bytes.now in
    let base : ℕ = c.args.code.now.base in
    let m : List ℕ = c.args.memory.now in
    let cpus : List Cpu = c.args.cpus.now in
    let k : Setting = setting_with code base (length m) a c.args.most in
    stores_ahead k m c.args.pending.now (cpu_views a cpus c.args.c) c.in-Stores._step c.requires.some
    (foreseen_there code base c.args.most m a cpus c.args.pending.now c.args.c c.requires.parts c.requires.exists
    c.of-seen.result (ahead.Stores c.in-Stores._step) c.of-seen.ensures c.in-Stores.ensures)

pub returns-in-Goes : goal.returns-in-Goes
returns-in-Goes g c =
    let a : Content = g.S.Sets.content c.args.sets.now in
    let code : List ℕ = c.args.code.now.bytes.now in
    let base : ℕ = c.args.code.now.base in
    let m : List ℕ = c.args.memory.now in
    let cpus : List Cpu = c.args.cpus.now in
    let k : Setting = setting_with code base (length m) a c.args.most in
    goes_ahead k m c.args.pending.now (cpu_views a cpus c.args.c)
    (foreseen_there code base c.args.most m a cpus c.args.pending.now c.args.c c.requires.parts c.requires.exists
    c.of-seen.result ahead.Goes c.of-seen.ensures c.in-Goes.ensures)
