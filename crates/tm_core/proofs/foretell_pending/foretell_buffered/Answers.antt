use Rattle.std.proofs.Common.{◌≡◌, ◌<◌, ◌∙◌, ℕ, List, length, ap, arith}
use Rattle.tm_sets.specs.Content.{Content}
use Rattle.tm_core.specs.declared.ahead.Ahead.TheVariants as ahead
use Rattle.tm_core.specs.declared.cpu.Cpu.{Cpu}
use Rattle.tm_core.specs.Representation.{cpu_at, cpu_views, setting_with}
use Rattle.tm_core.proofs.ForetoldPending.{TellsThere, foreseen_there, goes_told, stores_told, there}
use Rattle.tm_core.proofs.ForetoldPending.{waits_told}
use Rattle.tm_core.proofs.OtherCores.{length-seen}
use Rattle.tm_core.proofs.StoreBuffers.{foreseen_waits, parts_like}
use Rattle.tm_core.proofs.foretell_pending.foretell_buffered.Goals as goal

pub foretell-told-requires : goal.foretell-told-requires
foretell-told-requires g c =
    let m : List ℕ = c.args.memory.now in
    let same : length c.of-seen.result ≡ length m =
    ap length c.of-seen.ensures ∙ length-seen m c.args.pending.now in
    let seen = parts_like c.args.listing.now.code.bytes.now c.args.listing.now.code.base m c.of-seen.result
    (g.S.Sets.content c.args.sets.now) c.args.cpus.now same c.requires.parts in
    record {
      cores = seen.known;
      lines = seen.within;
      exists = c.requires.exists;
      small = seen.small;
      sound = seen.sound;
    }

pub foresee-requires : goal.foresee-requires
foresee-requires g c =
    let m : List ℕ = c.args.memory.now in
    let same : length c.of-seen.result ≡ length m =
    ap length c.of-seen.ensures ∙ length-seen m c.args.pending.now in
    record {
      parts = parts_like c.args.listing.now.code.bytes.now c.args.listing.now.code.base m c.of-seen.result
          (g.S.Sets.content c.args.sets.now) c.args.cpus.now same c.requires.parts;
      exists = c.requires.exists;
      some = c.requires.some;
    }

pub returns-in-Goes : goal.returns-in-Goes
returns-in-Goes g c =
    let a : Content = g.S.Sets.content c.args.sets.now in
    let code : List ℕ = c.args.listing.now.code.bytes.now in
    let base : ℕ = c.args.listing.now.code.base in
    let m : List ℕ = c.args.memory.now in
    let cpus : List Cpu = c.args.cpus.now in
    let tells : TellsThere code base c.args.most m a cpus c.args.pending.now c.args.c c.requires.parts c.requires.exists
    c.foretell-told.result =
    there code base c.args.most m a cpus c.args.pending.now c.args.c c.requires.parts c.requires.exists
    c.of-seen.result c.foretell-told.result c.of-seen.ensures c.foretell-told.ensures.step
    c.foretell-told.ensures.within c.foretell-told.ensures.written c.foretell-told.ensures.reach
    c.foretell-told.ensures.reason in
    goes_told code base c.args.most m a cpus c.args.pending.now c.args.c c.requires.parts c.requires.exists
    c.foretell-told.result tells
    (foreseen_there code base c.args.most m a cpus c.args.pending.now c.args.c c.requires.parts c.requires.exists
    c.of-seen.result ahead.Goes c.of-seen.ensures c.in-Goes.ensures)

pub returns-in-Stores : goal.returns-in-Stores
returns-in-Stores g c =
    let a : Content = g.S.Sets.content c.args.sets.now in
    let code : List ℕ = c.args.listing.now.code.bytes.now in
    let base : ℕ = c.args.listing.now.code.base in
    let m : List ℕ = c.args.memory.now in
    let cpus : List Cpu = c.args.cpus.now in
    let tells : TellsThere code base c.args.most m a cpus c.args.pending.now c.args.c c.requires.parts c.requires.exists
    c.foretell-told.result =
    there code base c.args.most m a cpus c.args.pending.now c.args.c c.requires.parts c.requires.exists
    c.of-seen.result c.foretell-told.result c.of-seen.ensures c.foretell-told.ensures.step
    c.foretell-told.ensures.within c.foretell-told.ensures.written c.foretell-told.ensures.reach
    c.foretell-told.ensures.reason in
    stores_told code base c.args.most m a cpus c.args.pending.now c.args.c c.requires.parts c.requires.exists
    c.foretell-told.result tells c.in-Stores.step c.requires.some
    (foreseen_there code base c.args.most m a cpus c.args.pending.now c.args.c c.requires.parts c.requires.exists
    c.of-seen.result (ahead.Stores c.in-Stores.step) c.of-seen.ensures c.in-Stores.ensures)

pub returns-in-Waits : goal.returns-in-Waits
returns-in-Waits g c =
    let a : Content = g.S.Sets.content c.args.sets.now in
    let code : List ℕ = c.args.listing.now.code.bytes.now in
    let base : ℕ = c.args.listing.now.code.base in
    let m : List ℕ = c.args.memory.now in
    let cpus : List Cpu = c.args.cpus.now in
    let n : List ℕ = c.of-seen.result in
    let some : 0 < length c.args.pending.now =
    foreseen_waits (setting_with code base (length n) a c.args.most) n c.args.pending.now (cpu_views a cpus c.args.c)
    (cpu_at cpus c.args.c).state c.in-Waits._wait c.in-Waits.ensures in
    let tells : TellsThere code base c.args.most m a cpus c.args.pending.now c.args.c c.requires.parts c.requires.exists
    c.foretell-told.result =
    there code base c.args.most m a cpus c.args.pending.now c.args.c c.requires.parts c.requires.exists
    c.of-seen.result c.foretell-told.result c.of-seen.ensures c.foretell-told.ensures.step
    c.foretell-told.ensures.within c.foretell-told.ensures.written c.foretell-told.ensures.reach
    c.foretell-told.ensures.reason in
    waits_told code base c.args.most m a cpus c.args.pending.now c.args.c c.requires.parts c.requires.exists
    c.foretell-told.result tells c.store_at.result c.store_at.ensures c.requires.storable some
    (foreseen_there code base c.args.most m a cpus c.args.pending.now c.args.c c.requires.parts c.requires.exists
    c.of-seen.result (ahead.Waits c.in-Waits._wait) c.of-seen.ensures c.in-Waits.ensures).waits

pub store_at-requires : goal.store_at-requires
store_at-requires g c =
    let a : Content = g.S.Sets.content c.args.sets.now in
    let n : List ℕ = c.of-seen.result in
    let cpus : List Cpu = c.args.cpus.now in
    foreseen_waits
    (setting_with c.args.listing.now.code.bytes.now c.args.listing.now.code.base (length n) a c.args.most) n
    c.args.pending.now (cpu_views a cpus c.args.c) (cpu_at cpus c.args.c).state c.in-Waits._wait c.in-Waits.ensures
