use Rattle.std.proofs.Common.{◌≡◌, ◌∙◌, ℕ, List, length, ap, arith}
use Rattle.tm_sets.specs.Content.{Content}
use Rattle.tm_core.specs.declared.cpu.Cpu.{Cpu}
use Rattle.tm_core.proofs.ForetoldPending.{TellsThere, direct_told, there}
use Rattle.tm_core.proofs.OtherCores.{length-seen}
use Rattle.tm_core.proofs.StoreBuffers.{parts_like}
use Rattle.tm_core.proofs.foretell_pending.foretell_pending.Goals as goal

pub foretell-requires : goal.foretell-requires
foretell-requires g c =
    let m : List ℕ = c.args.memory.now in
    let same : length c.of-seen.result ≡ length m =
    ap length c.of-seen.ensures ∙ length-seen m c.args.pending.now in
    let seen = parts_like c.args.listing.now.code.bytes.now c.args.listing.now.code.base m c.of-seen.result
    (g.S.Sets.content c.args.sets.now) c.args.cpus.now same c.requires.parts in
    record {
      cores = seen.known;
      lines = seen.within;
      exists = c.requires.exists;
      small = seen.small;
      sound = seen.sound;
    }

pub returns : goal.returns
returns g c =
    let a : Content = g.S.Sets.content c.args.sets.now in
    let code : List ℕ = c.args.listing.now.code.bytes.now in
    let base : ℕ = c.args.listing.now.code.base in
    let m : List ℕ = c.args.memory.now in
    let cpus : List Cpu = c.args.cpus.now in
    let tells : TellsThere code base c.args.most m a cpus c.args.pending.now c.args.c c.requires.parts c.requires.exists
    c.foretell.result =
    there code base c.args.most m a cpus c.args.pending.now c.args.c c.requires.parts c.requires.exists
    c.of-seen.result c.foretell.result c.of-seen.ensures c.foretell.ensures.step
    c.foretell.ensures.within c.foretell.ensures.written c.foretell.ensures.reach
    c.foretell.ensures.reason in
    direct_told code base c.args.most m a cpus c.args.pending.now c.args.c c.requires.parts c.requires.exists
    c.foretell.result tells (omega (arith, c.if-most-gt0.false)) c.requires.few
