use Rattle.std.proofs.Common.{◌≡◌, ◌<◌, ◌≤◌, ◌*◌, ◌^◌, ℕ, length, sym, ap, ◌∙◌, subst, arith}
use Rattle.ia_decode.specs.Offsets.{AreDecoded}
use Rattle.ia_image.specs.Program.{ProgramValue as Program, decoded_once}
use Rattle.ia_flat.specs.FlatCode.{AreFlats, TellAll}
use Rattle.tm_sets.specs.Content.{Content}
use Rattle.tm_core.specs.Machine.{IsStart}
use Rattle.tm_core.specs.Representation.{cpu_at}
use Rattle.tm_core.specs.Types.{Write}
use Rattle.tm_core.proofs.MachineLemmas.{length-views_list, opening_machine, opening_stands}
use Rattle.tm_core.proofs.unbuffered.Unbuffered.with_sets.Goals as goal

pub invariant_of-result : goal.invariant_of-result
invariant_of-result g c =
    let p : Program = c.args.program.now in
    let a : Content = g.S.Sets.content c.args.sets in
    let start :
    (i : ℕ) → i < length p.entries → IsStart p (a.fixed.room Write) i (cpu_at c.in-Ok-start_parts.cpus.items i) =
    λ i h. subst (λ n. IsStart p n i (cpu_at c.in-Ok-start_parts.cpus.items i)) (sym c.requires.write_lines)
    (c.in-Ok-start_parts.ensures.starts i h) in
    let size : length c.in-Ok-start_parts.memory.items ≡ p.mem_size = c.in-Ok-start_parts.ensures.size in
    let large : p.mem_size ≤ 268435456 = c.base.ensures.sound.not_large in
    let small : length c.in-Ok-start_parts.memory.items < 2 ^ 32 = omega arith in
    let lines : p.mem_size ≤ a.fixed.line_count * 64 = c.requires.lines in
    opening_machine p a c.in-Ok.code.items c.base.result c.in-Ok-start_parts.memory.items c.in-Ok-start_parts.cpus.items
    (λ core kind _. c.requires.empty core kind) c.in-Ok-start_parts.ensures.memory
    c.in-Ok-start_parts.ensures.cores start
    c.in-Ok.rows.items c.in-Ok.lines.items
    (subst (λ code. AreDecoded code c.in-Ok.rows.items) (sym c.in-Ok.ensures.code) c.in-Ok.ensures.rows)
    (subst (λ code. AreFlats code c.in-Ok.lines.items) (sym c.in-Ok.ensures.code) c.in-Ok.ensures.lines)
    (subst (λ code. TellAll code c.in-Ok.lines.items) (sym c.in-Ok.ensures.code) c.in-Ok.ensures.told)
    (c.in-Ok.ensures.count ∙ ap decoded_once (sym c.in-Ok.ensures.code)) c.base.ensures.sound.some_core
    c.base.ensures.sound.few_cores small c.requires.cores (omega arith)

pub returns-in-Ok-start_parts-clause-opening : goal.returns-in-Ok-start_parts-clause-opening
returns-in-Ok-start_parts-clause-opening g c =
    let p : Program = c.args.program.now in
    let a : Content = g.S.Sets.content c.args.sets in
    let start :
    (i : ℕ) → i < length p.entries → IsStart p (a.fixed.room Write) i (cpu_at c.in-Ok-start_parts.cpus.items i) =
    λ i h. subst (λ n. IsStart p n i (cpu_at c.in-Ok-start_parts.cpus.items i)) (sym c.requires.write_lines)
    (c.in-Ok-start_parts.ensures.starts i h) in
    opening_stands p a c.in-Ok.code.items c.base.result c.in-Ok-start_parts.memory.items c.in-Ok-start_parts.cpus.items
    (λ core kind _. c.requires.empty core kind) c.in-Ok-start_parts.ensures.memory
    c.in-Ok-start_parts.ensures.cores start

pub returns-in-Ok-start_parts-clause-cores : goal.returns-in-Ok-start_parts-clause-cores
returns-in-Ok-start_parts-clause-cores g c =
    length-views_list (g.S.Sets.content c.args.sets) 0 c.in-Ok-start_parts.cpus.items
    ∙ c.in-Ok-start_parts.ensures.cores
