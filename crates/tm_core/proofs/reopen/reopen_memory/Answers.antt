use Rattle.std.proofs.Common.{◌≡◌, ◌+◌, ℕ, List, length, ap, ◌∙◌, arith}
use Rattle.ia_image.specs.Program.{ProgramValue as Program}
use Rattle.tm_core.proofs.Image.{parts_are}
use Rattle.tm_core.proofs.reopen.reopen_memory.Goals as goal

pub returns : goal.returns
returns c =
    let p : Program = c.args.program.now in
    let front : List ℕ = c.split_at_mut-front.result.0.now in
    let rest : List ℕ = c.split_at_mut-front.result.1.now in
    let back : List ℕ = c.split_at_mut-middle.result.1.now in
    let image : length c.bytes-image.result.now ≡ length p.bytes = ap length c.bytes-image.ensures.bytes in
    let behind : length rest + c.base.result ≡ length c.args.memory.now = c.split_at_mut-front.ensures.back_len in
    let left : length back + length c.bytes-image.result.now ≡ length rest =
    c.split_at_mut-middle.ensures.back_len in
    let base : c.base.result ≡ p.base = c.base.ensures.base in
    let size : length c.args.memory.now ≡ p.mem_size = c.requires in
    parts_are p (length front) (length back) c.fill.new.self c.copy_from_slice.new.self c.fill-2.new.self
    (c.fill.ensures.after (λ y e. e)) (c.split_at_mut-front.ensures.front_len ∙ base)
    (c.copy_from_slice.ensures.after ∙ c.bytes-image.ensures.bytes) (c.fill-2.ensures.after (λ y e. e))
    (omega (arith, image, behind, left, base, size))
