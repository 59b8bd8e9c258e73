-- Memory at the start of a program.
use Rattle.std.proofs.Common.{◌≡◌, ◌+◌, ◌≤◌, arith, length, length-append}
use Rattle.std.proofs.lemmas.List.{length-replicate}
use Rattle.ia_image.specs.Program.{ProgramValue, IsSound, opening_memory}

-- it has as many bytes as the memory size says
pub opening_length : (p : ProgramValue) → IsSound p → length (opening_memory p) ≡ p.mem_size
unfolding opening_memory
opening_length p sound =
    let fits : p.base + length p.bytes ≤ p.mem_size = sound.fits in
    simp (length-append, length-replicate) (omega arith)
