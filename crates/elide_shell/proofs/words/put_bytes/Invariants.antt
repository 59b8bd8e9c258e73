use Rattle.std.proofs.Common.{take}
use Rattle.std.specs.List.{flat_map}
use Rattle.text_out.specs.Writing.{Wrote}
use Rattle.elide_shell.specs.Shell.{quoted_byte}
use Rattle.elide_shell.proofs.words.put_bytes.Given as goal

-- the bytes so far were written
abbrev pub invariant-loop-byte : goal.invariant-loop-byte
invariant-loop-byte g l =
    Wrote (g.O.Out.device l.initial.out) (g.O.Out.device l.out) (flat_map quoted_byte (take l.byte-index l.bytes))
