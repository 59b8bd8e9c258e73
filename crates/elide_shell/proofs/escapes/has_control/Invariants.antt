use Rattle.std.proofs.Common.{◌≡◌, drop}
use Rattle.elide_shell.specs.Controls.{has_control}
use Rattle.elide_shell.proofs.escapes.has_control.Given as goal

-- what is to come decides
abbrev pub invariant-loop-byte : goal.invariant-loop-byte
invariant-loop-byte l = has_control 0 l.text ≡ has_control l.before (drop l.byte-index l.text)
