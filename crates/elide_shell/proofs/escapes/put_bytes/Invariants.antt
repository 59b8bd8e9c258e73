use Rattle.std.proofs.Common.{◌≡◌, ◌++◌, List, ℕ, drop}
use Rattle.elide_shell.specs.Controls.{escaped_behind}
use Rattle.text_out.specs.Writing.{Wrote}
use Rattle.elide_shell.proofs.escapes.put_bytes.Given as goal

-- the bytes before this place were written
abbrev pub invariant-bytes : goal.invariant-bytes
invariant-bytes g l = (written : List ℕ) × Wrote (g.O.Out.device l.initial.out) (g.O.Out.device l.out) written
    × (written ++ escaped_behind l.mark l.before (drop l.at l.text) ≡ escaped_behind l.mark 0 l.text)
