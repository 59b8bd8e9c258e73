use Rattle.std.proofs.Common.{ℕ, List}
use Rattle.text_out.specs.Writing.{Wrote}
use Rattle.tm_debug.specs.Session.{IsRunOf, value_of}
use Rattle.tm_debug.proofs.run.run_steps.Given as goal

-- so many steps were made, and their lines written
abbrev pub invariant-steps : goal.invariant-steps
invariant-steps g l = (text : List ℕ) × IsRunOf l.initial.way l.done (value_of l.initial.state) text (value_of l.state)
    × Wrote (g.O.Out.device l.initial.out) (g.O.Out.device l.out) text
