-- Steps of runs, and what follows of a result.
use Rattle.std.proofs.Common.{◌≡◌, ℕ, subst, sym, ◌∙◌}
use Rattle.std.specs.Prelude.{Option, Some, None, Result, Ok, Err, OnOk}
use Rattle.tm_model.specs.declared.outcome.Pick.{Pick}
use Rattle.tm_gdb.specs.declared.run.Check.{Check}
use Rattle.tm_gdb.specs.declared.run.Check.TheVariants as check
use Rattle.tm_gdb.specs.declared.stop.Stop.{Stop}
use Rattle.tm_gdb.specs.declared.stop.Stop.TheVariants as stop
use Rattle.tm_gdb.specs.declared.target.Target.{Target}
use Rattle.tm_gdb.specs.declared.turns.Goers.{Goers}
use Rattle.tm_gdb.specs.Changes.{DoesOrStays}
use Rattle.tm_gdb.specs.Moves.{Continues, IsStep, end_core, run_check}
use Rattle.tm_gdb.specs.Moves.Continues.{ends, goes_on, stands, tells}
use Rattle.tm_gdb.specs.Values.{TargetValue, value_of}

on_ok : {T E P Q : Type 0} (result : Result T E) → (P → Q) → OnOk result P → OnOk result Q
on_ok (Ok done) then holds = then holds
on_ok (Err fault) then holds = tt

-- what a call does is a case of what it is to do
pub does_more : {T E : Type 0} {P Q : TargetValue → TargetValue → Type 0} {old new : Target} (result : Result T E)
    → DoesOrStays P old new result → (P (value_of old) (value_of new) → Q (value_of old) (value_of new))
    → DoesOrStays Q old new result
does_more result does then = record { ok = on_ok result then does.ok; err = does.err; same = does.same }

-- a step that tells something ends the run
pub run_tells : (goers : Goers) (from between to : TargetValue) (pick : Pick) (told : Option Stop) (stop : Stop)
    → run_check goers from ≡ check.Go pick → IsStep from pick told between → told ≡ Some stop
    → to ≡ record between { stop = stop } → Continues goers from to
run_tells goers from between to pick told stop turn step is to_is =
    tells turn (subst (λ (t : Option Stop). IsStep from pick t between) is step) to_is

-- and behind one that tells nothing it goes on
pub run_goes : (goers : Goers) (from between to : TargetValue) (pick : Pick) (told : Option Stop)
    → run_check goers from ≡ check.Go pick → IsStep from pick told between → told ≡ None → Continues goers between to
    → Continues goers from to
run_goes goers from between to pick told turn step is run =
    goes_on turn (subst (λ (t : Option Stop). IsStep from pick t between) is step) run

-- the tests before a step end the run
pub run_ends : (goers : Goers) (from to : TargetValue) (found : Check) → found ≡ run_check goers from
    → found ≡ check.End
    → to ≡ record from { selected = end_core goers from; stop = stop.End } → Continues goers from to
run_ends goers from to found check is to_is = ends (sym check ∙ is) to_is

pub run_stands : (goers : Goers) (from to : TargetValue) (core : ℕ) (found : Check) → found ≡ run_check goers from
    → found ≡ check.Break core → to ≡ record from { selected = core; excused = Some core; stop = stop.Break }
    → Continues goers from to
run_stands goers from to core found check is to_is = stands (sym check ∙ is) to_is
