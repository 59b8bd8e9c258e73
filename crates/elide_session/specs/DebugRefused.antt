-- Why `elide debug` is refused, or ends early (docs/FAULTS.md).
use Rattle.std.specs.Prelude.{◌≡◌, ℕ, List, Option}
use Rattle.text_out.specs.Writing.{Device, Rose}
use Rattle.elide_args.specs.declared.subcommand.SessionOptions.{SessionOptions}
use Rattle.elide_setup.specs.declared.fault.Fault.TheVariants as fault
use Rattle.elide_setup.specs.declared.fault.Refusal.{Refusal}
use Rattle.elide_setup.specs.declared.fault.Refusal.TheVariants as refusal
use Rattle.elide_session.specs.Refused.{IsNotOpened}

-- there is no session, or its input or its output failed, or it had no memory
pub data IsRefused (content : List ℕ → Option (List ℕ)) (options : SessionOptions) (failed failed_after : ℕ)
    (old new : Device) (why : Refusal) : Type 0 where
  unopened : IsNotOpened content options.machine options.schedule why
      → IsRefused content options failed failed_after old new why
  input_failed : why ≡ refusal.Fault fault.SessionRead → Rose failed failed_after
      → IsRefused content options failed failed_after old new why
  output_failed : why ≡ refusal.Fault fault.SessionWrite → Rose old.failures new.failures
      → IsRefused content options failed failed_after old new why
  no_memory : why ≡ refusal.Fault fault.NoSession → IsRefused content options failed failed_after old new why
