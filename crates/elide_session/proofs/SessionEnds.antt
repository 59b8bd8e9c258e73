-- Why a session ends early, by its fault.
use Rattle.std.proofs.Common.{◌≡◌, ℕ, List, Option, ap}
use Rattle.std.specs.Prelude.{Err}
use Rattle.text_out.specs.Writing.{Device}
use Rattle.debug_command.specs.declared.manner.Manner.{Manner}
use Rattle.tm_debug.specs.Serving.{IsSession, devices}
use Rattle.tm_debug.specs.Session.{SessionValue}
use Rattle.tm_debug.specs.declared.session.SessionFault.{SessionFault}
use Rattle.tm_debug.specs.declared.session.SessionFault.TheVariants.{Read, Write, NoMemory}
use Rattle.elide_args.specs.declared.subcommand.SessionOptions.{SessionOptions}
use Rattle.elide_setup.specs.declared.fault.Fault.{Fault}
use Rattle.elide_setup.specs.declared.fault.Refusal.TheVariants as refusal
use Rattle.elide_session.specs.Refused.{session_fault}
use Rattle.elide_session.specs.DebugRefused.{IsRefused, input_failed, no_memory, output_failed}

pub ended : {failed failed_after : ℕ} {old new : Device} (left left_after : Option (List ℕ))
    (content : List ℕ → Option (List ℕ)) (options : SessionOptions) (manner : Manner) (from : SessionValue)
    (fault : SessionFault) (told : Fault) →
    IsSession manner from (devices failed left old) (devices failed_after left_after new) (Err fault)
    → told ≡ session_fault fault → IsRefused content options failed failed_after old new (refusal.Fault told)
ended left left_after content options manner from (Read board) told session is =
    input_failed (ap refusal.Fault is) session.0
ended left left_after content options manner from (Write board) told session is =
    output_failed (ap refusal.Fault is) session.0
ended left left_after content options manner from (NoMemory board) told session is = no_memory (ap refusal.Fault is)
