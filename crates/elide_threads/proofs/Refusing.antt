-- Why what is asked for of a run is not told, from what one call tells.
use Rattle.std.proofs.Common.{inl, inr}
use Rattle.elide_json.specs.Refused.{IsUnsent}
use Rattle.tm_hist.specs.Board.{ShownBoard as Board}
use Rattle.elide_setup.specs.declared.fault.Refusal.{Refusal}
use Rattle.elide_setup.specs.declared.machine.Setup.{Setup}
use Rattle.elide_stats.specs.Refused.{AreUntold}
use Rattle.elide_threads.specs.Refused.{IsNotTold, no_room_to_tell, unheld, untold, unwritten}

-- the counts of its transactions are not told
pub of_counts : (setup : Setup) (board : Board) (why : Refusal) → AreUntold board.limits why → IsNotTold setup board why
of_counts setup board why (inl h) = untold (inl h)
of_counts setup board why (inr (inl h)) = unwritten h
of_counts setup board why (inr (inr none)) = no_room_to_tell none

-- the object of its end is not
pub of_object : (setup : Setup) (board : Board) (why : Refusal) → IsUnsent board.machine.memory setup.parts why →
    IsNotTold setup board why
of_object setup board why (inl (inl h)) = unheld h.1 h.0
of_object setup board why (inl (inr none)) = no_room_to_tell (inl none)
of_object setup board why (inr (inl h)) = unwritten h
of_object setup board why (inr (inr none)) = no_room_to_tell (inl none)
