-- A session as contracts see it, and what it does at a byte.
use Rattle.std.specs.Prelude.{◌≡◌, ℕ, Bool, List, [], ◌∷◌, ◌++◌, Option, Some, None, Result, Ok, Err}
use Rattle.gdb_packet.specs.declared.heard.Heard.{Heard}
use Rattle.gdb_packet.specs.declared.reader.Reader.{Reader}
use Rattle.gdb_packet.specs.Reading.{Hears, IsBehind}
use Rattle.text_out.specs.Writing.{Device, Rose, Wrote}
use Rattle.tm_hist.specs.Board.{SameBoard}
use Rattle.arrayvec.specs.ArrayVec.{ArrayVec}
use Rattle.tm_gdb.specs.declared.session.Interruption.{Interruption}
use Rattle.tm_gdb.specs.declared.session.Interruption.TheVariants as interruption
use Rattle.tm_gdb.specs.declared.session.Session.{Session}
use Rattle.tm_gdb.specs.Sessions.{IsDone, SessionValue}
use Rattle.tm_gdb.specs.Values.{value_of}

-- the bytes of the last answer, if there was one
abbrev pub bytes_in : Option (ArrayVec ℕ) → Option (List ℕ)
bytes_in None = None
bytes_in (Some row) = Some row.items

abbrev pub session_value : Session → SessionValue
session_value session = record {
  target = value_of session.target;
  acknowledges = session.acknowledges;
  last = bytes_in session.last;
}

-- a text was written, or its device failed
abbrev pub Puts : {T : Type 0} → List ℕ → Device → Device → Result T Interruption → Type 0
Puts text old new (Ok done) = Wrote old new text
Puts text old new (Err fault) = (fault ≡ interruption.Write) × Rose old.failures new.failures

-- what is so of each answer, whole or not: the board keeps its program and its limits, no input fails, and a device for
-- answers that is told as failed has counted that
pub record IsAnswering {T : Type 0} (old new : Session) (before after : Device) (result : Result T Interruption)
    : Type 0 where
  pub same : SameBoard old.target.board new.target.board
  pub read : result ≡ Err interruption.Read → ⊥
  pub rose : result ≡ Err interruption.Write → Rose before.failures after.failures

-- a byte was heard, and what is to be done of what it completes was done
pub record IsHeard (byte : ℕ) (old new : Reader) (from to : SessionValue) (goes_on : Bool) (before after : Device)
    : Type 0 where
  pub heard : Heard
  pub hears : (since : List ℕ) → IsBehind since old → Hears (since ++ byte ∷ []) heard new
  pub text : List ℕ
  pub done : IsDone heard from text to goes_on
  pub wrote : Wrote before after text
