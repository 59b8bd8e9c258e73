-- What a session does of all that it hears in its input, one after another.
use Rattle.std.specs.Prelude.{◌≡◌, ◌⊎◌, ℕ, Bool, true, false, List, [], ◌∷◌, ◌++◌, Option, Some, None}
use Rattle.std.specs.Prelude.{Result, Ok, Err}
use Rattle.gdb_packet.specs.declared.heard.Heard.{Heard}
use Rattle.gdb_packet.specs.declared.reader.Reader.{Reader}
use Rattle.gdb_packet.specs.Reading.{Is, IsBehind}
use Rattle.text_out.specs.Writing.{Device, Rose, Wrote}
use Rattle.tm_debug.specs.Serving.{Devices}
use Rattle.tm_debug.specs.declared.session.SessionFault.{SessionFault}
use Rattle.tm_debug.specs.declared.session.SessionFault.TheVariants as fault
use Rattle.tm_hist.specs.Board.{SameBoard, ShownBoard}
use Rattle.tm_model.specs.declared.outcome.Pick.{Pick}
use Rattle.tm_gdb.specs.Sessions.{IsDone, SessionValue}
use Rattle.tm_gdb.specs.Values.{start_with}

-- before the first packet
abbrev pub start : ShownBoard → Option (List Pick) → SessionValue
start board plan = record { target = start_with board plan; acknowledges = true; last = None }

-- the first whole of some bytes, and what is done of it
pub record First (more : List ℕ → SessionValue → List ℕ → SessionValue → Type 0) (heard : Heard) (bytes : List ℕ)
    (from : SessionValue) (text : List ℕ) (to : SessionValue) : Type 0 where
  pub own : List ℕ
  pub others : List ℕ
  pub bytes_are : bytes ≡ own ++ others
  pub is : Is own heard
  pub between : SessionValue
  pub answer : List ℕ
  pub texts : List ℕ
  pub done : IsDone heard from answer between true
  pub go_on : more others between texts to
  pub text_is : text ≡ answer ++ texts

-- some bytes are these wholes, one behind the other: packets, each from its $ to its checksum, and single bytes between
-- them; what is to be done of each was done in order, and none of them ended the session
abbrev pub DoesAll : List Heard → List ℕ → SessionValue → List ℕ → SessionValue → Type 0
DoesAll [] bytes from text to = (bytes ≡ []) × (text ≡ []) × (to ≡ from)
DoesAll (heard ∷ others) bytes from text to = First (DoesAll others) heard bytes from text to

-- the bytes of a packet that has begun and is no whole, and none outside of packets
abbrev pub IsBegun : List ℕ → Type 0
IsBegun bytes = (reader : Reader) × IsBehind bytes reader

-- the last whole, which ended the session
pub record Last (bytes : List ℕ) (from : SessionValue) (text : List ℕ) (to : SessionValue) : Type 0 where
  pub heard : Heard
  pub is : Is bytes heard
  pub done : IsDone heard from text to false

-- how a session ended: its input did, perhaps in the midst of a packet, or a packet ended it, and the rest is not read
abbrev pub Ended : List ℕ → List ℕ → SessionValue → List ℕ → SessionValue → Type 0
Ended bytes rest from text to =
    (IsBegun bytes × (rest ≡ []) × (text ≡ []) × (to ≡ from)) ⊎ Last bytes from text to

-- a whole session: what is to be done of each whole of the input was done, up to the one that ended it
pub record Serves (input rest : List ℕ) (from : SessionValue) (text : List ℕ) (to : SessionValue) : Type 0 where
  pub heard : List Heard
  pub front : List ℕ
  pub end : List ℕ
  pub input_is : input ≡ front ++ (end ++ rest)
  pub between : SessionValue
  pub told : List ℕ
  pub last : List ℕ
  pub does : DoesAll heard front from told between
  pub ended : Ended end rest between last to
  pub text_is : text ≡ told ++ last

-- a session that went to its end, where the input tells its bytes: what was written is the answers to its packets, and
-- this board is the one that they leave
abbrev pub ServesInput : Option (List ℕ) → Option (List ℕ) → SessionValue → Device → Device → ShownBoard → Type 0
ServesInput input left from old new board = (bytes : List ℕ) → input ≡ Some bytes → (rest : List ℕ) × (text : List ℕ)
    × (to : SessionValue) × (left ≡ Some rest) × Serves bytes rest from text to × (to.target.board ≡ board)
    × Wrote old new text

-- a session that ended before: what is to be done of all wholes but the last that was begun was done and stands written
pub record ServesFront (input rest : List ℕ) (from : SessionValue) (text : List ℕ) (to : SessionValue) : Type 0 where
  pub heard : List Heard
  pub front : List ℕ
  pub end : List ℕ
  pub input_is : input ≡ front ++ (end ++ rest)
  pub does : DoesAll heard front from text to
  pub begun : IsBegun end

-- the input failed: all that was heard before was done, and nothing more
abbrev pub FailsToRead : Option (List ℕ) → Option (List ℕ) → SessionValue → Device → Device → ShownBoard → Type 0
FailsToRead input left from old new board = (bytes : List ℕ) → input ≡ Some bytes → (rest : List ℕ) × (text : List ℕ)
    × (to : SessionValue) × (left ≡ Some rest) × ServesFront bytes rest from text to × (to.target.board ≡ board)
    × Wrote old new text

-- a session with this board along this plan, by what it gives back: it went to its end, its input or its output failed,
-- whose count of failures rose, or it found no memory; in each case the board keeps its program and its limits
abbrev pub IsSession : ShownBoard → Option (List Pick) → Devices → Devices → Result ShownBoard SessionFault → Type 0
IsSession first plan old new (Ok board) =
    SameBoard first board × ServesInput old.left new.left (start first plan) old.out new.out board
IsSession first plan old new (Err (fault.Read board)) =
    SameBoard first board × Rose old.failed new.failed
    × FailsToRead old.left new.left (start first plan) old.out new.out board
IsSession first plan old new (Err (fault.Write board)) =
    SameBoard first board × Rose old.out.failures new.out.failures
IsSession first plan old new (Err (fault.NoMemory board)) = SameBoard first board
