-- What a session does of what it hears (gdb manual, appendix E.1, "Overview").
use Rattle.std.specs.Prelude.{◌≡◌, ℕ, Bool, true, false, not, if◌then◌else◌, List, [], ◌∷◌, ◌++◌, Option, Some, None}
use Rattle.gdb_packet.specs.declared.command.Command.{Command}
use Rattle.gdb_packet.specs.declared.command.Command.TheVariants as command
use Rattle.gdb_packet.specs.declared.command.Question.TheVariants as question
use Rattle.gdb_packet.specs.Commands.{IsToldBy}
use Rattle.gdb_packet.specs.declared.heard.Heard.{Heard}
use Rattle.gdb_packet.specs.declared.heard.Heard.TheVariants.{Nothing, Packet, Damaged, TooLong, Interrupt}
use Rattle.gdb_packet.specs.declared.heard.Heard.TheVariants.{Received, Resend}
use Rattle.gdb_packet.specs.declared.heard.Heard.TheVariants.{Stray}
use Rattle.gdb_packet.specs.Packet.{framed}
use Rattle.tm_gdb.specs.Answers.{Answers}
use Rattle.tm_gdb.specs.Values.{TargetValue}

-- between two packets: the target, whether packets are acknowledged, and the last answer, which gdb may ask to hear
-- again
pub record SessionValue : Type 0 where
  pub target : TargetValue
  pub acknowledges : Bool
  pub last : Option (List ℕ)

-- a + for each packet, where gdb wants it
abbrev pub acknowledgement : Bool → List ℕ
acknowledgement wanted = if wanted then 43 ∷ [] else []

-- what is written of an answer: nothing of the one to `k`, which wants none
abbrev pub reply_text : Command → List ℕ → List ℕ
reply_text (command.Ask question.Kill) text = []
reply_text _ text = framed text

-- the commands that end a session
abbrev pub is_end : Command → Bool
is_end (command.Ask question.Detach) = true
is_end (command.Ask question.Kill) = true
is_end (command.Ask question.KillAnswered) = true
is_end _ = false

-- whether packets are acknowledged behind a command
abbrev pub acknowledges_behind : Command → Bool → Bool
acknowledges_behind (command.Ask question.NoAcknowledgements) wanted = false
acknowledges_behind _ wanted = wanted

-- a packet was acknowledged, and what it tells was done and answered; and whether the session goes on
pub record IsAnswered (packet : List ℕ) (from : SessionValue) (text : List ℕ) (to : SessionValue) (goes_on : Bool)
    : Type 0 where
  pub command : Command
  pub is_told : IsToldBy packet command
  pub answer : List ℕ
  pub answers : Answers command from.target answer to.target
  pub acknowledges : to.acknowledges ≡ acknowledges_behind command from.acknowledges
  pub last : to.last ≡ Some answer
  pub whole : text ≡ acknowledgement from.acknowledges ++ reply_text command answer
  pub goes : goes_on ≡ not (is_end command)

-- the last answer once more
abbrev pub again_text : Option (List ℕ) → List ℕ
again_text None = []
again_text (Some answer) = framed answer

-- only this was written
abbrev pub IsWritten : List ℕ → SessionValue → List ℕ → SessionValue → Bool → Type 0
IsWritten wanted from text to goes_on = (text ≡ wanted) × (to ≡ from) × (goes_on ≡ true)

-- what is done of what was heard: a packet is answered, one that was damaged or is too long is refused by a -, the last
-- answer is written once more where that is asked, and all else is not answered
abbrev pub IsDone : Heard → SessionValue → List ℕ → SessionValue → Bool → Type 0
IsDone (Packet bytes) from text to goes_on = IsAnswered bytes.items from text to goes_on
IsDone Damaged from text to goes_on = IsWritten (45 ∷ []) from text to goes_on
IsDone TooLong from text to goes_on = IsWritten (45 ∷ []) from text to goes_on
IsDone Resend from text to goes_on = IsWritten (again_text from.last) from text to goes_on
IsDone Nothing from text to goes_on = IsWritten [] from text to goes_on
IsDone Interrupt from text to goes_on = IsWritten [] from text to goes_on
IsDone Received from text to goes_on = IsWritten [] from text to goes_on
IsDone (Stray byte) from text to goes_on = IsWritten [] from text to goes_on
