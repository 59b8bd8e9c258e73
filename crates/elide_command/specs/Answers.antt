-- What a command that was not refused came to, and the exit status by which that is told (docs/FORMATS.md, "Options of
-- the command line").
use Rattle.std.specs.Prelude.{◌≡◌, ℕ, Bool, false, true, Result, Ok, Err, MatchResult}
use Rattle.elide_hunt.specs.declared.command.Answer.{Answer as Hunted}
use Rattle.elide_hunt.specs.declared.command.Answer.TheVariants as hunted
use Rattle.elide_outcomes.specs.declared.verdict.Answer.{Answer as Searched}
use Rattle.elide_outcomes.specs.declared.verdict.Answer.TheVariants as searched
use Rattle.elide_replay.specs.declared.agreement.Agreement.{Agreement}
use Rattle.elide_replay.specs.declared.agreement.Agreement.TheVariants as agreement
use Rattle.elide_run.specs.declared.halting.Ending.{Ending}
use Rattle.elide_run.specs.declared.halting.Ending.TheVariants as ending
use Rattle.elide_setup.specs.declared.fault.Refusal.{Refusal}
use Rattle.elide_setup.specs.declared.paged.Paged.{Paged}
use Rattle.elide_setup.specs.declared.paged.Paged.TheVariants.{AsAsked, TooLong}
use Rattle.elide_command.specs.declared.answer.Answer.{Answer}
use Rattle.elide_command.specs.declared.answer.Answer.TheVariants.{Done, Differs, Fails, DoneUnpaged, FailsUnpaged}

abbrev pub answer_status : Answer → ℕ
answer_status Done = 0
answer_status Differs = 1
answer_status Fails = 3
answer_status DoneUnpaged = 0
answer_status FailsUnpaged = 3

-- a page that was asked for was not written, and a fault is told behind
abbrev pub is_unpaged : Answer → Bool
is_unpaged Done = false
is_unpaged Differs = false
is_unpaged Fails = false
is_unpaged DoneUnpaged = true
is_unpaged FailsUnpaged = true

-- a core that was expected to stop and did not is a failure
abbrev pub ran_answer : Ending → Answer
ran_answer ending.AsAsked = Done
ran_answer ending.RunsOn = Fails

abbrev pub sought_answer : Hunted → Paged → Answer
sought_answer hunted.NoneFailed AsAsked = Done
sought_answer hunted.NoneFailed TooLong = DoneUnpaged
sought_answer hunted.Failed AsAsked = Fails
sought_answer hunted.Failed TooLong = FailsUnpaged

abbrev pub searched_answer : Searched → Paged → Answer
searched_answer searched.Whole AsAsked = Done
searched_answer searched.Whole TooLong = DoneUnpaged
searched_answer searched.Cut AsAsked = Fails
searched_answer searched.Cut TooLong = FailsUnpaged
searched_answer searched.Faulty AsAsked = Fails
searched_answer searched.Faulty TooLong = FailsUnpaged

abbrev pub replayed_answer : Agreement → Answer
replayed_answer agreement.Agrees = Done
replayed_answer agreement.Differs = Differs

-- a refusal stays one, and what a command came to is told by its answer
abbrev pub IsAnswered : {T : Type 0} → (T → Answer) → Result T Refusal → Result Answer Refusal → Type 0
IsAnswered answer end result = MatchResult end (λ value. result ≡ Ok (answer value)) (λ refusal. result ≡ Err refusal)
