-- Answers with a prompt behind them, and sessions behind their first prompt.
use Rattle.std.proofs.Common.{◌≡◌, ◌++◌, ℕ, List, Option, ap, refl, sym, subst, inl, inr}
use Rattle.std.specs.Prelude.{Result, Ok, Err}
use Rattle.text_out.specs.declared.out.WriteFault.{WriteFault}
use Rattle.text_out.specs.Writing.{Device, Rose, Wrote}
use Rattle.text_out.proofs.Writing.{wrote_then}
use Rattle.tm_hist.specs.Board.{ShownBoard as Board}
use Rattle.debug_command.specs.declared.manner.Manner.{Manner}
use Rattle.debug_command.specs.declared.manner.Manner.TheVariants.{Plain, Spoken}
use Rattle.tm_debug.specs.declared.session.SessionFault.{SessionFault}
use Rattle.tm_debug.specs.declared.session.SessionFault.TheVariants as fault
use Rattle.tm_debug.specs.Session.{Ends, SessionValue, answer_result}
use Rattle.tm_debug.specs.Serving.{BehindPrompt, FailsToRead, FailsToWrite, FailsToWriteIn, FindsNoMemory, IsSession}
use Rattle.tm_debug.specs.Serving.{Prompted, PromptedBroken, Prompts, ServesInput, devices, prompt_text}

-- the prompt behind an answer
pub prompted : {a b : Device} (c : Device) (manner : Manner) (whole : List ℕ → SessionValue → Type 0)
    (broken : Device → Device → SessionValue → Type 0) (p q : SessionValue) (r : Result (Unit {0}) WriteFault) →
    Ends whole broken a b p q (Ok tt) → Prompts manner b c r
    → Ends (Prompted manner whole) (PromptedBroken manner whole broken) a c p q (answer_result r)
prompted {a} {b} c Plain whole broken p q (Ok done) ends prompts =
    (ends.0, ends.1, subst (λ (d : Device). Wrote a d ends.0) (sym prompts.1) ends.2)
prompted c Plain whole broken p q (Err fault) ends prompts = let is = prompts.0 in cc
prompted c Spoken whole broken p q (Ok done) ends prompts =
    (ends.0 ++ prompt_text, (ends.0, ends.1, refl), wrote_then ends.2 prompts)
prompted {a} {b} c Spoken whole broken p q (Err fault) ends prompts = inr (ends.0, b, ends.1, ends.2, prompts)

-- what a session does behind its first prompt
behind : {E : Type 0} (old mid : Device) (manner : Manner) (r : Result (Unit {0}) E) (done : Unit {0})
    (session : Device → Type 0) → Prompts manner old mid r → r ≡ Ok done → session mid → BehindPrompt manner old session
behind old mid Plain r done session prompts is h = subst session prompts.1 h
behind old mid Spoken (Ok written) done session prompts is h = (mid, prompts, h)
behind old mid Spoken (Err fault) done session prompts is h = cc

behind_write : {E : Type 0} (old mid new : Device) (input left : Option (List ℕ)) (manner : Manner)
    (r : Result (Unit {0}) E) (done : Unit {0}) (from : SessionValue) (board : Board)
    → Prompts manner old mid r → r ≡ Ok done →
    FailsToWrite input left from mid new board → FailsToWriteIn manner input left from old new board
behind_write old mid new input left Plain r done from board prompts is h =
    subst (λ (d : Device). FailsToWrite input left from d new board) prompts.1 h
behind_write old mid new input left Spoken (Ok written) done from board prompts is h = inr (mid, prompts, h)
behind_write old mid new input left Spoken (Err fault) done from board prompts is h = cc

-- a prompt that is written counts no failure
prompts_kept : {E : Type 0} (old mid : Device) (manner : Manner) (r : Result (Unit {0}) E) (done : Unit {0})
    → Prompts manner old mid r → r ≡ Ok done → mid.failures ≡ old.failures
prompts_kept old mid Plain r done prompts is = ap (λ (d : Device). d.failures) prompts.1
prompts_kept old mid Spoken (Ok written) done prompts is = prompts.failures
prompts_kept old mid Spoken (Err fault) done prompts is = cc

-- a session behind its first prompt
pub behind_prompt : {E : Type 0} (a c : Option (List ℕ)) (f g : ℕ) (old mid new : Device) (manner : Manner)
    (r : Result (Unit {0}) E) (done : Unit {0}) (from : SessionValue) (result : Result Board SessionFault)
    → Prompts manner old mid r → r ≡ Ok done → IsSession Plain from (devices f a mid) (devices g c new) result
    → IsSession manner from (devices f a old) (devices g c new) result
behind_prompt {E} a c f g old mid new manner r done from (Ok board) prompts is h =
    behind old mid manner r done (λ begun. ServesInput a c from begun new board) prompts is h
behind_prompt {E} a c f g old mid new manner r done from (Err (fault.Read board)) prompts is h =
    (h.0, behind old mid manner r done (λ begun. FailsToRead a c from begun new board) prompts is h.1)
behind_prompt {E} a c f g old mid new manner r done from (Err (fault.Write board)) prompts is h = (
  subst (λ (n : ℕ). Rose n new.failures) (prompts_kept old mid manner r done prompts is) h.0,
  behind_write old mid new a c manner r done from board prompts is h.1,
)
behind_prompt {E} a c f g old mid new manner r done from (Err (fault.NoMemory board)) prompts is h =
    behind old mid manner r done (λ begun. FindsNoMemory a c from begun new board) prompts is h

-- a session whose first prompt is not written whole
pub unprompted : {E : Type 0} (a : Option (List ℕ)) (f : ℕ) (old new : Device) (manner : Manner)
    (r : Result (Unit {0}) E) (why : E) (from : SessionValue) → Prompts manner old new r → r ≡ Err why
    → IsSession manner from (devices f a old) (devices f a new) (Err (fault.Write from.board))
unprompted a f old new Plain r why from prompts is = let written = prompts.0 in cc
unprompted a f old new Spoken (Ok done) why from prompts is = cc
unprompted a f old new Spoken (Err refused) why from prompts is = (prompts.failures, inl (prompts, refl, refl))
