-- What a step was, and what a core does (page/README.md).
use Rattle.std.specs.Prelude.{List, [], ◌∷◌, ◌++◌, codes, ℕ}
use Rattle.tm_hist.specs.Lines.{state_word}
use Rattle.page_steps.specs.Types.{Aborted, AbortedBy, Begun, Committed, CoreState, Drained, Idle, Inside, Loaded}
use Rattle.page_steps.specs.Types.{Outcome, Plain}
use Rattle.page_steps.specs.Types.{Stopped}

abbrev pub letter_of : Outcome → List ℕ
letter_of Plain = codes "p"
letter_of Loaded = codes "l"
letter_of (Stopped stop) = codes "s"
letter_of Idle = codes "z"
letter_of Begun = codes "b"
letter_of Inside = codes "i"
letter_of Committed = codes "c"
letter_of (Aborted status) = codes "a"
letter_of (AbortedBy by status) = codes "e"
letter_of Drained = codes "d"

-- as the debugger prints it, as a string
abbrev pub quoted_state : CoreState → List ℕ
quoted_state state = 34 ∷ (state_word state ++ 34 ∷ [])
