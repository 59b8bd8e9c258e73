-- Stop replies (gdb manual, appendix E.3, "Stop Reply Packets").
use Rattle.std.specs.Prelude.{ℕ, ◌+◌, List, [], ◌∷◌, ◌++◌, Option, Some, None, codes}
use Rattle.hex.specs.Hex.{encode_lower}
use Rattle.text_out.specs.Number.{eight_digits}
use Rattle.tm_rule.specs.declared.kinds.Stop.{Stop as CoreStop}
use Rattle.tm_rule.specs.declared.kinds.Stop.TheVariants as why
use Rattle.tm_model.specs.declared.outcome.Outcome.{Outcome}
use Rattle.tm_model.specs.declared.outcome.Outcome.TheVariants as outcome
use Rattle.tm_gdb.specs.declared.stop.Signal.{Signal}
use Rattle.tm_gdb.specs.declared.stop.Signal.TheVariants.{Trap, Illegal, Float, Segment}
use Rattle.tm_gdb.specs.declared.stop.Stop.{Stop}
use Rattle.tm_gdb.specs.declared.stop.Stop.TheVariants.{Stepped, End, Begin, Break, Watch, Halted}

-- the signal of a core that stops: none for HLT, SIGTRAP for INT3, SIGILL for #UD and bytes that are no instruction of
-- the subset, SIGFPE for #DE, and SIGSEGV for all others
abbrev pub signal_for : CoreStop → Option Signal
signal_for why.Halt = None
signal_for why.Breakpoint = Some Trap
signal_for why.Undefined = Some Illegal
signal_for why.NotInSubset = Some Illegal
signal_for why.Divide = Some Float
signal_for why.Protection = Some Segment
signal_for why.Range = Some Segment
signal_for why.CodeStore = Some Segment
signal_for why.Fetch = Some Segment

abbrev pub halted_by : Option Signal → Option Stop
halted_by None = None
halted_by (Some signal) = Some (Halted signal)

-- what a step tells by which a core stops
abbrev pub stop_of : Outcome → Option Stop
stop_of (outcome.Stopped why) = halted_by (signal_for why)
stop_of outcome.Plain = None
stop_of outcome.Loaded = None
stop_of outcome.Idle = None
stop_of outcome.Begun = None
stop_of outcome.Inside = None
stop_of outcome.Committed = None
stop_of (outcome.Aborted status) = None
stop_of (outcome.AbortedBy interference status) = None
stop_of outcome.Drained = None

-- SIGTRAP is 5, SIGILL 4, SIGFPE 8 and SIGSEGV 11
abbrev pub signal_digits : Signal → List ℕ
signal_digits Trap = codes "05"
signal_digits Illegal = codes "04"
signal_digits Float = codes "08"
signal_digits Segment = codes "0b"

abbrev pub stop_digits : Stop → List ℕ
stop_digits Stepped = codes "05"
stop_digits End = codes "05"
stop_digits Begin = codes "05"
stop_digits Break = codes "05"
stop_digits (Watch address) = codes "05"
stop_digits (Halted signal) = signal_digits signal

abbrev pub watch_text : ℕ → List ℕ
watch_text address = codes "watch:" ++ eight_digits address ++ codes ";"

abbrev pub reason_text : Stop → List ℕ
reason_text Stepped = []
reason_text End = codes "replaylog:end;"
reason_text Begin = codes "replaylog:begin;"
reason_text Break = codes "swbreak:;"
reason_text (Watch address) = watch_text address
reason_text (Halted signal) = []

-- the signal, why, and the thread, which is 1 for the first core
unfoldable pub stop_text : Stop → ℕ → List ℕ
stop_text stop core = codes "T" ++ stop_digits stop ++ reason_text stop ++ codes "thread:"
    ++ encode_lower ((core + 1) ∷ []) ++ codes ";"
