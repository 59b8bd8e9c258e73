-- The answer to `help` (docs/FORMATS.md, "Debugger").
use Rattle.std.specs.Prelude.{ℕ, List, ◌++◌, codes}

unfoldable pub help_text : List ℕ
help_text = codes "step C     one step of core C; Ci, Ce, Cs, Cd: interrupt, eviction, snoop, drain\n"
    ++ codes "run N      1 to 100000 steps, of each core in turn\n"
    ++ codes "next N     the next 1 to 100000 steps of the schedule\n"
    ++ codes "back N     takes the last N steps back\n"
    ++ codes "break A    runs stop before the instruction at address A\n"
    ++ codes "clear A    they no longer do\n"
    ++ codes "regs C     the state and the registers of core C\n"
    ++ codes "mem A N    1 to 256 bytes of memory, from address A on\n"
    ++ codes "sets C     the lines that core C has read and written in its transaction\n"
    ++ codes "why C      why the next step of core C is an abort, if it is one\n"
    ++ codes "pending C  the stores of core C that are not in memory yet; of all cores without C\n"
    ++ codes "list A N   1 to 64 lines of the code, from address A on\n"
    ++ codes "help       these lines\n"
    ++ codes "quit       ends the session\n"
