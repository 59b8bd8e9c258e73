-- The refusals of a line: their numbers, and the lines that tell them (docs/FORMATS.md, "Debugger").
use Rattle.std.specs.Prelude.{ℕ, List, ◌++◌, codes}
use Rattle.text_out.specs.TextLine.{line_end, number_text}
use Rattle.debug_command.specs.declared.command.CommandName.{CommandName}
use Rattle.debug_command.specs.declared.command.CommandName.TheVariants as name
use Rattle.debug_command.specs.declared.manner.Manner.{Manner}
use Rattle.debug_command.specs.declared.manner.Manner.TheVariants.{Plain, Spoken}
use Rattle.debug_command.specs.declared.refusal.Range.{Range}
use Rattle.debug_command.specs.declared.refusal.Range.TheVariants.{Addresses, Bytes, Lines, Made, Steps}
use Rattle.debug_command.specs.declared.refusal.CommandRefusal.{CommandRefusal}
use Rattle.debug_command.specs.declared.refusal.CommandRefusal.TheVariants.{UnknownCommand, LongLine, BadArgument}
use Rattle.debug_command.specs.declared.refusal.CommandRefusal.TheVariants.{NoSuchSymbol, NoSuchCore, OutOfRange}
use Rattle.debug_command.specs.declared.refusal.CommandRefusal.TheVariants.{LimitReached, TooManyBreakpoints}

abbrev pub refusal_code : CommandRefusal → ℕ
refusal_code UnknownCommand = 70
refusal_code LongLine = 70
refusal_code (BadArgument name) = 71
refusal_code NoSuchSymbol = 71
refusal_code (NoSuchCore count) = 72
refusal_code (OutOfRange range) = 73
refusal_code LimitReached = 74
refusal_code TooManyBreakpoints = 75

-- the number alone
unfoldable pub plain_line : CommandRefusal → List ℕ
plain_line UnknownCommand = codes "error 70\n"
plain_line LongLine = codes "error 70\n"
plain_line (BadArgument name) = codes "error 71\n"
plain_line NoSuchSymbol = codes "error 71\n"
plain_line (NoSuchCore count) = codes "error 72\n"
plain_line (OutOfRange range) = codes "error 73\n"
plain_line LimitReached = codes "error 74\n"
plain_line TooManyBreakpoints = codes "error 75\n"

-- what a command takes behind its name
unfoldable pub arguments_line : CommandName → List ℕ
arguments_line name.Step = codes "error 71: step takes a core\n"
arguments_line name.Run = codes "error 71: run takes a number of steps\n"
arguments_line name.Next = codes "error 71: next takes a number of steps\n"
arguments_line name.Back = codes "error 71: back takes a number of steps\n"
arguments_line name.Break = codes "error 71: break takes an address\n"
arguments_line name.Clear = codes "error 71: clear takes an address\n"
arguments_line name.Regs = codes "error 71: regs takes a core\n"
arguments_line name.Mem = codes "error 71: mem takes an address and a number of bytes\n"
arguments_line name.Sets = codes "error 71: sets takes a core\n"
arguments_line name.Why = codes "error 71: why takes a core\n"
arguments_line name.Pending = codes "error 71: pending takes a core, or stands alone\n"
arguments_line name.List = codes "error 71: list takes an address and a number of lines\n"
arguments_line name.Help = codes "error 71: help stands alone\n"
arguments_line name.Quit = codes "error 71: quit stands alone\n"

-- the range of a number
unfoldable pub range_line : Range → List ℕ
range_line Steps = codes "error 73: run and next take 1 to 100000 steps\n"
range_line Made = codes "error 73: back takes 1 step or more, at most as many as were made\n"
range_line Addresses = codes "error 73: addresses are below 0x100000000\n"
range_line Bytes = codes "error 73: mem takes 1 to 256 bytes, all of them in memory\n"
range_line Lines = codes "error 73: list takes 1 to 64 lines, the first of them in the code\n"

-- how many cores there are
unfoldable pub cores_line : ℕ → List ℕ
cores_line count = codes "error 72: no such core; of cores there are " ++ number_text count ++ line_end

-- words behind the number
unfoldable pub spoken_line : CommandRefusal → List ℕ
spoken_line UnknownCommand = codes "error 70: no such command; help lists them\n"
spoken_line LongLine = codes "error 70: a line has at most 256 bytes\n"
spoken_line (BadArgument name) = arguments_line name
spoken_line NoSuchSymbol = codes "error 71: no such symbol; an address is a number, SYM, SYM+N or SYM-N\n"
spoken_line (NoSuchCore count) = cores_line count
spoken_line (OutOfRange range) = range_line range
spoken_line LimitReached = codes "error 74: the session has made its most steps\n"
spoken_line TooManyBreakpoints = codes "error 75: 64 breakpoints are set\n"

abbrev pub refusal_line : Manner → CommandRefusal → List ℕ
refusal_line Plain refusal = plain_line refusal
refusal_line Spoken refusal = spoken_line refusal
