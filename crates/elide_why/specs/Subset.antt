-- What is told where the subset ends (docs/FORMATS.md, "Why a transaction aborted").
use Rattle.std.specs.Prelude.{ℕ, List, [], ◌++◌, ◌-◌, codes, length, take, drop, nat_lt, ◌==◌, if◌then◌else◌}
use Rattle.std.specs.Prelude.{Option, Some, None}
use Rattle.std.specs.Fmt.{decimal}
use Rattle.hex.specs.Hex.{encode_lower}
use Rattle.ia_foreign.specs.declared.words.Words.{Words}
use Rattle.ia_image.specs.Program.{ProgramValue, code_of}
use Rattle.text_out.specs.Number.{eight_digits}
use Rattle.text_out.specs.TextLine.{line_end}
use Rattle.elide_why.specs.declared.outside.Outside.{Outside}

-- the code from an address on, as many bytes as an instruction has at most (SDM vol. 2, 2.3.11)
abbrev pub code_from : ProgramValue → ℕ → List ℕ
code_from program address =
    if nat_lt address program.base then [] else take 15 (drop (address - program.base) (code_of program))

-- symbols, as they are shown, in brackets, where there are any
abbrev pub symbols_text : List ℕ → List ℕ
symbols_text symbols = if length symbols == 0 then [] else codes " (" ++ symbols ++ codes ")"

-- bytes of code and their address
unfoldable pub code_text : List ℕ → ℕ → List ℕ
code_text code address = codes ": " ++ encode_lower code ++ codes " at " ++ eight_digits address

-- what stands there, where that is told
abbrev pub name_text : Option Words → List ℕ
name_text None = []
name_text (Some words) = codes ", " ++ words.front.now ++ words.name.now

-- the code and its address, the symbol and the line of the source, and its name
abbrev pub outside_text : Outside → List ℕ
outside_text outside = code_text outside.code.now outside.address ++ symbols_text outside.place.items
    ++ symbols_text outside.source.items ++ name_text outside.name

-- the outcome line of the stop
abbrev pub stop_line : ℕ → Outside → List ℕ
stop_line core outside = decimal core ++ codes " stopped not-in-subset" ++ outside_text outside ++ line_end
