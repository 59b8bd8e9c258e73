-- The line that tells a fault: `fault`, its number, its name, and the line of a text that it is told of, if any.
use Rattle.std.specs.Prelude.{ℕ, List, [], ◌++◌, codes, Option, Some, None}
use Rattle.std.specs.Fmt.{decimal}
use Rattle.text_out.specs.TextLine.{line_end, number_text}
use Rattle.elide_setup.specs.Faults.{fault_line, fault_number}
use Rattle.elide_setup.specs.declared.fault.Fault.{Fault}

-- what stands before the name
abbrev pub fault_front : Fault → List ℕ
fault_front fault = codes "fault " ++ number_text (fault_number fault) ++ codes " "

abbrev pub line_words : Option ℕ → List ℕ
line_words None = []
line_words (Some line) = codes " line " ++ decimal line

-- what stands behind it
abbrev pub fault_back : Fault → List ℕ
fault_back fault = line_words (fault_line fault) ++ line_end
