-- The line of a step (page/README.md).
use Rattle.std.specs.Prelude.{ℕ, false, List, ◌++◌, codes, decimal}
use Rattle.page_steps.specs.Members.{members_of, members_text}
use Rattle.page_steps.specs.Numbers.{numbers_text}
use Rattle.page_steps.specs.Registers.{changed_numbers}
use Rattle.page_steps.specs.Types.{CoreState, PageDelta}
use Rattle.page_steps.specs.Words.{letter_of}

-- of a step before which its core did this
abbrev pub step_text : PageDelta → CoreState → List ℕ
step_text delta before =
    codes "[" ++ (decimal delta.core ++ (codes ",\"" ++ (letter_of delta.outcome ++ (codes "\","
    ++ (numbers_text (changed_numbers delta.registers)
    ++ (members_text false (members_of delta before) ++ codes "]"))))))
