-- Registers by their numbers: EAX, ECX, EDX, EBX, ESP, EBP, ESI, EDI, EIP and the flags, 0 to 9 (page/README.md).
use Rattle.std.specs.Prelude.{ℕ, List, [], ◌∷◌, ◌++◌, Option, Some, None, option_map, slice_index}
use Rattle.std.specs.Prelude.{slice_index_or}
use Rattle.tm_hist.specs.Lines.{flag_sum}
use Rattle.page_steps.specs.Types.{Changes, Regs}

abbrev pub values_of : Regs → List ℕ
values_of regs =
    slice_index regs.gpr 0 ∷ slice_index regs.gpr 1 ∷ slice_index regs.gpr 2 ∷ slice_index regs.gpr 3
    ∷ slice_index regs.gpr 4 ∷ slice_index regs.gpr 5 ∷ slice_index regs.gpr 6 ∷ slice_index regs.gpr 7
    ∷ regs.eip ∷ flag_sum regs.flags ∷ []

-- a register that changed, with its value
abbrev pub number_if : ℕ → Option ℕ → List ℕ
number_if number None = []
number_if number (Some value) = number ∷ value ∷ []

abbrev pub changed_numbers : Changes → List ℕ
changed_numbers changes =
    number_if 0 (slice_index_or changes.gpr 0 None) ++ number_if 1 (slice_index_or changes.gpr 1 None)
    ++ number_if 2 (slice_index_or changes.gpr 2 None) ++ number_if 3 (slice_index_or changes.gpr 3 None)
    ++ number_if 4 (slice_index_or changes.gpr 4 None) ++ number_if 5 (slice_index_or changes.gpr 5 None)
    ++ number_if 6 (slice_index_or changes.gpr 6 None) ++ number_if 7 (slice_index_or changes.gpr 7 None)
    ++ number_if 8 changes.eip ++ number_if 9 (option_map flag_sum changes.flags)
