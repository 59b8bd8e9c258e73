-- The sixteen conditions and their numbers in an opcode (SDM volume 2, appendix B, encoding of the conditional test
-- field).
use Rattle.std.specs.Prelude.{ℕ, [], ◌∷◌, slice_index_or}
use Rattle.ia_word.specs.declared.condition.Condition.{Condition}
use Rattle.ia_word.specs.declared.condition.Condition.TheVariants as is

abbrev pub condition_number : Condition → ℕ
condition_number is.Overflow = 0
condition_number is.NotOverflow = 1
condition_number is.Below = 2
condition_number is.AboveOrEqual = 3
condition_number is.Equal = 4
condition_number is.NotEqual = 5
condition_number is.BelowOrEqual = 6
condition_number is.Above = 7
condition_number is.Sign = 8
condition_number is.NotSign = 9
condition_number is.ParityEven = 10
condition_number is.ParityOdd = 11
condition_number is.Less = 12
condition_number is.GreaterOrEqual = 13
condition_number is.LessOrEqual = 14
condition_number is.Greater = 15

-- the condition of a number from 0 to 15
abbrev pub condition_of : ℕ → Condition
condition_of number = slice_index_or (
    is.Overflow ∷ is.NotOverflow ∷ is.Below ∷ is.AboveOrEqual ∷
    is.Equal ∷ is.NotEqual ∷ is.BelowOrEqual ∷ is.Above ∷
    is.Sign ∷ is.NotSign ∷ is.ParityEven ∷ is.ParityOdd ∷
    is.Less ∷ is.GreaterOrEqual ∷ is.LessOrEqual ∷ is.Greater ∷ []) number is.Greater
