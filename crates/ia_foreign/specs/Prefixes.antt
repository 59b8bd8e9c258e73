-- The prefixes in front of an instruction (SDM volume 2, "Instruction Prefixes").
use Rattle.std.specs.Prelude.{ℕ, ◌==◌, ◌||◌, Bool, List}
use Rattle.std.specs.List.{list_any}

-- LOCK, REPNE and REP, the segments, operand size and address size
abbrev pub is_prefix : ℕ → Bool
is_prefix b = b == 240 || b == 242 || b == 243 || b == 38 || b == 46 || b == 54 || b == 62 || b == 100 || b == 101
    || b == 102 || b == 103

-- one of these prefixes is this byte
abbrev pub has : ℕ → List ℕ → Bool
has byte prefixes = list_any (λ b. b == byte) prefixes
