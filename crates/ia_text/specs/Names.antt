-- The words of operands: registers and sizes, as SDM volume 2 names them, in lower case.
use Rattle.std.specs.Prelude.{ℕ, List, [], ◌∷◌, codes, slice_index_or}
use Rattle.ia_word.specs.declared.width.Width.{Width}
use Rattle.ia_word.specs.declared.width.Width.TheVariants.{B, D}

-- the registers by number
abbrev pub register_name : Width → ℕ → List ℕ
register_name D number = slice_index_or (
    codes "eax" ∷ codes "ecx" ∷ codes "edx" ∷ codes "ebx" ∷
    codes "esp" ∷ codes "ebp" ∷ codes "esi" ∷ []) number (codes "edi")
register_name B number = slice_index_or (
    codes "al" ∷ codes "cl" ∷ codes "dl" ∷ codes "bl" ∷
    codes "ah" ∷ codes "ch" ∷ codes "dh" ∷ []) number (codes "bh")

abbrev pub size_name : Width → List ℕ
size_name D = codes "dword"
size_name B = codes "byte"
