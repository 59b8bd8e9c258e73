-- What entries give that say the same.
use Rattle.std.proofs.Common.{◌≡◌, ℕ, List, [], refl, ◌∙◌, ap}
use Rattle.ia_item.specs.declared.item.Entry.{Entry}
use Rattle.ia_item.specs.declared.item.Section.TheVariants.{Text as InText, Data as InData}
use Rattle.ia_names.specs.Namings.{Naming, IsOneToOne}
use Rattle.ia_layout.specs.Placement.{all_places, base_of, first_fault, start, tail_base, text_end, values}
use Rattle.ia_asm.specs.Assemblies.{code_of, fault_of, tail_of}
use Rattle.ia_asm.proofs.SameSums.{SameEnv}
use Rattle.ia_asm.proofs.SamePlaces.{SameState, SamePlaces, SameContents, same_after, same_base, same_bytes, same_first}
use Rattle.ia_asm.proofs.SamePlaces.{same_places, same_symbols}

-- what two readings of one source give
pub record SameGiven (es fs : List Entry) : Type 0 where
  pub base : base_of es ≡ base_of fs
  pub end : text_end es ≡ text_end fs
  pub code : code_of es ≡ code_of fs
  pub tail : tail_of es ≡ tail_of fs
  pub fault : fault_of es ≡ fault_of fs

pub same_given : (m n : Naming) → IsOneToOne m → IsOneToOne n → (es fs : List Entry) → SameContents m n es fs
    → SameGiven es fs
same_given m n one two es fs contents = record {
  base = base;
  end = end;
  code =
      same_bytes m n InText (values (all_places es)) (values (all_places fs)) env (all_places es) (all_places fs) all;
  tail =
      same_bytes m n InData (values (all_places es)) (values (all_places fs)) env (all_places es) (all_places fs) all;
  fault = ap (λ b. first_fault (values (all_places es)) b (all_places es)) base
      ∙ same_first m n (values (all_places es)) (values (all_places fs)) env (base_of fs) (all_places es)
      (all_places fs) all;
}
  where
    base : base_of es ≡ base_of fs
    base = same_base m n one two es fs contents

    begun : (a b : ℕ) → a ≡ b → SameState m n (start (base_of es) a) (start (base_of fs) b)
    begun a b e = record { above = λ s t st. refl; text = base; tail = e }

    end : text_end es ≡ text_end fs
    end = (same_after m n one two (start (base_of es) 0) (start (base_of fs) 0) (begun 0 0 refl) es fs contents).text

    all : SamePlaces m n (all_places es) (all_places fs)
    all = same_places m n one two (start (base_of es) (tail_base (text_end es)))
        (start (base_of fs) (tail_base (text_end fs)))
        (begun (tail_base (text_end es)) (tail_base (text_end fs)) (ap tail_base end)) es fs contents

    env : SameEnv m n (values (all_places es)) (values (all_places fs))
    env = same_symbols m n [] [] (all_places es) (all_places fs) (λ s t st. refl) all
