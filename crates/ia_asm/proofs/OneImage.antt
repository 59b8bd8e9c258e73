-- A source has one answer.
use Rattle.std.proofs.Common.{◌≡◌, ℕ, List, Some, None, Ok, Err, inl, inr, refl, sym, ◌∙◌, ap, length, map}
use Rattle.std.specs.Prelude.{option_map}
use Rattle.ia_item.specs.declared.item.Entry.{Entry}
use Rattle.ia_source.specs.Contents.{entry_content}
use Rattle.ia_source.specs.Source.{AsksFor}
use Rattle.ia_layout.specs.Placement.{code_and_data, gap, text_end}
use Rattle.ia_asm.specs.declared.assembly.ProgramImage.{ProgramImage}
use Rattle.ia_asm.specs.declared.fault.AsmFault.{AsmFault}
use Rattle.ia_asm.specs.declared.fault.AsmFault.TheVariants as told
use Rattle.ia_asm.specs.Faults.{at_line}
use Rattle.ia_asm.specs.Assemblies.{IsCodeOf, IsImage, code_of, tail_of}
use Rattle.ia_asm.specs.Assembles.{Refused, AssemblesImage}
use Rattle.ia_asm.specs.OneImage.{IsOf, OneImage, CodeIsImage, NoOtherAnswer, SourceGivesOneImage}
use Rattle.ia_asm.proofs.SameItems.{by_number}
use Rattle.ia_asm.proofs.Readings.{read_or}
use Rattle.ia_asm.proofs.SameGiven.{SameGiven, same_given}

of_asked : (text : List ℕ) (es fs : List Entry) → AsksFor text es → AsksFor text fs → SameGiven es fs
of_asked text es fs x y = same_given x.naming y.naming x.one_to_one y.one_to_one es fs
    (ap (read_or (map (entry_content (by_number x.naming)) es)) (sym x.named ∙ y.named))

same_image : (text : List ℕ) (es fs : List Entry) (image : List ℕ) (base code_len : ℕ) (p : ProgramImage)
    → AsksFor text es → AsksFor text fs → IsCodeOf es image base code_len → IsImage fs p → IsOf p image base code_len
same_image text es fs image base code_len b x y p q =
    let s = of_asked text es fs x y in (
      p.base ∙ s.base ∙ sym q.0.base,
      p.image
          ∙ ap (λ c. code_and_data c (gap 64 (text_end es)) (tail_of es)) s.code
          ∙ ap (λ e. code_and_data (code_of fs) (gap 64 e) (tail_of es)) s.end
          ∙ ap (code_and_data (code_of fs) (gap 64 (text_end fs))) s.tail
          ∙ sym q.0.image,
      p.code_len ∙ ap length s.code ∙ sym q.0.code_len,
    )

one_image : OneImage
one_image text a b (es, x, p) (fs, y, q) = same_image text es fs a.image.items a.base a.code_len b x y p.0 q

code_is_image : CodeIsImage
code_is_image text a b (es, x, p) (fs, y, q) = same_image text es fs a.image.items a.base a.code_len b x y p q

never : (text : List ℕ) (a : ProgramImage) (f : AsmFault) → AssemblesImage text (Ok a) → Refused text f → ⊥
never text a f (es, x, p) (inl (line, why, err, is)) =
    let wrong : Ok (map (entry_content (by_number x.naming)) es) ≡ Err (line, why) = sym x.named ∙ err in
    absurd cc
never text a f (es, x, p) (inr (fs, y, is)) =
    let s = of_asked text es fs x y in
    let wrong : None ≡ Some f = sym (ap (option_map (λ t. at_line t.0 t.1)) (sym s.fault ∙ p.0.faultless)) ∙ is in
    absurd cc

no_other_answer : NoOtherAnswer
no_other_answer text a told.NoMemory x r = refl
no_other_answer text a (told.BadToken l) x r = absurd (never text a (told.BadToken l) x r)
no_other_answer text a (told.BadOperand l) x r = absurd (never text a (told.BadOperand l) x r)
no_other_answer text a (told.UnknownSymbol l) x r = absurd (never text a (told.UnknownSymbol l) x r)
no_other_answer text a (told.SymbolTwice l) x r = absurd (never text a (told.SymbolTwice l) x r)
no_other_answer text a (told.Range l) x r = absurd (never text a (told.Range l) x r)
no_other_answer text a (told.NotInSubset l) x r = absurd (never text a (told.NotInSubset l) x r)
no_other_answer text a (told.ShortJumpTooFar l) x r = absurd (never text a (told.ShortJumpTooFar l) x r)

pub source_gives_one_image : SourceGivesOneImage
source_gives_one_image = (one_image, code_is_image, no_other_answer)
