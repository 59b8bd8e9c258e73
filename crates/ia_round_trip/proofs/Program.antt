-- A source with the text of an instruction is read.
use Rattle.std.proofs.Common.{◌≡◌, ℕ, ◌<◌, ◌^◌, false, true, cond, List, [], ◌∷◌, ◌++◌, Option, Some, None, refl, sym}
use Rattle.std.proofs.Common.{◌∙◌, ap, arith, codes, append-nil}
use Rattle.std.specs.Prelude.{Ok}
use Rattle.std.proofs.lemmas.Bool.{lt-ltb}
use Rattle.ia_item.specs.declared.item.Section.TheVariants as section
use Rattle.ia_lex.specs.Numbers.{small}
use Rattle.ia_lex.specs.Tokens.{Word, Number, tokens_from, tokens_of, with_front}
use Rattle.text_out.specs.Number.{number}
use Rattle.ia_text.specs.Text.{insn_text}
use Rattle.ia_source.specs.Contents.{Org}
use Rattle.ia_insn.specs.Operations.{arithmetic, moves, jumps, bare_names, conditions, other_names, other_conditions}
use Rattle.ia_source.specs.Keywords.{keyword_of, mnemonic_named, unconditional, conditional, condition_of, order_of}
use Rattle.ia_source.specs.Statements.{directive_onto}
use Rattle.ia_source.specs.Source.{SourceContent, first_content, by_line, head_onto, tokens_onto, line_onto, lines_onto}
use Rattle.ia_source.specs.Heads.{head_of}
use Rattle.ia_round_trip.specs.Program.{SourceReadsBack}
use Rattle.ia_round_trip.proofs.Hex.{open_printed}
use Rattle.ia_round_trip.proofs.PrintedTokens.{word_blank}
use Rattle.ia_round_trip.proofs.Lines.{line_more, shown_append, number_shown, text_is_one_line}
use Rattle.ia_round_trip.proofs.RoundTrip.{instruction_reads_back}

org_tokens : (at : ℕ) → tokens_of (codes "org " ++ number at) ≡ Some (Word (codes "org") ∷ Number (small at) ∷ [])
unfolding tokens_of
org_tokens at =
    word_blank (codes "org") (number at) refl
    ∙ ap (λ bs. with_front (Word (codes "org") ∷ []) (tokens_from 0 bs)) (sym (append-nil (number at)))
    ∙ ap (with_front (Word (codes "org") ∷ [])) (open_printed at [] tt)

-- behind the first line
abbrev based : Option ℕ → SourceContent
based n = record {
  at = record { line = 2; scope = []; section = section.Text; based = true; placed = false };
  names = [];
  entries = (record { line = 1; section = section.Text; item = Org n }) ∷ [];
}

org_head : (n : Option ℕ) → head_onto first_content (head_of (Word (codes "org") ∷ Number n ∷ [])) ≡ Ok (based n)
unfolding keyword_of mnemonic_named unconditional conditional condition_of order_of directive_onto
    arithmetic moves jumps bare_names conditions other_names other_conditions
org_head n = refl

org_line : (at : ℕ) → at < 2 ^ 32 → line_onto first_content (codes "org " ++ number at) ≡ Ok (based (Some at))
unfolding line_onto
org_line at h =
    ap (tokens_onto first_content) (org_tokens at) ∙ org_head (small at)
    ∙ ap (λ b. Ok (based (cond b (Some at) None))) (lt-ltb at (2 ^ 64) (omega arith))

pub source_reads_back : SourceReadsBack
source_reads_back i at h e =
    let r = instruction_reads_back i at e in
    let first : List ℕ = codes "org " ++ number at in (
      r.0,
      r.1,
      r.2,
      ap (lines_onto first_content)
          (line_more first (insn_text i at) (shown_append (codes "org ") (number at) refl (number_shown at))
          ∙ ap (λ ls. first ∷ ls) (text_is_one_line i at).0)
          ∙ ap (λ s. by_line s (λ more. lines_onto more (insn_text i at ∷ []))) (org_line at h)
          ∙ ap (λ s. by_line s (λ more. lines_onto more [])) (r.3 (based (Some at))),
      r.4,
    )
