use Rattle.std.proofs.Common.{◌≡◌, ◌++◌, ◌∙◌, ap, arith, length, refl}
use Rattle.elide_shell.proofs.Digits.{at_ok, decimal_of_small}
use Rattle.elide_shell.proofs.step.step_word.Goals as goal

pub returns : goal.returns
returns c =
    let core = c.args.pick.core in
    let empty : length c.new-word.result.bytes ≡ 0 = ap length c.new-word.ensures in
    let first =
    at_ok c.try_push_str.result (c.try_push_str.ensures.variant.1 (omega arith)) c.try_push_str.ensures.ok in
    let digits : c.try_push_str.new.self.bytes ≡ c.format.result.now =
    first ∙ ap (λ l. l ++ c.format.result.now) c.new-word.ensures in
    let short : length c.try_push_str.new.self.bytes ≡ length c.format.result.now = ap length digits in
    let second =
    at_ok c.try_push_str-2.result (c.try_push_str-2.ensures.variant.1 (omega arith)) c.try_push_str-2.ensures.ok in
    second ∙ rw (digits, c.format.ensures.text, decimal_of_small core (omega arith), c.letter_of.ensures.letter) refl
