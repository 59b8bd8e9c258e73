use Rattle.std.proofs.Common.{◌<◌, ◌++◌, length, map, ◌/◌, ap, sym, ◌∙◌, arith, append_assoc, [], ◌∷◌}
use Rattle.std.proofs.lemmas.List.{length-append}
use Rattle.std.specs.Char.{digit_char}
use Rattle.std.specs.Int.Digits.{digits_of}
use Rattle.text_out.proofs.Digits.{hex_length, hex_step, hex_map_length}
use Rattle.text_out.proofs.page.+push_digits.Goals as goal

pub push_digits-requires : goal.push_digits-requires
push_digits-requires t c =
    let pos : 0 < c.args.n = omega arith in
    let e = hex_length c.args.n pos in
    grind arith

pub push-requires : goal.push-requires
push-requires t c =
    let pos : 0 < c.args.n = omega arith in
    let e = hex_length c.args.n pos in
    let k = ap length c.push_digits.ensures in
    let l = length-append c.args.page.now.items (map digit_char (digits_of 16 (c.args.n / 16))) in
    let m = hex_map_length (c.args.n / 16) in
    omega arith

pub returns-then-n-ne0 : goal.returns-then-n-ne0
returns-then-n-ne0 t c =
    let pos : 0 < c.args.n = omega arith in
    c.push.ensures.items ∙ ap (λ v. v ++ c.digit.result ∷ []) c.push_digits.ensures
    ∙ append_assoc c.args.page.now.items (map digit_char (digits_of 16 (c.args.n / 16))) (c.digit.result ∷ [])
    ∙ ap (λ v. c.args.page.now.items ++ (map digit_char (digits_of 16 (c.args.n / 16)) ++ v ∷ [])) c.digit.ensures
    ∙ ap (λ v. c.args.page.now.items ++ v) (sym (hex_step c.args.n pos))
