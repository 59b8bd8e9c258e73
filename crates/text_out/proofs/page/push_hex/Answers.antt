use Rattle.std.proofs.Common.{length, map, ap, arith}
use Rattle.std.proofs.lemmas.List.{length-append}
use Rattle.std.specs.Char.{digit_char}
use Rattle.std.specs.Int.Digits.{digits_of}
use Rattle.text_out.proofs.Digits.{hex_short, hex_map_length}
use Rattle.text_out.proofs.page.push_hex.Goals as goal

pub push_digits-requires : goal.push_digits-requires
push_digits-requires c = let s = hex_short c.args.n (omega arith) in omega arith

pub returns-else-n-eq0-clause-len : goal.returns-else-n-eq0-clause-len
returns-else-n-eq0-clause-len c =
    let s = hex_short c.args.n (omega arith) in
    let k = ap length c.push_digits.ensures in
    let l = length-append c.args.page.now.items (map digit_char (digits_of 16 c.args.n)) in
    let m = hex_map_length c.args.n in
    omega arith
