use Rattle.std.proofs.Common.{sym, ◌∙◌, ap, arith}
use Rattle.std.proofs.lemmas.List.{take_rest}
use Rattle.ia_lex.specs.Tokens.{front}
use Rattle.ia_lex.proofs.Alone.{blank_more}
use Rattle.ia_lex.proofs.scan.alone.blanks.Goals as goal

pub loop-place-preserved : goal.loop-place-preserved
loop-place-preserved c =
    let rest = take_rest c.args.line.now c.loop-place.place in
    record {
      within = omega arith;
      same = blank_more c.loop-place.place c.args.line.now (sym (c.in-Blank.ensures.front ∙ ap front rest))
          ∙ c.loop-place.invariant.same;
    }
