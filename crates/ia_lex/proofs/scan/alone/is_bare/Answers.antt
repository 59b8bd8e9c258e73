use Rattle.std.proofs.Common.{sym, ◌∙◌, ap, drop}
use Rattle.std.proofs.lemmas.List.{take_rest}
use Rattle.ia_lex.specs.Alone.{is_bare}
use Rattle.ia_lex.specs.Tokens.{front}
use Rattle.ia_lex.proofs.Alone.{bare_bad}
use Rattle.ia_lex.proofs.scan.alone.is_bare.Goals as goal

pub returns-in-Bad : goal.returns-in-Bad
returns-in-Bad c =
    let rest = take_rest c.args.line.now c.blanks.result in
    sym (ap is_bare (sym c.blanks.ensures.same)
    ∙ bare_bad (drop c.blanks.result c.args.line.now) (sym (c.in-Bad.ensures.front ∙ ap front rest)))
