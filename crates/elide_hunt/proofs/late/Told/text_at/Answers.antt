use Rattle.std.proofs.Common.{◌≡◌}
use Rattle.std.proofs.lemmas.Result.{IfOk-weaker}
use Rattle.elide_hunt.specs.Lates.{IsTextAt, words_text}
use Rattle.elide_hunt.proofs.late.Told.text_at.Goals as goal

pub returns : goal.returns
returns c =
    IfOk-weaker c.words_bytes.result (λ text. text.items ≡ words_text c.at-words.result)
    (λ text. IsTextAt c.args.eip text.items)
    (λ text same. (c.at-words.result, c.at-words.ensures, same)) c.words_bytes.ensures
