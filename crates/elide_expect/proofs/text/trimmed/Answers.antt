use Rattle.std.proofs.Common.{ap, ◌∙◌}
use Rattle.std.proofs.lemmas.Str.Ascii.{trim_ascii_start_is}
use Rattle.elide_expect.specs.Comments.{without_end_blanks}
use Rattle.elide_expect.proofs.text.trimmed.Goals as goal

pub returns : goal.returns
returns c = c.without_end_blanks.ensures
    ∙ ap without_end_blanks
    (trim_ascii_start_is c.args.text.now c.trim_ascii_start.result.now c.trim_ascii_start.ensures.value)
