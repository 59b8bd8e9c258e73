use Rattle.std.proofs.Common.{◌∙◌, ap, refl}
use Rattle.std.proofs.lemmas.Str.Ascii.{trim_ascii_is}
use Rattle.elide_checks.specs.Constants.{is_among}
use Rattle.elide_checks.specs.Items.{behind_space, is_number}
use Rattle.elide_checks.proofs.items.is_number.Goals as goal

pub returns : goal.returns
returns c =
    c.is_number_word.ensures
    ∙ ap (is_number (is_among c.args.constants.now.names.items))
    (trim_ascii_is c.args.term.now c.trim_ascii.result.now (behind_space c.args.term.now) refl
    c.trim_ascii.ensures.value)
