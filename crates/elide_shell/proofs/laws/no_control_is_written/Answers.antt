use Rattle.elide_shell.proofs.Harmless.{text_has_none, word_has_none}
use Rattle.elide_shell.proofs.laws.no_control_is_written.Goals as goal

pub returns-clause-words : goal.returns-clause-words
returns-clause-words c = word_has_none

pub returns-clause-texts : goal.returns-clause-texts
returns-clause-texts c = text_has_none
