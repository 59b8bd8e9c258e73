use Rattle.elide_shell.proofs.ReadBack.{path_reads, word_reads}
use Rattle.elide_shell.proofs.laws.words_read_back.Goals as goal

pub returns-clause-words : goal.returns-clause-words
returns-clause-words c = word_reads

pub returns-clause-paths : goal.returns-clause-paths
returns-clause-paths c = path_reads
