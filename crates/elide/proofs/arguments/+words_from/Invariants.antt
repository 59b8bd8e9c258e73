use Rattle.elide.proofs.arguments.+words_from.Given as goal

abbrev pub decreases-words_from : goal.decreases-words_from
decreases-words_from g l = l.most
