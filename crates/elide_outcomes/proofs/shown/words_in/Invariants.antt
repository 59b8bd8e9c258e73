use Rattle.std.specs.Str.Iter.{split_whitespace_rest}
use Rattle.elide_args.specs.Asked.{texts_of}
use Rattle.elide_outcomes.proofs.Words.{WordsGoOn}
use Rattle.elide_outcomes.proofs.shown.words_in.Given as goal

-- the words so far
abbrev pub invariant-loop-word : goal.invariant-loop-word
invariant-loop-word l = WordsGoOn l.text (split_whitespace_rest l.word-iterator) (texts_of l.words.items)
