use Rattle.std.specs.Str.Iter.{split_whitespace_rest}
use Rattle.elide_outcomes.proofs.Words.{GoesOn, GoesWrong}
use Rattle.elide_outcomes.proofs.items.items_in.Given as goal

-- the items of the words so far; and where one of the rest is none there is one of the text
abbrev pub invariant-loop-word : goal.invariant-loop-word
invariant-loop-word l =
    GoesOn l.file l.text (split_whitespace_rest l.word-iterator) l.items.items
    × GoesWrong l.file l.text (split_whitespace_rest l.word-iterator)
