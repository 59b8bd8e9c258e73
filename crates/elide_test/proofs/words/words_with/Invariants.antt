use Rattle.std.proofs.Common.{◌≡◌, ◌++◌, take}
use Rattle.elide_args.specs.Asked.{texts_of}
use Rattle.elide_expect.specs.Words.{texts}
use Rattle.elide_test.proofs.words.words_with.Given as goal

-- the words so far stand behind the first one and FILE
abbrev pub invariant-loop-word : goal.invariant-loop-word
invariant-loop-word l = texts_of l.all.items ≡ texts_of l.initial.all.items ++ texts (take l.word-index l.rest)
