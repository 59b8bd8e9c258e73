use Rattle.std.proofs.Common.{ap, ◌∙◌}
use Rattle.std.specs.Str.Iter.{split_whitespace_rest}
use Rattle.elide_args.specs.Asked.{texts_of}
use Rattle.elide_outcomes.proofs.Words.{all_words, word_of_step, words_go_on}
use Rattle.elide_outcomes.proofs.shown.words_in.Goals as goal

-- the whole text is left
pub loop-word-init : goal.loop-word-init
loop-word-init c =
    let whole = ap split_whitespace_rest c.into_iter-word-iterator.ensures.into_iter_gives
    ∙ c.split_whitespace-word-items.ensures.rest in
    rw (whole, c.new-words.ensures.items) (λ others says. says)

-- one word more
pub loop-word-preserved : goal.loop-word-preserved
loop-word-preserved c =
    words_go_on c.args.text.now (split_whitespace_rest c.loop-word.word-iterator)
    (split_whitespace_rest c.next.new.self)
    c.in-Some.word.now (texts_of c.loop-word.words.items) (texts_of c.add_text.new.row.items)
    c.loop-word.invariant (word_of_step _ c.in-Some.word.now _ c.in-Some.ensures.steps) c.in_ok-add_text.ensures

-- no word is left
pub returns : goal.returns
returns c =
    all_words c.args.text.now (split_whitespace_rest c.loop-word.word-iterator) (texts_of c.loop-word.words.items)
    c.loop-word.invariant
    c.in-None.ensures.steps.1
