use Rattle.std.proofs.Common.{ap, inl, refl, ◌∙◌}
use Rattle.std.specs.Str.Iter.{split_whitespace_rest}
use Rattle.elide_outcomes.specs.Items.{first}
use Rattle.elide_outcomes.proofs.Words.{all_said, goes_on, goes_wrong, word_of_step}
use Rattle.elide_outcomes.proofs.items.items_in.Goals as goal

-- the whole text is left
pub loop-word-init : goal.loop-word-init
loop-word-init c =
    let whole = ap split_whitespace_rest c.into_iter-word-iterator.ensures.into_iter_gives
    ∙ c.split_whitespace-word-items.ensures.rest in
    rw (whole, c.new-items.ensures.items) (λ others says. says, λ none. none)

-- the next word said an item
pub loop-word-preserved : goal.loop-word-preserved
loop-word-preserved c =
    let begins = word_of_step _ c.in-Some.word.now _ c.in-Some.ensures.steps in (
      goes_on c.args.file.now c.args.text.now (split_whitespace_rest c.loop-word.word-iterator)
          (split_whitespace_rest c.next.new.self)
          c.in-Some.word.now c.loop-word.items.items _ c.in-Some-item_of.item
          c.loop-word.invariant.0 begins (rw c.in-Some.word-is at c.in-Some-item_of.ensures) c.in_ok-add.ensures,
      goes_wrong c.args.file.now c.args.text.now (split_whitespace_rest c.loop-word.word-iterator)
          (split_whitespace_rest c.next.new.self)
          c.in-Some.word.now c.loop-word.invariant.1 begins,
    )

-- the next word says none
pub returns-in_default : goal.returns-in_default
returns-in_default c =
    let begins = word_of_step _ c.in-Some.word.now _ c.in-Some.ensures.steps in
    inl
    (c.loop-word.invariant.1 (first c.in-Some.word.now _ begins (rw c.in-Some.word-is at c.in_default.ensures)), refl)

-- no word is left
pub returns : goal.returns
returns c = all_said c.args.file.now c.args.text.now (split_whitespace_rest c.loop-word.word-iterator)
    c.loop-word.items.items c.loop-word.invariant.0 c.in-None.ensures.steps.1
