use Rattle.std.proofs.Common.{sym, ap, subst, List, ℕ, ◌<◌, length}
use Rattle.tm_outcomes.specs.Outcomes.{AreDistinct, AreTold}
use Rattle.tm_outcomes.specs.declared.table.FoundOutcome.{FoundOutcome}
use Rattle.tm_outcomes.proofs.Tables.{distinct_more, distinct_set, told_last, told_more, told_set}
use Rattle.tm_outcomes.proofs.table.take_up.Goals as goal

pub returns-in-Some-clause-kept : goal.returns-in-Some-clause-kept
returns-in-Some-clause-kept c = λ other told.
    let table = c.args.table.now.items in
    told_set table c.in-Some.index _ c.index_mut.result.now other
    (subst (λ (t : List FoundOutcome). c.in-Some.index < length t) c.as_slice.ensures.value c.in-Some.ensures.within)
    (ap (λ (t : FoundOutcome). t.values.items) c.index_mut.ensures.value) told

pub returns-in-Some-clause-here : goal.returns-in-Some-clause-here
returns-in-Some-clause-here c =
    let table = c.args.table.now.items in
    told_set table c.in-Some.index _ c.index_mut.result.now c.args.values.items
    (subst (λ (t : List FoundOutcome). c.in-Some.index < length t) c.as_slice.ensures.value c.in-Some.ensures.within)
    (ap (λ (t : FoundOutcome). t.values.items) c.index_mut.ensures.value)
    (subst (λ (v : List ℕ). AreTold table v) c.as_slice-2.ensures.value
    (subst (λ (t : List FoundOutcome). AreTold t c.as_slice-2.result.now) c.as_slice.ensures.value
    c.in-Some.ensures.told))

pub returns-clause-here : goal.returns-clause-here
returns-clause-here c =
    subst (λ (t : List FoundOutcome). AreTold t c.args.values.items) (sym c.in_ok-push.ensures.items)
    (told_last c.args.table.now.items _)

pub returns-clause-kept : goal.returns-clause-kept
returns-clause-kept c = λ other told.
    subst (λ (t : List FoundOutcome). AreTold t other) (sym c.in_ok-push.ensures.items)
    (told_more c.args.table.now.items _ other told)

pub returns-in-Some-clause-once : goal.returns-in-Some-clause-once
returns-in-Some-clause-once c =
    let table = c.args.table.now.items in
    distinct_set table c.in-Some.index _ c.index_mut.result.now
    (subst (λ (t : List FoundOutcome). c.in-Some.index < length t) c.as_slice.ensures.value c.in-Some.ensures.within)
    (ap (λ (t : FoundOutcome). t.values.items) c.index_mut.ensures.value)

pub returns-clause-once : goal.returns-clause-once
returns-clause-once c = λ once.
    let table = c.args.table.now.items in
    let none : ¬ AreTold table c.args.values.items =
    subst (λ (v : List ℕ). ¬ AreTold table v) c.as_slice-2.ensures.value
    (subst (λ (t : List FoundOutcome). ¬ AreTold t c.as_slice-2.result.now) c.as_slice.ensures.value
    c.in_default.ensures.none) in
    subst (λ (t : List FoundOutcome). AreDistinct t) (sym c.in_ok-push.ensures.items) (distinct_more table _ once none)
