use Rattle.std.proofs.Common.{◌≡◌, ◌+◌, ◌-◌, ◌++◌, ◌∷◌, [], sym, ap, ◌∙◌, subst, arith}
use Rattle.std.proofs.lemmas.List.Sorted.{IsNonDecreasingBy-from_sort}
use Rattle.tm_sets.specs.Content.{same_kind}
use Rattle.tm_sets.specs.DirectoryRows.{rows_of}
use Rattle.tm_sets.proofs.Counting.{never}
use Rattle.tm_sets.proofs.CoreWalks.{at_place, visits_less}
use Rattle.tm_sets.proofs.Lists.{read_at, rising, same_lines, sorted_once}
use Rattle.tm_sets.proofs.Members.{same_kinds, kind_itself}
use Rattle.tm_sets.proofs.Telling.{Told, start_telling, pass_by, tell, all_told}
use Rattle.tm_sets.proofs.threaded.DirectorySets.listing.Goals as goal

pub loop-at-init : goal.loop-at-init
loop-at-init c =
    let mine = c.args.self.now in
    start_telling (rows_of mine) mine.threaded c.args.core c.requires c.index-at.result.now
    (read_at mine.core_heads.items c.requires c.from.ensures c.index-at.ensures) c.args.kind c.in_ok-lines.lines.items
    c.in_ok-lines.ensures.items

pub visit-entry-requires-clause-below : goal.visit-entry-requires-clause-below
visit-entry-requires-clause-below c =
    let at : c.loop-at.at ≡ c.loop-at.at - 1 + 1 = omega arith in
    omega (arith, (at_place c.loop-at.invariant.walk at).0)

pub visit-entry-requires-clause-few : goal.visit-entry-requires-clause-few
visit-entry-requires-clause-few c =
    let at : c.loop-at.at ≡ c.loop-at.at - 1 + 1 = omega arith in
    omega (arith, visits_less c.loop-at.invariant.walk at, c.args.self.now.few)

pub loop-at-smaller-in_ok-push : goal.loop-at-smaller-in_ok-push
loop-at-smaller-in_ok-push c =
    let at : c.loop-at.at ≡ c.loop-at.at - 1 + 1 = omega arith in
    omega (arith, visits_less c.loop-at.invariant.walk at, c.visit-entry.ensures.visited)

pub loop-at-preserved-in_ok-push : goal.loop-at-preserved-in_ok-push
loop-at-preserved-in_ok-push c =
    let at : c.loop-at.at ≡ c.loop-at.at - 1 + 1 = omega arith in
    let is = c.visit-entry.ensures.entry in
    subst (λ xs. Told (rows_of c.args.self.now) c.args.core c.args.kind xs c.visit-entry.result.after_on_core
    c.visit-entry.new.visited)
    (sym (c.in_ok-push.ensures.items ∙ ap (λ e. c.loop-at.lines.items ++ e.line ∷ []) is))
    (tell c.loop-at.invariant at c.args.self.now.counted (ap (λ e. e.after_on_core) is) c.visit-entry.ensures.visited
    (sym (ap (λ e. e.kind) is)
    ∙ same_kinds c.visit-entry.result.kind c.args.kind (sym c.is_of_kind.ensures ∙ c.if-is_of_kind.true)))

pub loop-at-smaller : goal.loop-at-smaller
loop-at-smaller c =
    let at : c.loop-at.at ≡ c.loop-at.at - 1 + 1 = omega arith in
    omega (arith, visits_less c.loop-at.invariant.walk at, c.visit-entry.ensures.visited)

pub loop-at-preserved : goal.loop-at-preserved
loop-at-preserved c =
    let at : c.loop-at.at ≡ c.loop-at.at - 1 + 1 = omega arith in
    let is = c.visit-entry.ensures.entry in
    pass_by c.loop-at.invariant at (ap (λ e. e.after_on_core) is) c.visit-entry.ensures.visited (λ k.
    never c.is_of_kind.result
    (c.is_of_kind.ensures ∙ ap (λ x. same_kind x c.args.kind) (ap (λ e. e.kind) is ∙ k) ∙ kind_itself c.args.kind)
    c.if-is_of_kind.false)

pub returns-clause-ascending : goal.returns-clause-ascending
returns-clause-ascending c =
    rising c.sort_unstable.new.self.items
    (IsNonDecreasingBy-from_sort (λ x. x) c.sort_unstable.new.self.items c.sort_unstable.ensures.sorted)
    (sorted_once c.loop-at.lines.items c.sort_unstable.new.self.items c.sort_unstable.ensures.permutation
    c.loop-at.invariant.once)

pub returns-clause-same : goal.returns-clause-same
returns-clause-same c =
    same_lines c.loop-at.lines.items c.sort_unstable.new.self.items c.sort_unstable.ensures.permutation
    ∙ all_told c.loop-at.invariant c.loop-at-test.false
