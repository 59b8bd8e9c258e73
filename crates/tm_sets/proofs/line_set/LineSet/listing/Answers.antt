use Rattle.std.proofs.Common.{◌≡◌, ◌∙◌, ap, subst}
use Rattle.std.specs.List.Sorted.{IsPermutation}
use Rattle.std.proofs.lemmas.List.Sorted.{IsNonDecreasingBy-from_sort}
use Rattle.tm_sets.specs.LineSet.{lines_of}
use Rattle.tm_sets.proofs.Lists.{rising, same_lines, sorted_once}
use Rattle.tm_sets.proofs.line_set.LineSet.listing.Goals as goal

pub returns-clause-ascending : goal.returns-clause-ascending
returns-clause-ascending c =
    let copy : c.in_ok-lines.lines.items ≡ c.self.inside.lines.items =
    c.in_ok-lines.ensures.items ∙ c.deref.ensures.value in
    let moved : IsPermutation c.self.inside.lines.items c.sort_unstable.new.self.items =
    subst (λ xs. IsPermutation xs c.sort_unstable.new.self.items) copy c.sort_unstable.ensures.permutation in
    rising c.sort_unstable.new.self.items
    (IsNonDecreasingBy-from_sort (λ x. x) c.sort_unstable.new.self.items c.sort_unstable.ensures.sorted)
    (sorted_once c.self.inside.lines.items c.sort_unstable.new.self.items moved c.self.invariant.0)

pub returns-clause-same : goal.returns-clause-same
returns-clause-same c =
    let copy : c.in_ok-lines.lines.items ≡ c.self.inside.lines.items =
    c.in_ok-lines.ensures.items ∙ c.deref.ensures.value in
    let moved : IsPermutation c.self.inside.lines.items c.sort_unstable.new.self.items =
    subst (λ xs. IsPermutation xs c.sort_unstable.new.self.items) copy c.sort_unstable.ensures.permutation in
    same_lines c.self.inside.lines.items c.sort_unstable.new.self.items moved
    ∙ ap (λ h. lines_of h.order) c.self.view_is
