use Rattle.std.proofs.Common.{◌≡◌, ℕ, List, length, map, rules, subst, take_all, ap, ◌∙◌, ◌≤◌}
use Rattle.std.proofs.lemmas.List.Sorted.{IsNonDecreasingBy-from_sort_by_key, IsPermutation-map}
use Rattle.std.specs.List.Sorted.{IsPermutation}
use Rattle.symbols.specs.Shown.{shown_name}
use Rattle.symbols.specs.declared.symbol.Symbol.{Symbol}
use Rattle.symbols.specs.declared.marks.Mark.{Mark}
use Rattle.symbols.proofs.marks.marks_of.Goals as goal

pub returns-clause-sorted : goal.returns-clause-sorted
returns-clause-sorted c =
    IsNonDecreasingBy-from_sort_by_key (λ m. m.address) _ c.in_ok-sort_by_key.ensures.sorted (λ a r q k. search rules)

pub returns-clause-names : goal.returns-clause-names
returns-clause-names c =
    let symbols : List Symbol = c.args.symbols.now in
    let names : List Symbol → List (List ℕ) = λ list. map (λ s. shown_name s.name.items) list in
    let sorted : List Mark = c.sort_by_key.new.self.items in
    let behind : length symbols ≤ c.loop-symbol.symbol-index = c.loop-symbol-test.false in
    let all : map (λ (m : Mark). m.name.now) c.loop-symbol.marks.items ≡ names symbols =
    c.loop-symbol.invariant ∙ ap names (take_all c.loop-symbol.symbol-index symbols behind) in
    subst (λ (list : List (List ℕ)). IsPermutation list (map (λ (m : Mark). m.name.now) sorted)) all
    (IsPermutation-map (λ (m : Mark). m.name.now) _ sorted c.in_ok-sort_by_key.ensures.permutation)
