use Rattle.std.proofs.Common.{◌≡◌, ℕ, Bool, true, not, Option, Some, None, IsTrue, IfNone, subst, arith}
use Rattle.std.specs.Option.{is_some}
use Rattle.tm_sets.specs.DirectoryRows.{rows_of}
use Rattle.tm_sets.proofs.Triples.{counted_exact, counted_few, entries_are_triples}
use Rattle.tm_sets.proofs.threaded.DirectorySets.has.Goals as goal

where_none : {P : Type 0} (o : Option ℕ) (b : Bool) → b ≡ is_some o → IsTrue (not b) → IfNone o P → P
where_none None b e t p = p
where_none (Some x) b e t p = let z : IsTrue (not true) = subst (λ y. IsTrue (not y)) e t in cc

pub returns-clause-most : goal.returns-clause-most
returns-clause-most c =
    let told = entries_are_triples (rows_of c.args.self.now) c.args.self.now.counted c.args.line in
    omega (arith, c.find-place.ensures.visited, c.saturating_add-self.ensures)

pub returns-clause-all : goal.returns-clause-all
returns-clause-all c absent = counted_exact (rows_of c.args.self.now) c.args.self.now.counted c.args.line _
    (where_none c.find-place.result.0 c.is_some.result c.is_some.ensures absent c.find-place.ensures.none)
    c.saturating_add-self.ensures

pub returns-clause-few : goal.returns-clause-few
returns-clause-few c = counted_few (rows_of c.args.self.now) c.args.self.now.counted c.args.line _
    c.find-place.ensures.visited c.saturating_add-self.ensures
