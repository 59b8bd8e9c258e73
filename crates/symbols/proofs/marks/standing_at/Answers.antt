use Rattle.std.proofs.Common.{arith, leb, ltb, rules}
use Rattle.std.proofs.lemmas.List.Sorted.{IsPartitionPoint-from_clause, IsPartitionedBy-leb, IsPartitionedBy-ltb}
use Rattle.symbols.proofs.Between.{between_places, places_in_order}
use Rattle.symbols.proofs.marks.standing_at.Goals as goal

pub slice_bounds-result-count : goal.slice_bounds-result-count
slice_bounds-result-count c =
    let marks = c.args.marks.now in
    let at = c.args.at in
    let first = IsPartitionPoint-from_clause (λ m. ltb m.address at) marks _ c.partition_point-first.ensures.partitioned
    (IsPartitionedBy-ltb (λ m. m.address) marks at c.requires) (λ a r q k. search rules) in
    let end = IsPartitionPoint-from_clause (λ m. leb m.address at) marks _ c.partition_point-end.ensures.partitioned
    (IsPartitionedBy-leb (λ m. m.address) marks at c.requires) (λ a r q k. search rules) in
    let ordered = places_in_order (λ m. m.address) marks at c.partition_point-first.result c.partition_point-end.result
    c.partition_point-first.ensures.bound first.0 end.1 in
    omega (arith, ordered)

pub slice_bounds-result-start : goal.slice_bounds-result-start
slice_bounds-result-start c =
    let marks = c.args.marks.now in
    let at = c.args.at in
    let first = IsPartitionPoint-from_clause (λ m. ltb m.address at) marks _ c.partition_point-first.ensures.partitioned
    (IsPartitionedBy-ltb (λ m. m.address) marks at c.requires) (λ a r q k. search rules) in
    let end = IsPartitionPoint-from_clause (λ m. leb m.address at) marks _ c.partition_point-end.ensures.partitioned
    (IsPartitionedBy-leb (λ m. m.address) marks at c.requires) (λ a r q k. search rules) in
    let ordered = places_in_order (λ m. m.address) marks at c.partition_point-first.result c.partition_point-end.result
    c.partition_point-first.ensures.bound first.0 end.1 in
    omega (arith, ordered)

pub returns : goal.returns
returns c =
    let marks = c.args.marks.now in
    let at = c.args.at in
    let first = IsPartitionPoint-from_clause (λ m. ltb m.address at) marks _ c.partition_point-first.ensures.partitioned
    (IsPartitionedBy-ltb (λ m. m.address) marks at c.requires) (λ a r q k. search rules) in
    let end = IsPartitionPoint-from_clause (λ m. leb m.address at) marks _ c.partition_point-end.ensures.partitioned
    (IsPartitionedBy-leb (λ m. m.address) marks at c.requires) (λ a r q k. search rules) in
    let ordered = places_in_order (λ m. m.address) marks at c.partition_point-first.result c.partition_point-end.result
    c.partition_point-first.ensures.bound first.0 end.1 in
    between_places (λ m. m.address) marks at c.partition_point-first.result c.partition_point-end.result ordered
    c.partition_point-end.ensures.bound first.0 first.1 end.0 end.1
