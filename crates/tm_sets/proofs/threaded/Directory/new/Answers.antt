use Rattle.std.proofs.Common.{◌≡◌, ◌+◌, ◌*◌, ◌≤◌, length, sym, ap, ◌∙◌, arith}
use Rattle.std.proofs.Math.ListN.{replicate}
use Rattle.std.proofs.lemmas.Nat.{mul-le}
use Rattle.tm_sets.specs.Threaded.{AreSized, Rows, rows}
use Rattle.tm_sets.proofs.Making.{IsFresh, all_zero, zeros_length, fresh_threaded, fresh_counted, fresh_content}
use Rattle.tm_sets.proofs.threaded.Directory.new.Goals as goal
use Rattle.tm_sets.proofs.threaded.Directory.new.Goals.{In_ok-writes}

-- the rows as they are made
abbrev rows_made : In_ok-writes → Rows
rows_made c =
    rows c.in_ok-entries.entries.items c.in_ok-core_heads.core_heads.items c.in_ok-line_heads.line_heads.items
    (c.from.result * (c.args.read_lines + c.args.write_lines)) c.in_ok-reads.reads.items c.in_ok-writes.writes.items
    c.args.lines c.args.read_lines c.args.write_lines

record Made (c : In_ok-writes) : Type 0 where
  pub is_fresh : IsFresh (rows_made c)
  pub sized : AreSized (rows_made c)
  pub cores : length c.in_ok-core_heads.core_heads.items ≡ c.args.cores

made : (c : In_ok-writes) → Made c
made c =
    let core_heads : c.in_ok-core_heads.core_heads.items ≡ replicate c.from-2.result 0 =
    c.in_ok-core_heads.ensures.items_if_clones_equal (λ y e. e) in
    let line_heads : c.in_ok-line_heads.line_heads.items ≡ replicate c.args.lines 0 =
    c.in_ok-line_heads.ensures.items_if_clones_equal (λ y e. e) in
    let reads : c.in_ok-reads.reads.items ≡ replicate c.from-3.result 0 =
    c.in_ok-reads.ensures.items_if_clones_equal (λ y e. e) in
    let writes : c.in_ok-writes.writes.items ≡ replicate c.from-4.result 0 =
    c.in_ok-writes.ensures.items_if_clones_equal (λ y e. e) in
    let cores : length c.in_ok-core_heads.core_heads.items ≡ c.args.cores =
    zeros_length _ _ core_heads ∙ c.from-2.ensures in
    let is_fresh : IsFresh (rows_made c) = record {
      row = λ place below. c.in_ok-entries.ensures.free place (omega (arith, below, c.in_ok-entries.ensures.count));
      core_heads = all_zero _ _ core_heads;
      line_heads = all_zero _ _ line_heads;
      reads = all_zero _ _ reads;
      writes = all_zero _ _ writes;
      free = sym c.in_ok-entries.ensures.count;
    } in
    let sized : AreSized (rows_made c) = record {
      entries = c.in_ok-entries.ensures.count
          ∙ ap (λ n. n * (c.args.read_lines + c.args.write_lines)) (c.from.ensures ∙ sym cores);
      lines = zeros_length _ _ line_heads;
      reads = zeros_length _ _ reads ∙ c.from-3.ensures ∙ sym cores;
      writes = zeros_length _ _ writes ∙ c.from-4.ensures ∙ sym cores;
    } in
    record { is_fresh = is_fresh; sized = sized; cores = cores }

pub invariant_of-result-clause-few : goal.invariant_of-result-clause-few
invariant_of-result-clause-few c =
    let most : c.from.result * (c.args.read_lines + c.args.write_lines) ≤ 64 * 8192 =
    mul-le c.from.result (c.args.read_lines + c.args.write_lines) 64 8192 (omega (arith, c.from.ensures))
    (omega arith) in
    omega (arith, c.in_ok-entries.ensures.count)

pub invariant_of-result-clause-cores : goal.invariant_of-result-clause-cores
invariant_of-result-clause-cores c =
    omega (arith, (made (goal.at.invariant_of-result-clause-cores c).In_ok-writes).cores)

pub invariant_of-result-clause-sized : goal.invariant_of-result-clause-sized
invariant_of-result-clause-sized c = (made (goal.at.invariant_of-result-clause-sized c).In_ok-writes).sized

pub invariant_of-result-clause-counted : goal.invariant_of-result-clause-counted
invariant_of-result-clause-counted c =
    fresh_counted _ (made (goal.at.invariant_of-result-clause-counted c).In_ok-writes).is_fresh

pub invariant_of-result-clause-threaded : goal.invariant_of-result-clause-threaded
invariant_of-result-clause-threaded c =
    fresh_threaded _ (made (goal.at.invariant_of-result-clause-threaded c).In_ok-writes).is_fresh

pub returns-clause-content : goal.returns-clause-content
returns-clause-content c =
    let m = made (goal.at.returns-clause-content c).In_ok-writes in
    fresh_content _ m.is_fresh c.args.cores m.cores
