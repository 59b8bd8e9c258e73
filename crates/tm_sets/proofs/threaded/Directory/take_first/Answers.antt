use Rattle.std.proofs.Common.{◌≡◌, ◌+◌, ◌-◌, ◌≤◌, ◌<◌, ◌++◌, ℕ, cond, eqb, length, get_or, set, take, drop, vec_len}
use Rattle.std.proofs.Common.{sym, ap, ◌∙◌, subst, arith, rules}
use Rattle.std.proofs.lemmas.List.{get_or_read, length-set}
use Rattle.tm_sets.specs.Content.{by_kind}
use Rattle.tm_sets.specs.declared.row.Entry.{Entry}
use Rattle.tm_sets.specs.declared.threaded.Directory.{Directory}
use Rattle.tm_sets.specs.Row.{entry_at, no_entry, unhooked, slot_among, lines_in}
use Rattle.tm_sets.specs.Threaded.{Rows, rows, AreCounted, AreSized, IsThreaded, if_read, if_written, fewer}
use Rattle.tm_sets.specs.DirectoryRows.{rows_of}
use Rattle.tm_sets.proofs.Adding.{lent, same_rows}
use Rattle.tm_sets.proofs.Clearing.{IsFirst, rows_without, its_place, its_line_below, after_core_in, after_line_in}
use Rattle.tm_sets.proofs.Clearing.{before_line_in, its_count, take_threaded, take_counted, take_sized, take_falls}
use Rattle.tm_sets.proofs.Clearing.{take_lines, take_slots}
use Rattle.tm_sets.proofs.Lists.{read_at}
use Rattle.tm_sets.proofs.threaded.Directory.take_first.Goals as goal
use Rattle.tm_sets.proofs.threaded.Directory.take_first.Goals.{After-count_fewer}

-- the core's first entry, told by its head
record First (d : Directory) (core told : ℕ) : Type 0 where
  pub some : told ≡ told - 1 + 1
  pub is : IsFirst (rows_of d) core (told - 1)

first_is : (d : Directory) {core from told : ℕ} → core < length d.core_heads.items
    → 1 ≤ get_or d.core_heads.items core 0
    → from ≡ core → told ≡ get_or d.core_heads.items from told → First d core told
first_is d {core} {from} {told} below one at read =
    let head : told ≡ get_or d.core_heads.items core 0 = read_at d.core_heads.items below at read in
    let some : told ≡ told - 1 + 1 = omega (arith, head, one) in
    let is_first : IsFirst (rows_of d) core (told - 1) =
    record {
      threaded = d.threaded;
      counted = d.counted;
      sized = d.sized;
      core_below = below;
      first = sym head ∙ some;
    } in
    record { some = some; is = is_first }

-- its entry as it was read
entry_is : {d : Directory} {core told : ℕ} {entry : Entry} → First d core told
    → entry ≡ get_or d.entries.items (told - 1) entry → entry ≡ entry_at d.entries.items (told - 1)
entry_is {d} {core} {told} {entry} first read =
    get_or_read d.entries.items (told - 1) entry (its_place _ _ _ first.is).0 read no_entry

-- the rows as they come back from the calls that change them
abbrev rows_after : After-count_fewer → Rows
rows_after c =
    let d = c.args.self.now in
    rows
    (take d.entries.len (c.unhook.new.entries ++ drop (length c.unhook.new.entries) d.entries.items))
    (set d.core_heads.items c.from-2.result c.index-entry.result.now.after_on_core)
    (take d.line_heads.len (c.move_head.new.line_heads ++ drop (length c.move_head.new.line_heads) d.line_heads.items))
    c.index-at.result.now
    (take d.reads.len (c.count_fewer.new.reads ++ drop (length c.count_fewer.new.reads) d.reads.items))
    (take d.writes.len (c.count_fewer.new.writes ++ drop (length c.count_fewer.new.writes) d.writes.items))
    d.line_count d.read_lines d.write_lines

-- what the call came to
record Taken (c : After-count_fewer) : Type 0 where
  pub first : IsFirst (rows_of c.args.self.now) c.args.core (c.index-at.result.now - 1)
  pub rows_are : rows_without (rows_of c.args.self.now) c.args.core (c.index-at.result.now - 1) ≡ rows_after c

taken : (c : After-count_fewer) → Taken c
taken c =
    let d = c.args.self.now in
    let first = first_is c.args.self.now c.requires.core c.requires.some c.from.ensures c.index-at.ensures in
    let entry = entry_is first c.index-entry.ensures in
    let now =
    sym (same_rows (rows_of d)
    (lent d.entries.len c.unhook.new.entries _ (c.unhook.auto.entries ∙ c.deref_mut.ensures.len) ∙ c.unhook.ensures
    ∙ (λ i. unhooked (c.deref_mut.ensures.value i) (c.index-at.result.now - 1) d.free))
    (λ i. set d.core_heads.items (c.from-2.ensures i) (entry i).after_on_core)
    (lent d.line_heads.len c.move_head.new.line_heads _ (c.move_head.auto.line_heads ∙ c.deref_mut-2.ensures.len)
    ∙ c.move_head.ensures
    ∙ (λ i. cond (eqb (entry i).before_on_line 0)
    (set (c.deref_mut-2.ensures.value i) (entry i).line (entry i).after_on_line) (c.deref_mut-2.ensures.value i)))
    first.some
    (lent d.reads.len c.count_fewer.new.reads _ (c.count_fewer.auto.reads ∙ c.deref_mut-3.ensures.len)
    ∙ c.count_fewer.ensures.reads
    ∙ (λ i. if_read (entry i).kind (fewer (c.deref_mut-3.ensures.value i) c.args.core) (c.deref_mut-3.ensures.value i)))
    (lent d.writes.len c.count_fewer.new.writes _ (c.count_fewer.auto.writes ∙ c.deref_mut-4.ensures.len)
    ∙ c.count_fewer.ensures.writes
    ∙ (λ i. if_written (entry i).kind (fewer (c.deref_mut-4.ensures.value i) c.args.core)
    (c.deref_mut-4.ensures.value i)))) in
    record { first = first.is; rows_are = now }

pub index-entry-requires : goal.index-entry-requires
index-entry-requires c =
    let len : vec_len c.args.self.now.entries ≡ length c.args.self.now.entries.items = search rules in
    omega (
      arith,
      (its_place _ _ _
          (first_is c.args.self.now c.requires.core c.requires.some c.from.ensures c.index-at.ensures).is).0,
    )

pub unhook-requires-clause-place : goal.unhook-requires-clause-place
unhook-requires-clause-place c =
    let first = first_is c.args.self.now c.requires.core c.requires.some c.from.ensures c.index-at.ensures in
    omega (arith, (its_place _ _ _ first.is).0, ap length c.deref_mut.ensures.value)

pub unhook-requires-clause-core : goal.unhook-requires-clause-core
unhook-requires-clause-core c =
    let first = first_is c.args.self.now c.requires.core c.requires.some c.from.ensures c.index-at.ensures in
    subst (λ es. (entry_at es (c.index-at.result.now - 1)).after_on_core ≤ length es) (sym c.deref_mut.ensures.value)
    (after_core_in _ _ _ first.is)

pub unhook-requires-clause-before : goal.unhook-requires-clause-before
unhook-requires-clause-before c =
    let first = first_is c.args.self.now c.requires.core c.requires.some c.from.ensures c.index-at.ensures in
    subst (λ es. (entry_at es (c.index-at.result.now - 1)).before_on_line ≤ length es) (sym c.deref_mut.ensures.value)
    (before_line_in _ _ _ first.is)

pub unhook-requires-clause-after : goal.unhook-requires-clause-after
unhook-requires-clause-after c =
    let first = first_is c.args.self.now c.requires.core c.requires.some c.from.ensures c.index-at.ensures in
    subst (λ es. (entry_at es (c.index-at.result.now - 1)).after_on_line ≤ length es) (sym c.deref_mut.ensures.value)
    (after_line_in _ _ _ first.is)

pub move_head-requires : goal.move_head-requires
move_head-requires c =
    let first = first_is c.args.self.now c.requires.core c.requires.some c.from.ensures c.index-at.ensures in
    let line = ap (λ e. e.line) (entry_is first c.index-entry.ensures) in
    omega
    (arith, its_line_below _ _ _ first.is, line, c.args.self.now.sized.lines, ap length c.deref_mut-2.ensures.value)

pub count_fewer-requires-clause-some : goal.count_fewer-requires-clause-some
count_fewer-requires-clause-some c =
    let first = first_is c.args.self.now c.requires.core c.requires.some c.from.ensures c.index-at.ensures in
    let entry = entry_is first c.index-entry.ensures in
    let count :
    by_kind (get_or c.deref_mut-3.result.now c.args.core 0) (get_or c.deref_mut-4.result.now c.args.core 0)
    c.index-entry.result.now.kind
    ≡ by_kind (get_or c.args.self.now.reads.items c.args.core 0) (get_or c.args.self.now.writes.items c.args.core 0)
    (entry_at c.args.self.now.entries.items (c.index-at.result.now - 1)).kind =
    λ i. by_kind (get_or (c.deref_mut-3.ensures.value i) c.args.core 0)
    (get_or (c.deref_mut-4.ensures.value i) c.args.core 0) (entry i).kind in
    subst (λ k. 1 ≤ k) (sym count) (its_count _ _ _ first.is)

pub invariant_of-self-clause-threaded : goal.invariant_of-self-clause-threaded
invariant_of-self-clause-threaded c =
    let t = taken (goal.at.invariant_of-self-clause-threaded c).After-count_fewer in
    subst IsThreaded t.rows_are (take_threaded _ _ _ t.first)

pub invariant_of-self-clause-counted : goal.invariant_of-self-clause-counted
invariant_of-self-clause-counted c =
    let t = taken (goal.at.invariant_of-self-clause-counted c).After-count_fewer in
    subst AreCounted t.rows_are (take_counted _ _ _ t.first)

pub invariant_of-self-clause-sized : goal.invariant_of-self-clause-sized
invariant_of-self-clause-sized c =
    let t = taken (goal.at.invariant_of-self-clause-sized c).After-count_fewer in
    subst AreSized t.rows_are (take_sized _ _ _ t.first)

pub invariant_of-self-clause-cores : goal.invariant_of-self-clause-cores
invariant_of-self-clause-cores c =
    omega (
      arith,
      c.args.self.now.cores,
      length-set c.args.self.now.core_heads.items c.from-2.result c.index-entry.result.now.after_on_core,
    )

pub returns-clause-lines : goal.returns-clause-lines
returns-clause-lines c other kind apart =
    let t = taken (goal.at.returns-clause-lines c).After-count_fewer in
    sym (ap (λ (r : Rows). lines_in r.entries other kind) t.rows_are) ∙ take_lines _ _ _ t.first other kind apart

pub returns-clause-slots : goal.returns-clause-slots
returns-clause-slots c other line apart =
    let t = taken (goal.at.returns-clause-slots c).After-count_fewer in
    sym (ap (λ (r : Rows). slot_among r.entries other line) t.rows_are) ∙ take_slots _ _ _ t.first other line apart

pub returns-clause-fewer : goal.returns-clause-fewer
returns-clause-fewer c =
    let t = taken (goal.at.returns-clause-fewer c).After-count_fewer in
    take_falls _ _ _ t.first
    ∙ ap (λ (r : Rows). get_or r.reads c.args.core 0 + get_or r.writes c.args.core 0 + 1) t.rows_are
