use Rattle.std.proofs.Common.{◌≡◌, ◌+◌, ◌-◌, ◌<◌, ◌++◌, ℕ, true, false, length, get_or, set, take, drop, vec_len, refl}
use Rattle.std.proofs.Common.{sym, ap, ◌∙◌, subst, arith, rules}
use Rattle.std.proofs.lemmas.List.{get_or_read, length-set}
use Rattle.std.specs.FinSet as lines
use Rattle.tm_sets.specs.declared.interface.Kind.{Kind}
use Rattle.tm_sets.specs.declared.threaded.Directory.{Directory}
use Rattle.tm_sets.specs.Content.{by_kind, with_line}
use Rattle.tm_sets.specs.Row.{no_entry, hooked, lines_in, slot_among}
use Rattle.tm_sets.specs.Threaded.{Rows, rows, AreCounted, AreSized, IsThreaded, if_read, if_written, more}
use Rattle.tm_sets.specs.Threaded.{threaded_content}
use Rattle.tm_sets.specs.DirectoryRows.{rows_of}
use Rattle.tm_sets.proofs.Adding.{IsNew, rows_with, lent, same_rows, free_some, free_place, core_head_in, line_head_in}
use Rattle.tm_sets.proofs.Adding.{add_threaded, add_counted, add_sized, add_content, add_slots, add_others}
use Rattle.tm_sets.proofs.Lists.{read_at}
use Rattle.tm_sets.proofs.threaded.Directory.put_first.Goals as goal
use Rattle.tm_sets.proofs.threaded.Directory.put_first.Goals.{After-count_more}

-- a triple that is new, and a free entry for it
record Room (d : Directory) (core : ℕ) (kind : Kind) (line : ℕ) : Type 0 where
  pub is_new : IsNew (rows_of d) core kind line
  pub some : d.free ≡ d.free - 1 + 1

room_for : (d : Directory) {core : ℕ} {kind : Kind} {line : ℕ} → core < length d.core_heads.items → line < d.line_count
    → lines.contains (lines_in d.entries.items core kind) line ≡ false
    → by_kind (get_or d.reads.items core 0) (get_or d.writes.items core 0) kind
    < by_kind d.read_lines d.write_lines kind
    → Room d core kind line
room_for d {core} {kind} {line} below in_memory new less =
    let is_new : IsNew (rows_of d) core kind line = record {
      threaded = d.threaded;
      counted = d.counted;
      sized = d.sized;
      core_below = below;
      line_below = in_memory;
      new = new;
      less = less;
    } in
    let some = free_some _ _ _ _ is_new in
    record { is_new = is_new; some = omega arith }

-- the rows as they come back from the calls that change them
abbrev rows_after : After-count_more → Rows
rows_after c =
    let d = c.args.self.now in
    rows
    (take d.entries.len (c.hook.new.entries ++ drop (length c.hook.new.entries) d.entries.items))
    (set d.core_heads.items c.from-3.result d.free)
    (set d.line_heads.items c.args.line d.free)
    c.index-4.result.now.after_on_core
    (take d.reads.len (c.count_more.new.reads ++ drop (length c.count_more.new.reads) d.reads.items))
    (take d.writes.len (c.count_more.new.writes ++ drop (length c.count_more.new.writes) d.writes.items))
    d.line_count d.read_lines d.write_lines

-- what the call came to
record Added (c : After-count_more) : Type 0 where
  pub is_new : IsNew (rows_of c.args.self.now) c.args.core c.args.kind c.args.line
  pub some : c.args.self.now.free ≡ c.args.self.now.free - 1 + 1
  pub rows_are : rows_with (rows_of c.args.self.now) c.args.core c.args.kind c.args.line (c.args.self.now.free - 1)
      ≡ rows_after c

added : (c : After-count_more) → Added c
added c =
    let d = c.args.self.now in
    let room = room_for d c.requires.core c.requires.line c.requires.new c.requires.room in
    let slot = read_at d.writes.items (omega (arith, c.requires.core, d.sized.writes)) c.from.ensures c.index.ensures in
    let core_head = read_at d.core_heads.items c.requires.core c.from-2.ensures c.index-2.ensures in
    let line_head = read_at d.line_heads.items (omega (arith, c.requires.line, d.sized.lines)) refl c.index-3.ensures in
    let next = get_or_read d.entries.items (d.free - 1) c.index-4.result.now
    (free_place _ _ _ _ room.is_new _ room.some).0 c.index-4.ensures no_entry in
    let now = sym (same_rows (rows_of d)
    (lent d.entries.len c.hook.new.entries _ (c.hook.auto.entries ∙ c.deref_mut.ensures.len) ∙ c.hook.ensures
    ∙ (λ i. hooked (c.deref_mut.ensures.value i) (d.free - 1) (record {
      held = true;
      core = c.args.core;
      kind = c.args.kind;
      line = c.args.line;
      slot = slot i;
      before_on_core = 0;
      after_on_core = core_head i;
      before_on_line = 0;
      after_on_line = line_head i;
    })))
    (λ i. set d.core_heads.items (c.from-3.ensures i) (room.some i))
    (λ i. set d.line_heads.items c.args.line (room.some i))
    (ap (λ e. e.after_on_core) next)
    (lent d.reads.len c.count_more.new.reads _ (c.count_more.auto.reads ∙ c.deref_mut-2.ensures.len)
    ∙ c.count_more.ensures.reads
    ∙ (λ i. if_read c.args.kind (more (c.deref_mut-2.ensures.value i) c.args.core) (c.deref_mut-2.ensures.value i)))
    (lent d.writes.len c.count_more.new.writes _ (c.count_more.auto.writes ∙ c.deref_mut-3.ensures.len)
    ∙ c.count_more.ensures.writes
    ∙ (λ i. if_written c.args.kind (more (c.deref_mut-3.ensures.value i) c.args.core)
    (c.deref_mut-3.ensures.value i)))) in
    record { is_new = room.is_new; some = room.some; rows_are = now }

pub overflow_sub-at : goal.overflow_sub-at
overflow_sub-at c =
    let room = room_for c.args.self.now c.requires.core c.requires.line c.requires.new c.requires.room in
    omega (arith, room.some)

pub overflow_sub-at-2 : goal.overflow_sub-at-2
overflow_sub-at-2 c =
    let room = room_for c.args.self.now c.requires.core c.requires.line c.requires.new c.requires.room in
    omega (arith, room.some)

pub index-requires-4 : goal.index-requires-4
index-requires-4 c =
    let len : vec_len c.args.self.now.entries ≡ length c.args.self.now.entries.items = search rules in
    let room = room_for c.args.self.now c.requires.core c.requires.line c.requires.new c.requires.room in
    omega (arith, (free_place _ _ _ _ room.is_new _ room.some).0)

pub hook-requires-clause-place : goal.hook-requires-clause-place
hook-requires-clause-place c =
    let room = room_for c.args.self.now c.requires.core c.requires.line c.requires.new c.requires.room in
    omega (arith, (free_place _ _ _ _ room.is_new _ room.some).0, ap length c.deref_mut.ensures.value)

pub hook-requires-clause-core : goal.hook-requires-clause-core
hook-requires-clause-core c =
    let room = room_for c.args.self.now c.requires.core c.requires.line c.requires.new c.requires.room in
    let head = read_at c.args.self.now.core_heads.items c.requires.core c.from-2.ensures c.index-2.ensures in
    omega (arith, head, ap length c.deref_mut.ensures.value, core_head_in _ _ _ _ room.is_new)

pub hook-requires-clause-line : goal.hook-requires-clause-line
hook-requires-clause-line c =
    let d = c.args.self.now in
    let room = room_for d c.requires.core c.requires.line c.requires.new c.requires.room in
    let head = read_at d.line_heads.items (omega (arith, c.requires.line, d.sized.lines)) refl c.index-3.ensures in
    omega (arith, head, ap length c.deref_mut.ensures.value, line_head_in _ _ _ _ room.is_new)

pub invariant_of-self-clause-threaded : goal.invariant_of-self-clause-threaded
invariant_of-self-clause-threaded c =
    let a = added (goal.at.invariant_of-self-clause-threaded c).After-count_more in
    subst IsThreaded a.rows_are (add_threaded _ _ _ _ a.is_new _ a.some)

pub invariant_of-self-clause-counted : goal.invariant_of-self-clause-counted
invariant_of-self-clause-counted c =
    let a = added (goal.at.invariant_of-self-clause-counted c).After-count_more in
    subst AreCounted a.rows_are (add_counted _ _ _ _ a.is_new _ a.some)

pub invariant_of-self-clause-sized : goal.invariant_of-self-clause-sized
invariant_of-self-clause-sized c =
    let a = added (goal.at.invariant_of-self-clause-sized c).After-count_more in
    subst AreSized a.rows_are (add_sized _ _ _ _ a.is_new _ a.some)

pub invariant_of-self-clause-cores : goal.invariant_of-self-clause-cores
invariant_of-self-clause-cores c =
    omega
    (arith, c.args.self.now.cores, length-set c.args.self.now.core_heads.items c.from-3.result c.args.self.now.free)

pub returns-clause-content : goal.returns-clause-content
returns-clause-content c =
    let a = added (goal.at.returns-clause-content c).After-count_more in
    sym (ap threaded_content a.rows_are) ∙ add_content _ _ _ _ a.is_new _ a.some
    ∙ ap (λ (r : Rows). with_line (threaded_content (rows_of c.args.self.now)) c.args.core c.args.kind c.args.line
    (slot_among r.entries)) a.rows_are

pub returns-clause-kept : goal.returns-clause-kept
returns-clause-kept c old there =
    let a = added (goal.at.returns-clause-kept c).After-count_more in
    sym (ap (λ (r : Rows). slot_among r.entries c.args.core old) a.rows_are)
    ∙ add_slots _ _ _ _ a.is_new _ a.some c.args.core old there

pub returns-clause-others : goal.returns-clause-others
returns-clause-others c other apart =
    let a = added (goal.at.returns-clause-others c).After-count_more in
    sym (ap (λ (r : Rows). slot_among r.entries other) a.rows_are) ∙ add_others _ _ _ _ a.is_new _ a.some other apart
