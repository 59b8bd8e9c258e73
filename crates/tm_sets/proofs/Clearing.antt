-- The first triple of a core goes.
use Rattle.std.proofs.Common.{◌≡◌, ℕ, ◌+◌, ◌*◌, ◌<◌, ◌≤◌, true, false, cond, eqb, List, length, get_or, set, None, refl}
use Rattle.std.proofs.Common.{sym, ap, ◌∙◌, arith}
use Rattle.std.proofs.Math.Logic.{∥∥₁_elim}
use Rattle.std.proofs.Math.Path.{fun_ext}
use Rattle.std.proofs.Props.{props}
use Rattle.std.proofs.lemmas.Bool.{eq-eqb, ne_eqb}
use Rattle.std.proofs.lemmas.List.{get_or-set_same, get_or-set_other, length-set}
use Rattle.std.specs.Ordering.{nat_cmp}
use Rattle.std.specs.Cmp.{nat_cmp_total}
use Rattle.std.specs.FinSet as lines
use Rattle.tm_sets.specs.declared.interface.Kind.{Kind}
use Rattle.tm_sets.specs.declared.interface.Kind.TheVariants.{Write}
use Rattle.tm_sets.specs.Content.{by_kind}
use Rattle.tm_sets.specs.Row.{entry_at, lines_in, slot_among, unhooked}
use Rattle.tm_sets.specs.Threaded.{Rows, OnLine, OnCore, after_on_line, before_on_line, after_on_core, IsThreaded}
use Rattle.tm_sets.specs.Threaded.{AreCounted, AreSized, fewer, if_read, if_written}
use Rattle.tm_sets.proofs.Adding.{if_read_len, if_written_len, led, slot_kept, slot_present, slots_kept}
use Rattle.tm_sets.proofs.Counting.{fails}
use Rattle.tm_sets.proofs.Emptying.{leave_same, counted_left, some, pair_falls}
use Rattle.tm_sets.proofs.Joining.{with_rank}
use Rattle.tm_sets.proofs.Leaving.{Left, Moved, threaded_left}
use Rattle.tm_sets.proofs.Linking.{left}
use Rattle.tm_sets.proofs.Members.{is_triple, stands, triple, absent, slot_nowhere}

-- the first entry of a core's list
pub record IsFirst (r : Rows) (core n : ℕ) : Type 0 where
  pub threaded : IsThreaded r
  pub counted : AreCounted r
  pub sized : AreSized r
  pub core_below : core < length r.core_heads
  pub first : get_or r.core_heads core 0 ≡ n + 1

-- the heads of the lines' lists, and the rows, once it is gone
abbrev pub heads_without : Rows → ℕ → List ℕ
heads_without r n =
    cond (eqb (before_on_line r.entries n) 0)
    (set r.line_heads (entry_at r.entries n).line (after_on_line r.entries n))
    r.line_heads

abbrev pub rows_without : Rows → ℕ → ℕ → Rows
rows_without r core n = record r {
  entries = unhooked r.entries n r.free;
  core_heads = set r.core_heads core (after_on_core r.entries n);
  line_heads = heads_without r n;
  free = n + 1;
  reads = if_read (entry_at r.entries n).kind (fewer r.reads core) r.reads;
  writes = if_written (entry_at r.entries n).kind (fewer r.writes core) r.writes;
}

-- the head of a line's list, told a new first place where the old one was first
head_moved : (heads : List ℕ) (line before after : ℕ) → line < length heads
    → Moved heads (cond (eqb before 0) (set heads line after) heads) line before after
head_moved heads line before after b = record {
  first = λ z. ap (λ t. get_or (cond t (set heads line after) heads) line 0) (eq-eqb before 0 z)
      ∙ get_or-set_same heads line after 0 b;
  later = λ d. ap (λ t. get_or (cond t (set heads line after) heads) line 0) (ne_eqb before 0 d);
  other = λ l d. elim (eqb before 0) as (λ t. get_or (cond t (set heads line after) heads) l 0 ≡ get_or heads l 0) [
    | true ↦ get_or-set_other heads line l after 0 d
    | false ↦ refl
  ];
}

module _ (r : Rows) (core n : ℕ) (is_first : IsFirst r core n) where
  open is_first use {threaded, counted, sized, core_below, first}

  pub its_place : OnCore r.entries core n
  its_place = ∥∥₁_elim threaded (hlevel props) (λ w. (w.2.cores core core_below).head_on n first)

  pub its_line_below : (entry_at r.entries n).line < r.line_count
  its_line_below = counted.line n its_place.0 its_place.1

  on_its_line : OnLine r.entries (entry_at r.entries n).line n
  on_its_line = (its_place.0, its_place.1, refl)

  pub after_core_in : after_on_core r.entries n ≤ length r.entries
  after_core_in = ∥∥₁_elim threaded (hlevel props) (λ w. led r.entries (after_on_core r.entries n)
      (λ h i. ((w.2.cores core core_below).after_on n h its_place i).0))

  pub after_line_in : after_on_line r.entries n ≤ length r.entries
  after_line_in = ∥∥₁_elim threaded (hlevel props) (λ w. led r.entries (after_on_line r.entries n)
      (λ h i. ((w.2.lines (entry_at r.entries n).line its_line_below).after_on n h on_its_line i).0))

  pub before_line_in : before_on_line r.entries n ≤ length r.entries
  before_line_in = ∥∥₁_elim threaded (hlevel props) (λ w. led r.entries (before_on_line r.entries n)
      (λ h i. ((w.2.lines_back (entry_at r.entries n).line its_line_below).before_on n h on_its_line i).0))

  its_left : Left r.entries (unhooked r.entries n r.free) n r.free
  its_left = left r.entries n r.free its_place.0 after_core_in before_line_in after_line_in its_place.1

  -- the lines that stay have lower slots
  falls : (e : ℕ) → OnCore r.entries core e → (e ≡ n → ⊥) → (entry_at r.entries e).kind ≡ Write
      → (entry_at r.entries n).kind ≡ Write
      → (entry_at r.entries e).slot < (entry_at r.entries n).slot
  falls e o d ke kn = ∥∥₁_elim threaded (hlevel props) (λ w.
      let l = w.2.cores core core_below in
      let a = l.first e n o first in
      let b : w.0 e ≡ w.0 n → ⊥ = λ i. d (l.apart e n o its_place i) in
      w.2.slots core n e its_place o kn ke (omega arith))

  reads_below : core < length r.reads
  reads_below = omega (arith, sized.reads, core_below)

  writes_below : core < length r.writes
  writes_below = omega (arith, sized.writes, core_below)

  pub its_count : 1 ≤ by_kind (get_or r.reads core 0) (get_or r.writes core 0) (entry_at r.entries n).kind
  its_count =
      some r (unhooked r.entries n r.free) n r.free core (entry_at r.entries n).kind its_left counted its_place.2 refl

  moved : Moved r.line_heads (heads_without r n) (entry_at r.entries n).line (before_on_line r.entries n)
      (after_on_line r.entries n)
  moved = head_moved r.line_heads (entry_at r.entries n).line (before_on_line r.entries n) (after_on_line r.entries n)
      (omega (arith, its_line_below, sized.lines))

  pub take_threaded : IsThreaded (rows_without r core n)
  take_threaded = ∥∥₁_elim threaded (hlevel props) (λ w. ∣ (
    with_rank w.0 n w.1,
    w.1 + 1,
    threaded_left r (unhooked r.entries n r.free) n core w.0 w.1 its_left w.2 core_below first (heads_without r n)
        (if_read (entry_at r.entries n).kind (fewer r.reads core) r.reads)
        (if_written (entry_at r.entries n).kind (fewer r.writes core) r.writes) its_line_below moved,
  ) ∣₁)

  pub take_counted : AreCounted (rows_without r core n)
  take_counted = counted_left r (unhooked r.entries n r.free) n r.free core (entry_at r.entries n).kind its_left counted
      its_place.2 refl
      core_below reads_below writes_below falls (heads_without r n) (after_on_core r.entries n) (n + 1)

  cores_len : length (set r.core_heads core (after_on_core r.entries n)) ≡ length r.core_heads
  cores_len = length-set r.core_heads core (after_on_core r.entries n)

  heads_len : length (heads_without r n) ≡ length r.line_heads
  heads_len = elim (eqb (before_on_line r.entries n) 0)
      as (λ t. length (cond t (set r.line_heads (entry_at r.entries n).line (after_on_line r.entries n)) r.line_heads)
      ≡ length r.line_heads) [
        | true ↦ length-set r.line_heads (entry_at r.entries n).line (after_on_line r.entries n)
        | false ↦ refl
      ]

  pub take_sized : AreSized (rows_without r core n)
  take_sized = record {
    entries = its_left.len ∙ sized.entries ∙ ap (λ x. x * (r.read_lines + r.write_lines)) (sym cores_len);
    lines = heads_len ∙ sized.lines;
    reads = if_read_len (entry_at r.entries n).kind (fewer r.reads core) r.reads (length-set r.reads core _)
        ∙ sized.reads ∙ sym cores_len;
    writes = if_written_len (entry_at r.entries n).kind (fewer r.writes core) r.writes (length-set r.writes core _)
        ∙ sized.writes ∙ sym cores_len;
  }

  pub take_falls : get_or r.reads core 0 + get_or r.writes core 0
      ≡ get_or (rows_without r core n).reads core 0 + get_or (rows_without r core n).writes core 0 + 1
  take_falls = pair_falls r (unhooked r.entries n r.free) n r.free core (entry_at r.entries n).kind its_left counted
      its_place.2 refl
      reads_below writes_below

  -- the lines of other cores stay, with their slots
  pub take_lines : (c : ℕ) (k : Kind) → (c ≡ core → ⊥)
      → lines_in (unhooked r.entries n r.free) c k ≡ lines_in r.entries c k
  take_lines c k d =
      leave_same r (unhooked r.entries n r.free) n r.free core (entry_at r.entries n).kind its_left counted its_place.2
      refl c k (λ e _. d e)

  pub take_slots : (c l : ℕ) → (c ≡ core → ⊥) → slot_among (unhooked r.entries n r.free) c l ≡ slot_among r.entries c l
  take_slots c l d = slots_kept r.entries (unhooked r.entries n r.free) c (take_lines c Write d) (λ q t.
      slot_kept r (rows_without r core n) c counted take_counted its_left.len (λ line i b s.
      let w = stands (entry_at r.entries i) c Write line s in
      let other : i ≡ n → ⊥ = λ e. d (sym w.at_core ∙ ap (λ p. (entry_at r.entries p).core) e ∙ its_place.2) in (
        triple (entry_at (unhooked r.entries n r.free) i) c Write line (record {
          is_held = its_left.old_held i other ∙ w.is_held;
          at_core = its_left.old_core i other ∙ w.at_core;
          at_kind = its_left.old_kind i other ∙ w.at_kind;
          at_line = its_left.old_line i other ∙ w.at_line;
        }),
        its_left.old_slot i other,
      )) q (slot_present r counted c q t)) l

-- a core without a first place has no line
none_there : (r : Rows) → IsThreaded r → (core : ℕ) → core < length r.core_heads → get_or r.core_heads core 0 ≡ 0
    → (k : Kind) (l i : ℕ) → i < length r.entries → is_triple (entry_at r.entries i) core k l ≡ false
none_there r threaded core b z k l i d = fails (is_triple (entry_at r.entries i) core k l) (λ t.
    let s = stands (entry_at r.entries i) core k l t in
    ∥∥₁_elim threaded (hlevel props) (λ w. (w.2.cores core b).some i (d, s.is_held, s.at_core) z))

pub none_left : (r : Rows) → IsThreaded r → (core : ℕ) → core < length r.core_heads → get_or r.core_heads core 0 ≡ 0
    → (k : Kind) → lines_in r.entries core k ≡ lines.empty
none_left r threaded core b z k =
    lines.same_set nat_cmp_total lines.nat_cmp-IsAntisymmetric (lines_in r.entries core k) lines.empty
    (λ q. absent r.entries core k q (none_there r threaded core b z k q) ∙ sym (lines.contains-empty nat_cmp q))

-- and no slot
pub none_slotted : (r : Rows) → IsThreaded r → (core : ℕ) → core < length r.core_heads → get_or r.core_heads core 0 ≡ 0
    → slot_among r.entries core ≡ (λ _. None)
none_slotted r threaded core b z = fun_ext (λ q. slot_nowhere r.entries core q (none_there r threaded core b z Write q))
