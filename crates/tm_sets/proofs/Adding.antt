-- A new triple.
use Rattle.std.proofs.Common.{◌≡◌, ℕ, zero, suc, ◌+◌, ◌-◌, ◌*◌, ◌<◌, ◌≤◌, Bool, true, false, cond, eqb, ◌&&◌, List, []}
use Rattle.std.proofs.Common.{◌∷◌, ◌++◌, length, get_or, set, sum, take, drop, Option, Some, None, refl, sym, ap, ◌∙◌}
use Rattle.std.proofs.Common.{⊎_elim, ◌⊎◌, inl, inr, subst, arith}
use Rattle.std.proofs.Math.Logic.{∥∥₁_elim}
use Rattle.std.proofs.Math.Path.{fun_ext}
use Rattle.std.proofs.Math.Seq.{take-append_seam}
use Rattle.std.proofs.Props.{props}
use Rattle.std.proofs.lemmas.Bool.{eq-eqb}
use Rattle.std.proofs.lemmas.List.{length-set}
use Rattle.std.proofs.lemmas.List.Sums.{sum_by-cons}
use native.Mathlib.Nat.{mul-add}
use Rattle.std.specs.Option.{is_some, IsSome}
use Rattle.std.specs.FinSet as lines
use Rattle.tm_sets.specs.declared.interface.Kind.{Kind}
use Rattle.tm_sets.specs.declared.interface.Kind.TheVariants.{Read, Write}
use Rattle.tm_sets.specs.declared.row.Entry.{Entry}
use Rattle.tm_sets.specs.Content.{Content, by_kind, same_kind, with_line}
use Rattle.tm_sets.specs.Count.{count_below}
use Rattle.tm_sets.specs.Row.{entry_at, lines_in, slot_among, hooked}
use Rattle.tm_sets.specs.Threaded.{Rows, rows, held, IsFree, after_on_core, IsThreaded, AreCounted, AreSized, more}
use Rattle.tm_sets.specs.Threaded.{if_read, if_written, threaded_content}
use Rattle.tm_sets.proofs.Contents.{join_lines, join_same, counted_joined}
use Rattle.tm_sets.proofs.Counting.{tested, never, both, equal, count_all}
use Rattle.tm_sets.proofs.Lists.{kept}
use Rattle.tm_sets.proofs.Joining.{Joined, threaded_joined, with_rank}
use Rattle.tm_sets.proofs.Linking.{joined}
use Rattle.tm_sets.proofs.Members.{is_triple, stands, triple, Place, place_of, same_kinds, slot_there, slot_absent}

-- a list that was lent comes back whole
pub lent : {A : Type 0} (n : ℕ) (xs ys : List A) → length xs ≡ n → take n (xs ++ ys) ≡ xs
lent n xs ys e = ap (λ m. take m (xs ++ ys)) (sym e) ∙ take-append_seam xs ys

-- a sum, and a row of numbers that are at most r, by one number more
sum_more : (x : ℕ) (xs : List ℕ) (r : ℕ) → (sum (x ∷ xs) ≡ x + sum xs) × (suc (length xs) * r ≡ length xs * r + r)
sum_more x xs r = (sum_by-cons (λ n. n) x xs, search Rattle.std.proofs.Common.rules)

sum_le : (xs : List ℕ) (r : ℕ) → ((c : ℕ) → get_or xs c 0 ≤ r) → sum xs ≤ length xs * r
sum_le [] r h = omega arith
sum_le (x ∷ xs) r h =
    let s = sum_more x xs r in
    let d : x ≤ r = h 0 in
    omega (arith, s.0, s.1, sum_le xs r (λ c. h (suc c)))

sum_less : (xs : List ℕ) (r k : ℕ) → ((c : ℕ) → get_or xs c 0 ≤ r) → k < length xs → get_or xs k 0 < r
    → sum xs < length xs * r
sum_less [] r k h b l = absurd (omega arith)
sum_less (x ∷ xs) r zero h b l = let s = sum_more x xs r in omega (arith, s.0, s.1, sum_le xs r (λ c. h (suc c)))
sum_less (x ∷ xs) r (suc k) h b l =
    let s = sum_more x xs r in
    let d : x ≤ r = h 0 in
    omega (arith, s.0, s.1, sum_less xs r k (λ c. h (suc c)) (omega arith) l)

-- contents are alike where all lines, the slots and what is fixed are
pub same_content : (a b : Content) → ((c : ℕ) (k : Kind) → a.lines c k ≡ b.lines c k)
    → ((c : ℕ) → a.slots c ≡ b.slots c) → a.fixed ≡ b.fixed → a ≡ b
same_content a b h g f =
    let l : a.lines ≡ b.lines = fun_ext (λ c. fun_ext (λ k. h c k)) in
    let s : a.slots ≡ b.slots = fun_ext g in
    λ i. record { lines = l i; slots = s i; fixed = f i }

-- rows of the same parts
pub same_rows : (r : Rows) {es fs : List Entry} {ch ch' lh lh' : List ℕ} {f f' : ℕ} {rs rs' ws ws' : List ℕ}
    → es ≡ fs → ch ≡ ch' → lh ≡ lh' → f ≡ f' → rs ≡ rs' → ws ≡ ws'
    → rows es ch lh f rs ws r.line_count r.read_lines r.write_lines
    ≡ rows fs ch' lh' f' rs' ws' r.line_count r.read_lines r.write_lines
same_rows r a b c d e g = λ i. rows (a i) (b i) (c i) (d i) (e i) (g i) r.line_count r.read_lines r.write_lines

-- a slot tells an entry
pub slot_place : (es : List Entry) (c l : ℕ) → is_some (slot_among es c l) ≡ true → Place es c Write l
slot_place es c l t = ⊎_elim
    (λ (s : lines.contains (lines_in es c Write) l ≡ true). place_of es c Write l s)
    (λ (s : lines.contains (lines_in es c Write) l ≡ false). never (is_some (slot_among es c l)) t
    (ap is_some (slot_absent es c l s)))
    (tested (lines.contains (lines_in es c Write) l))

-- one entry at most stands for a triple
pub alone : (r : Rows) → AreCounted r → (c : ℕ) (k : Kind) (l p : ℕ) → p < length r.entries
    → is_triple (entry_at r.entries p) c k l ≡ true
    → (i : ℕ) → i < length r.entries → is_triple (entry_at r.entries i) c k l ≡ true → i ≡ p
alone r a c k l p b t i d s =
    let x = stands (entry_at r.entries p) c k l t in
    let y = stands (entry_at r.entries i) c k l s in
    a.once i p d b y.is_held x.is_held (y.at_core ∙ sym x.at_core) (y.at_kind ∙ sym x.at_kind)
    (y.at_line ∙ sym x.at_line)

-- the slot of a line whose entry stays is the same
pub slot_kept : (r q : Rows) (c : ℕ) → AreCounted r → AreCounted q → length q.entries ≡ length r.entries
    → ((l i : ℕ) → i < length r.entries → is_triple (entry_at r.entries i) c Write l ≡ true
    → (is_triple (entry_at q.entries i) c Write l ≡ true) × ((entry_at q.entries i).slot ≡ (entry_at r.entries i).slot))
    → (l : ℕ) → is_some (slot_among r.entries c l) ≡ true → slot_among q.entries c l ≡ slot_among r.entries c l
slot_kept r q c a b len h l t =
    let p = slot_place r.entries c l t in
    let w = h l p.place p.below p.is in
    let inside : p.place < length q.entries = omega (arith, p.below, len) in
    slot_there q.entries p.place c l inside w.0 (alone q b c Write l p.place inside w.0)
    ∙ ap Some w.1
    ∙ sym (slot_there r.entries p.place c l p.below p.is (alone r a c Write l p.place p.below p.is))

-- a row has the slots that it had where it has the same lines and their slots stay
pub slots_kept : (es fs : List Entry) (c : ℕ) → lines_in fs c Write ≡ lines_in es c Write
    → ((l : ℕ) → lines.contains (lines_in es c Write) l ≡ true → slot_among fs c l ≡ slot_among es c l)
    → (l : ℕ) → slot_among fs c l ≡ slot_among es c l
slots_kept es fs c same h l = ⊎_elim
    (λ (t : lines.contains (lines_in es c Write) l ≡ true). h l t)
    (λ (t : lines.contains (lines_in es c Write) l ≡ false).
    slot_absent fs c l (ap (λ x. lines.contains x l) same ∙ t) ∙ sym (slot_absent es c l t))
    (tested (lines.contains (lines_in es c Write) l))

-- a line that is there has a slot
pub slot_present : (r : Rows) → AreCounted r → (c l : ℕ) → lines.contains (lines_in r.entries c Write) l ≡ true
    → IsSome (slot_among r.entries c l)
slot_present r counted c l t =
    let p = place_of r.entries c Write l t in
    ap is_some (slot_there r.entries p.place c l p.below p.is (alone r counted c Write l p.place p.below p.is))

-- a link leads into the row
pub led : (es : List Entry) (t : ℕ) → ((h : ℕ) → t ≡ h + 1 → h < length es) → t ≤ length es
led es zero h = omega arith
led es (suc t) h = let x = h t (omega arith) in omega arith

-- a count keeps its length
pub if_read_len : (k : Kind) (xs ys : List ℕ) → length xs ≡ length ys → length (if_read k xs ys) ≡ length ys
if_read_len Read xs ys e = e
if_read_len Write xs ys e = refl

pub if_written_len : (k : Kind) (xs ys : List ℕ) → length xs ≡ length ys → length (if_written k xs ys) ≡ length ys
if_written_len Write xs ys e = e
if_written_len Read xs ys e = refl

-- a triple that the rows have no entry for, and that they have room for
pub record IsNew (r : Rows) (core : ℕ) (kind : Kind) (line : ℕ) : Type 0 where
  pub threaded : IsThreaded r
  pub counted : AreCounted r
  pub sized : AreSized r
  pub core_below : core < length r.core_heads
  pub line_below : line < r.line_count
  pub new : lines.contains (lines_in r.entries core kind) line ≡ false
  pub less : by_kind (get_or r.reads core 0) (get_or r.writes core 0) kind < by_kind r.read_lines r.write_lines kind

-- its entry, and the rows once this stands at the free place n
abbrev pub new_entry : Rows → ℕ → Kind → ℕ → Entry
new_entry r core kind line = record {
  held = true;
  core = core;
  kind = kind;
  line = line;
  slot = get_or r.writes core 0;
  before_on_core = 0;
  after_on_core = get_or r.core_heads core 0;
  before_on_line = 0;
  after_on_line = get_or r.line_heads line 0;
}

abbrev pub rows_with : Rows → ℕ → Kind → ℕ → ℕ → Rows
rows_with r core kind line n = record r {
  entries = hooked r.entries n (new_entry r core kind line);
  core_heads = set r.core_heads core (n + 1);
  line_heads = set r.line_heads line (n + 1);
  free = after_on_core r.entries n;
  reads = if_read kind (more r.reads core) r.reads;
  writes = if_written kind (more r.writes core) r.writes;
}

module _ (r : Rows) (core : ℕ) (kind : Kind) (line : ℕ) (is_new : IsNew r core kind line) where
  open is_new use {threaded, counted, sized, core_below, line_below, new, less}

  reads_below : core < length r.reads
  reads_below = omega (arith, sized.reads, core_below)

  writes_below : core < length r.writes
  writes_below = omega (arith, sized.writes, core_below)

  -- there is an entry more than lines, where a core isn't full
  room_left : sum r.reads + sum r.writes < length r.reads * r.read_lines + length r.writes * r.write_lines
      → sum r.reads + sum r.writes < length r.core_heads * (r.read_lines + r.write_lines)
  room_left l =
      let d : length r.reads * r.read_lines ≡ length r.core_heads * r.read_lines =
      ap (λ n. n * r.read_lines) sized.reads in
      let e : length r.writes * r.write_lines ≡ length r.core_heads * r.write_lines =
      ap (λ n. n * r.write_lines) sized.writes in
      omega (arith, l, mul-add (length r.core_heads) r.read_lines r.write_lines)

  room_for : (k : Kind)
      → by_kind (get_or r.reads core 0) (get_or r.writes core 0) k < by_kind r.read_lines r.write_lines k
      → sum r.reads + sum r.writes < length r.core_heads * (r.read_lines + r.write_lines)
  room_for Read l =
      room_left (omega (
        arith,
        sum_less r.reads r.read_lines core counted.read_room reads_below l,
        sum_le r.writes r.write_lines counted.write_room,
      ))
  room_for Write l =
      room_left (omega (
        arith,
        sum_le r.reads r.read_lines counted.read_room,
        sum_less r.writes r.write_lines core counted.write_room writes_below l,
      ))

  -- there is a free entry
  pub free_some : r.free ≡ 0 → ⊥
  free_some z = ∥∥₁_elim threaded (hlevel props) (λ w.
      let all : count_below (held r.entries) (length r.entries) ≡ length r.entries =
      count_all (held r.entries) (length r.entries) (λ i b. ⊎_elim
      (λ (t : held r.entries i ≡ true). t)
      (λ (t : held r.entries i ≡ false). absurd (w.2.free.some i (b, t) z))
      (tested (held r.entries i))) in
      omega (arith, counted.all, sized.entries, room_for kind less))

  pub core_head_in : get_or r.core_heads core 0 ≤ length r.entries
  core_head_in = ∥∥₁_elim threaded (hlevel props)
      (λ w. led r.entries (get_or r.core_heads core 0) (λ h i. ((w.2.cores core core_below).head_on h i).0))

  pub line_head_in : get_or r.line_heads line 0 ≤ length r.entries
  line_head_in = ∥∥₁_elim threaded (hlevel props)
      (λ w. led r.entries (get_or r.line_heads line 0) (λ h i. ((w.2.lines line line_below).head_on h i).0))

  module _ (n : ℕ) (is_first : r.free ≡ n + 1) where
    pub free_place : IsFree r.entries n
    free_place = ∥∥₁_elim threaded (hlevel props) (λ w. w.2.free.head_on n is_first)

    -- a head leads to entries that are held
    apart : held r.entries n ≡ true → ⊥
    apart t = never (held r.entries n) t free_place.1

    its_joined : Joined r.entries (hooked r.entries n (new_entry r core kind line)) n core kind line
        (get_or r.writes core 0) (get_or r.core_heads core 0) (get_or r.line_heads line 0)
    its_joined = joined r.entries n (new_entry r core kind line) free_place.0 core_head_in line_head_in refl refl
        refl free_place.1
        (λ e. ∥∥₁_elim threaded (hlevel props) (λ w. apart ((w.2.cores core core_below).head_on n e).1))
        (λ e. ∥∥₁_elim threaded (hlevel props) (λ w. apart ((w.2.lines line line_below).head_on n e).1))

    pub add_threaded : IsThreaded (rows_with r core kind line n)
    add_threaded = ∥∥₁_elim threaded (hlevel props) (λ w. ∣ (
      with_rank w.0 n w.1,
      w.1 + 1,
      threaded_joined r (hooked r.entries n (new_entry r core kind line)) n core kind line w.0 w.1 its_joined
          w.2 counted sized
          (if_read kind (more r.reads core) r.reads) (if_written kind (more r.writes core) r.writes) is_first
          core_below line_below,
    ) ∣₁)

    pub add_counted : AreCounted (rows_with r core kind line n)
    add_counted = counted_joined r (hooked r.entries n (new_entry r core kind line)) n core kind line
        (get_or r.core_heads core 0) (get_or r.line_heads line 0) its_joined new
        counted core_below line_below reads_below writes_below less (set r.line_heads line (n + 1))
        (after_on_core r.entries n)

    cores_len : length (set r.core_heads core (n + 1)) ≡ length r.core_heads
    cores_len = length-set r.core_heads core (n + 1)

    pub add_sized : AreSized (rows_with r core kind line n)
    add_sized = record {
      entries = its_joined.len ∙ sized.entries ∙ ap (λ m. m * (r.read_lines + r.write_lines)) (sym cores_len);
      lines = length-set r.line_heads line (n + 1) ∙ sized.lines;
      reads = if_read_len kind (more r.reads core) r.reads (length-set r.reads core _) ∙ sized.reads ∙ sym cores_len;
      writes =
          if_written_len kind (more r.writes core) r.writes (length-set r.writes core _) ∙ sized.writes ∙ sym cores_len;
    }

    pub add_content : threaded_content (rows_with r core kind line n)
        ≡ with_line (threaded_content r) core kind line (slot_among (hooked r.entries n (new_entry r core kind line)))
    add_content = same_content _ _
        (join_lines r (hooked r.entries n (new_entry r core kind line)) n core kind line
        (get_or r.core_heads core 0) (get_or r.line_heads line 0) its_joined new)
        (λ c. refl)
        (λ i. record { room = by_kind r.read_lines r.write_lines; cores = cores_len i; line_count = r.line_count })

    pub add_slots : (c l : ℕ) → IsSome (slot_among r.entries c l)
        → slot_among (hooked r.entries n (new_entry r core kind line)) c l ≡ slot_among r.entries c l
    add_slots c = slot_kept r (rows_with r core kind line n) c counted add_counted its_joined.len (λ l p b s.
        let w = stands (entry_at r.entries p) c Write l s in
        let other : p ≡ n → ⊥ = λ e. apart (ap (held r.entries) (sym e) ∙ w.is_held) in (
          triple (entry_at (hooked r.entries n (new_entry r core kind line)) p) c Write l (record {
            is_held = its_joined.old_held p other ∙ w.is_held;
            at_core = its_joined.old_core p other ∙ w.at_core;
            at_kind = its_joined.old_kind p other ∙ w.at_kind;
            at_line = its_joined.old_line p other ∙ w.at_line;
          }),
          its_joined.old_slot p other,
        ))

    -- the slots of other cores
    pub add_others : (c : ℕ) → (eqb c core ≡ true → ⊥)
        → slot_among (hooked r.entries n (new_entry r core kind line)) c ≡ slot_among r.entries c
    add_others c d = fun_ext (slots_kept r.entries (hooked r.entries n (new_entry r core kind line)) c
        (join_same r (hooked r.entries n (new_entry r core kind line)) n core kind line
        (get_or r.core_heads core 0) (get_or r.line_heads line 0) its_joined new c Write (λ e _. d (eq-eqb c core e)))
        (λ l t. add_slots c l (slot_present r counted c l t)))

-- a line that is there changes nothing
pub known_line : (content : Content) (core : ℕ) (kind : Kind) (line : ℕ)
    → lines.contains (content.lines core kind) line ≡ true
    → content ≡ with_line content core kind line content.slots
known_line content core kind line there =
    same_content content (with_line content core kind line content.slots) (λ c k. ⊎_elim
    (λ (t : (eqb c core && same_kind k kind) ≡ true).
    let w = both (eqb c core) (same_kind k kind) t in
    let c_is = equal c core w.0 in
    let k_is = same_kinds k kind w.1 in
    sym (ap (λ b. cond b (lines.insert (content.lines c k) line) (content.lines c k)) t
    ∙ kept (content.lines c k) line ((λ i. lines.contains (content.lines (c_is i) (k_is i)) line) ∙ there)))
    (λ (t : (eqb c core && same_kind k kind) ≡ false).
    sym (ap (λ b. cond b (lines.insert (content.lines c k) line) (content.lines c k)) t))
    (tested (eqb c core && same_kind k kind))) (λ c. refl) refl
