-- What the rows contain, and their counts, when a triple comes or goes.
use Rattle.std.proofs.Common.{◌≡◌, ℕ, ◌+◌, ◌-◌, ◌<◌, ◌≤◌, true, false, cond, eqb, ◌&&◌, List, length, get_or, set, sum}
use Rattle.std.proofs.Common.{refl, sym, ap, ◌∙◌, ⊎_elim, arith}
use Rattle.std.proofs.lemmas.Bool.{cases_eq, eq-eqb}
use Rattle.std.proofs.lemmas.List.{get_or-set_same, get_or-set_other, length-set}
use Rattle.std.proofs.lemmas.List.Sums.{sum_by-set}
use Rattle.std.specs.FinSet as lines
use Rattle.tm_sets.specs.declared.interface.Kind.{Kind}
use Rattle.tm_sets.specs.declared.interface.Kind.TheVariants.{Read, Write}
use Rattle.tm_sets.specs.declared.row.Entry.{Entry}
use Rattle.tm_sets.specs.Content.{same_kind, by_kind}
use Rattle.tm_sets.specs.Count.{count_below}
use Rattle.tm_sets.specs.Row.{entry_at, lines_in}
use Rattle.tm_sets.specs.Threaded.{Rows, held, AreCounted, more, fewer, if_read, if_written}
use Rattle.tm_sets.proofs.Counting.{tested, never, both, as_one, fails, equal, count_less}
use Rattle.tm_sets.proofs.Joining.{Joined}
use Rattle.tm_sets.proofs.Lists.{len_push}
use Rattle.tm_sets.proofs.Members.{is_triple, stands, triple, present, same_members, one_more, same_kinds, kind_itself}

-- entries of the same fields stand for the same
pub alike : (a b : Entry) → a.held ≡ b.held → a.core ≡ b.core → a.kind ≡ b.kind → a.line ≡ b.line
    → (c : ℕ) (k : Kind) (q : ℕ) → is_triple a c k q ≡ is_triple b c k q
alike a b h c k l core kind q =
    ap (λ t. (t && (eqb a.core core && same_kind a.kind kind)) && eqb a.line q) h
    ∙ ap (λ n. (b.held && (eqb n core && same_kind a.kind kind)) && eqb a.line q) c
    ∙ ap (λ n. (b.held && (eqb b.core core && same_kind n kind)) && eqb a.line q) k
    ∙ ap (λ n. (b.held && (eqb b.core core && same_kind b.kind kind)) && eqb n q) l

pub not_held : (e : Entry) → e.held ≡ false → (c : ℕ) (k : Kind) (q : ℕ) → is_triple e c k q ≡ false
not_held e f c k q = fails (is_triple e c k q) (λ t. never e.held (stands e c k q t).is_held f)

-- the counts of one core more and of others the same
pub more_there : (counts : List ℕ) (core : ℕ) → core < length counts
    → get_or (more counts core) core 0 ≡ get_or counts core 0 + 1
more_there counts core b = get_or-set_same counts core (get_or counts core 0 + 1) 0 b

pub more_other : (counts : List ℕ) (core c : ℕ) → (c ≡ core → ⊥) → get_or (more counts core) c 0 ≡ get_or counts c 0
more_other counts core c d = get_or-set_other counts core c (get_or counts core 0 + 1) 0 d

pub fewer_there : (counts : List ℕ) (core : ℕ) → core < length counts
    → get_or (fewer counts core) core 0 ≡ get_or counts core 0 - 1
fewer_there counts core b = get_or-set_same counts core (get_or counts core 0 - 1) 0 b

pub fewer_other : (counts : List ℕ) (core c : ℕ) → (c ≡ core → ⊥) → get_or (fewer counts core) c 0 ≡ get_or counts c 0
fewer_other counts core c d = get_or-set_other counts core c (get_or counts core 0 - 1) 0 d

pub sum_more : (counts : List ℕ) (core : ℕ) → core < length counts → sum (more counts core) ≡ sum counts + 1
sum_more counts core b =
    let e : sum (more counts core) + get_or counts core 0 ≡ sum counts + (get_or counts core 0 + 1) =
    sum_by-set (λ x. x) counts core (get_or counts core 0 + 1) 0 b in
    omega arith

pub sum_fewer : (counts : List ℕ) (core : ℕ) → core < length counts → 1 ≤ get_or counts core 0
    → sum counts ≡ sum (fewer counts core) + 1
sum_fewer counts core b some =
    let e : sum (fewer counts core) + get_or counts core 0 ≡ sum counts + (get_or counts core 0 - 1) =
    sum_by-set (λ x. x) counts core (get_or counts core 0 - 1) 0 b in
    omega arith

module _ (r : Rows) (fs : List Entry) (n core : ℕ) (kind : Kind) (line core_head line_head : ℕ)
    (j : Joined r.entries fs n core kind line (get_or r.writes core 0) core_head line_head)
    (new : lines.contains (lines_in r.entries core kind) line ≡ false) where
  old_alike : (i : ℕ) → (i ≡ n → ⊥)
      → (c : ℕ) (k : Kind) (q : ℕ) → is_triple (entry_at fs i) c k q ≡ is_triple (entry_at r.entries i) c k q
  old_alike i d =
      alike (entry_at fs i) (entry_at r.entries i) (j.old_held i d) (j.old_core i d) (j.old_kind i d) (j.old_line i d)

  its_stands : (c : ℕ) (k : Kind) (q : ℕ) → is_triple (entry_at fs n) c k q ≡ true
      → (core ≡ c) × (kind ≡ k) × (line ≡ q)
  its_stands c k q t =
      let s = stands (entry_at fs n) c k q t in (sym j.core ∙ s.at_core, sym j.kind ∙ s.at_kind, sym j.line ∙ s.at_line)

  pub join_same : (c : ℕ) (k : Kind) → (c ≡ core → k ≡ kind → ⊥) → lines_in fs c k ≡ lines_in r.entries c k
  join_same c k apart = same_members r.entries fs c k j.len (λ i q b. ⊎_elim
      (λ (s : i ≡ n).
      ap (λ p. is_triple (entry_at fs p) c k q) s
      ∙ fails (is_triple (entry_at fs n) c k q) (λ t. let w = its_stands c k q t in apart (sym w.0) (sym w.1))
      ∙ sym (ap (λ p. is_triple (entry_at r.entries p) c k q) s ∙ not_held (entry_at r.entries n) j.was_free c k q))
      (λ (s : i ≡ n → ⊥). old_alike i s c k q)
      (cases_eq i n))

  pub join_new : lines_in fs core kind ≡ lines.insert (lines_in r.entries core kind) line
  join_new = one_more r.entries fs n core kind line j.len j.below
      (triple (entry_at fs n) core kind line
      (record { is_held = j.is_held; at_core = j.core; at_kind = j.kind; at_line = j.line }))
      (λ q. not_held (entry_at r.entries n) j.was_free core kind q)
      (λ q d. fails (is_triple (entry_at fs n) core kind q) (λ t. d (sym (its_stands core kind q t).2)))
      (λ i q b d. old_alike i d core kind q)

  pub join_lines : (c : ℕ) (k : Kind)
      → lines_in fs c k
      ≡ cond (eqb c core && same_kind k kind) (lines.insert (lines_in r.entries c k) line) (lines_in r.entries c k)
  join_lines c k = ⊎_elim
      (λ (t : (eqb c core && same_kind k kind) ≡ true).
      let w = both (eqb c core) (same_kind k kind) t in
      let e = equal c core w.0 in
      let f = same_kinds k kind w.1 in
      ap (λ x. lines_in fs x k) e ∙ ap (lines_in fs core) f ∙ join_new
      ∙ sym (ap (λ x. lines.insert (lines_in r.entries x k) line) e
      ∙ ap (λ x. lines.insert (lines_in r.entries core x) line) f)
      ∙ sym (ap (λ b. cond b (lines.insert (lines_in r.entries c k) line) (lines_in r.entries c k)) t))
      (λ (t : (eqb c core && same_kind k kind) ≡ false).
      join_same c k
      (λ e f. never (eqb c core && same_kind k kind)
      (as_one (eqb c core) (same_kind k kind) (eq-eqb c core e) (ap (λ x. same_kind x kind) f ∙ kind_itself kind)) t)
      ∙ sym (ap (λ b. cond b (lines.insert (lines_in r.entries c k) line) (lines_in r.entries c k)) t))
      (tested (eqb c core && same_kind k kind))

  counted_more : (k : Kind) → k ≡ kind → (counts : List ℕ) → core < length counts
      → ((c : ℕ) → get_or counts c 0 ≡ lines.len (lines_in r.entries c k))
      → (c : ℕ) → get_or (more counts core) c 0 ≡ lines.len (lines_in fs c k)
  counted_more k same counts below h c = ⊎_elim
      (λ (e : c ≡ core).
      ap (λ i. get_or (more counts core) i 0) e ∙ more_there counts core below
      ∙ ap (λ m. m + 1) (h core ∙ ap (λ x. lines.len (lines_in r.entries core x)) same)
      ∙ sym (ap (λ i. lines.len (lines_in fs i k)) e ∙ ap (λ x. lines.len (lines_in fs core x)) same
      ∙ ap lines.len join_new ∙ len_push (lines_in r.entries core kind) line new))
      (λ (e : c ≡ core → ⊥). more_other counts core c e ∙ h c ∙ sym (ap lines.len (join_same c k (λ s _. e s))))
      (cases_eq c core)

  counted_same : (k : Kind) → (k ≡ kind → ⊥)
      → (counts : List ℕ) → ((c : ℕ) → get_or counts c 0 ≡ lines.len (lines_in r.entries c k))
      → (c : ℕ) → get_or counts c 0 ≡ lines.len (lines_in fs c k)
  counted_same k other counts h c = h c ∙ sym (ap lines.len (join_same c k (λ _ s. other s)))

  reads_now : (k : Kind) → k ≡ kind → core < length r.reads → AreCounted r
      → (c : ℕ) → get_or (if_read k (more r.reads core) r.reads) c 0 ≡ lines.len (lines_in fs c Read)
  reads_now Read e b a = counted_more Read e r.reads b a.reads
  reads_now Write e b a = counted_same Read (λ f. let z : Write ≡ Read = e ∙ sym f in cc) r.reads a.reads

  writes_now : (k : Kind) → k ≡ kind → core < length r.writes → AreCounted r
      → (c : ℕ) → get_or (if_written k (more r.writes core) r.writes) c 0 ≡ lines.len (lines_in fs c Write)
  writes_now Write e b a = counted_more Write e r.writes b a.writes
  writes_now Read e b a = counted_same Write (λ f. let z : Read ≡ Write = e ∙ sym f in cc) r.writes a.writes

  more_within : (counts : List ℕ) (room : ℕ) → core < length counts → ((c : ℕ) → get_or counts c 0 ≤ room)
      → get_or counts core 0 < room → (c : ℕ) → get_or (more counts core) c 0 ≤ room
  more_within counts room b h less c = ⊎_elim
      (λ (e : c ≡ core). let x : get_or (more counts core) c 0 ≡ get_or counts core 0 + 1 =
      ap (λ i. get_or (more counts core) i 0) e ∙ more_there counts core b in omega arith)
      (λ (e : c ≡ core → ⊥). let x = more_other counts core c e in let y = h c in omega arith)
      (cases_eq c core)

  reads_within : (k : Kind) → core < length r.reads → AreCounted r
      → by_kind (get_or r.reads core 0) (get_or r.writes core 0) k < by_kind r.read_lines r.write_lines k
      → (c : ℕ) → get_or (if_read k (more r.reads core) r.reads) c 0 ≤ r.read_lines
  reads_within Read b a less = more_within r.reads r.read_lines b a.read_room less
  reads_within Write b a less = a.read_room

  writes_within : (k : Kind) → core < length r.writes → AreCounted r
      → by_kind (get_or r.reads core 0) (get_or r.writes core 0) k < by_kind r.read_lines r.write_lines k
      → (c : ℕ) → get_or (if_written k (more r.writes core) r.writes) c 0 ≤ r.write_lines
  writes_within Write b a less = more_within r.writes r.write_lines b a.write_room less
  writes_within Read b a less = a.write_room

  sums : (k : Kind) → core < length r.reads → core < length r.writes
      → sum (if_read k (more r.reads core) r.reads) + sum (if_written k (more r.writes core) r.writes)
      ≡ sum r.reads + sum r.writes + 1
  sums Read b d = let e = sum_more r.reads core b in omega arith
  sums Write b d = let e = sum_more r.writes core d in omega arith

  slots_grow : (k : Kind) (c : ℕ) → core < length r.writes
      → get_or r.writes c 0 ≤ get_or (if_written k (more r.writes core) r.writes) c 0
  slots_grow Read c b = omega arith
  slots_grow Write c b = ⊎_elim
      (λ (e : c ≡ core). let x : get_or (more r.writes core) c 0 ≡ get_or r.writes core 0 + 1 =
      ap (λ i. get_or (more r.writes core) i 0) e ∙ more_there r.writes core b in
      let y : get_or r.writes c 0 ≡ get_or r.writes core 0 = ap (λ i. get_or r.writes i 0) e in omega arith)
      (λ (e : c ≡ core → ⊥). let x = more_other r.writes core c e in omega arith)
      (cases_eq c core)

  its_slot : (k : Kind) → k ≡ Write → core < length r.writes
      → get_or r.writes core 0 < get_or (if_written k (more r.writes core) r.writes) core 0
  its_slot Read e b = absurd (let z : Read ≡ Write = e in cc)
  its_slot Write e b = let x = more_there r.writes core b in omega arith

  -- what was counted is counted
  pub counted_joined : AreCounted r → core < length r.core_heads → line < r.line_count → core < length r.reads
      → core < length r.writes
      → by_kind (get_or r.reads core 0) (get_or r.writes core 0) kind < by_kind r.read_lines r.write_lines kind
      → (line_heads : List ℕ) (free : ℕ)
      → AreCounted (record r {
        entries = fs;
        core_heads = set r.core_heads core (n + 1);
        line_heads = line_heads;
        free = free;
        reads = if_read kind (more r.reads core) r.reads;
        writes = if_written kind (more r.writes core) r.writes;
      })
  counted_joined a core_below line_below reads_below writes_below less line_heads free = record {
    core = λ e b h. let z = length-set r.core_heads core (n + 1) in let y = j.len in ⊎_elim
        (λ (s : e ≡ n). let x : (entry_at fs e).core ≡ core = ap (λ i. (entry_at fs i).core) s ∙ j.core in omega arith)
        (λ (s : e ≡ n → ⊥). let x = j.old_core e s in
        let w = a.core e (omega arith) (sym (j.old_held e s) ∙ h) in omega arith)
        (cases_eq e n);
    line = λ e b h. let y = j.len in ⊎_elim
        (λ (s : e ≡ n). let x : (entry_at fs e).line ≡ line = ap (λ i. (entry_at fs i).line) s ∙ j.line in omega arith)
        (λ (s : e ≡ n → ⊥). let x = j.old_line e s in
        let w = a.line e (omega arith) (sym (j.old_held e s) ∙ h) in omega arith)
        (cases_eq e n);
    once = λ e f b d h i c k l. let y = j.len in ⊎_elim
        (λ (s : e ≡ n). ⊎_elim
        (λ (t : f ≡ n). s ∙ sym t)
        (λ (t : f ≡ n → ⊥). absurd (clash f t d i
        (sym c ∙ ap (λ p. (entry_at fs p).core) s ∙ j.core) (sym k ∙ ap (λ p. (entry_at fs p).kind) s ∙ j.kind)
        (sym l ∙ ap (λ p. (entry_at fs p).line) s ∙ j.line)))
        (cases_eq f n))
        (λ (s : e ≡ n → ⊥). ⊎_elim
        (λ (t : f ≡ n). absurd (clash e s b h
        (c ∙ ap (λ p. (entry_at fs p).core) t ∙ j.core) (k ∙ ap (λ p. (entry_at fs p).kind) t ∙ j.kind)
        (l ∙ ap (λ p. (entry_at fs p).line) t ∙ j.line)))
        (λ (t : f ≡ n → ⊥). a.once e f (omega arith) (omega arith) (sym (j.old_held e s) ∙ h) (sym (j.old_held f t) ∙ i)
        (sym (j.old_core e s) ∙ c ∙ j.old_core f t) (sym (j.old_kind e s) ∙ k ∙ j.old_kind f t)
        (sym (j.old_line e s) ∙ l ∙ j.old_line f t))
        (cases_eq f n))
        (cases_eq e n);
    reads = reads_now kind refl reads_below a;
    writes = writes_now kind refl writes_below a;
    read_room = reads_within kind reads_below a less;
    write_room = writes_within kind writes_below a less;
    all =
        let y = j.len in let x = j.below in let z = a.all in let w = sums kind reads_below writes_below in
        let v : count_below (held r.entries) (length fs) ≡ count_below (held r.entries) (length r.entries) =
        ap (count_below (held r.entries)) y in
        let u : count_below (held fs) (length fs) ≡ count_below (held r.entries) (length fs) + 1 =
        count_less (held fs) (held r.entries) (length fs) n (omega arith) j.is_held j.was_free
        (λ i _ d. j.old_held i d) in
        omega arith;
    slot = λ c e o k. ⊎_elim
        (λ (s : e ≡ n).
        let x : (entry_at fs e).slot ≡ get_or r.writes core 0 = ap (λ i. (entry_at fs i).slot) s ∙ j.slot in
        let same : c ≡ core = sym o.2 ∙ ap (λ i. (entry_at fs i).core) s ∙ j.core in
        let y = its_slot kind (sym j.kind ∙ sym (ap (λ i. (entry_at fs i).kind) s) ∙ k) writes_below in
        let w : get_or (if_written kind (more r.writes core) r.writes) c 0
        ≡ get_or (if_written kind (more r.writes core) r.writes) core 0 =
        ap (λ i. get_or (if_written kind (more r.writes core) r.writes) i 0) same in
        omega arith)
        (λ (s : e ≡ n → ⊥).
        let y = j.len in let b = o.0 in
        let x = j.old_slot e s in
        let z =
        a.slot c e (omega arith, sym (j.old_held e s) ∙ o.1, sym (j.old_core e s) ∙ o.2) (sym (j.old_kind e s) ∙ k) in
        let w = slots_grow kind c writes_below in
        omega arith)
        (cases_eq e n);
  }
    where
      clash : (f : ℕ) → (f ≡ n → ⊥) → f < length fs → held fs f ≡ true → (entry_at fs f).core ≡ core
          → (entry_at fs f).kind ≡ kind → (entry_at fs f).line ≡ line → ⊥
      clash f d b h c k l = let y = j.len in never (lines.contains (lines_in r.entries core kind) line)
          (present r.entries f core kind line (omega arith)
          (sym (old_alike f d core kind line)
          ∙ triple (entry_at fs f) core kind line (record { is_held = h; at_core = c; at_kind = k; at_line = l })))
          new
