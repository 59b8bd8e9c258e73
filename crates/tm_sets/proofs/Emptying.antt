-- What the rows contain, and their counts, when the first triple of a core goes.
use Rattle.std.proofs.Common.{◌≡◌, ℕ, ◌+◌, ◌-◌, ◌<◌, ◌≤◌, true, false, List, length, get_or, set, sum, refl, sym, ap}
use Rattle.std.proofs.Common.{◌∙◌, ⊎_elim, arith}
use Rattle.std.proofs.lemmas.Bool.{cases_eq}
use Rattle.std.proofs.lemmas.List.{length-set}
use Rattle.std.specs.FinSet as lines
use Rattle.tm_sets.specs.declared.interface.Kind.{Kind}
use Rattle.tm_sets.specs.declared.interface.Kind.TheVariants.{Read, Write}
use Rattle.tm_sets.specs.declared.row.Entry.{Entry}
use Rattle.tm_sets.specs.Content.{by_kind}
use Rattle.tm_sets.specs.Count.{count_below}
use Rattle.tm_sets.specs.Row.{entry_at, lines_in}
use Rattle.tm_sets.specs.Threaded.{Rows, held, OnCore, AreCounted, fewer, if_read, if_written}
use Rattle.tm_sets.proofs.Counting.{never, fails, count_less}
use Rattle.tm_sets.proofs.Leaving.{Left}
use Rattle.tm_sets.proofs.Lists.{len_push}
use Rattle.tm_sets.proofs.Members.{is_triple, stands, triple, place_of, same_members, one_more}
use Rattle.tm_sets.proofs.Contents.{alike, not_held, fewer_there, fewer_other, sum_fewer}

module _ (r : Rows) (fs : List Entry) (n free core : ℕ) (kind : Kind) (j : Left r.entries fs n free) (a : AreCounted r)
    (core_is : (entry_at r.entries n).core ≡ core) (kind_is : (entry_at r.entries n).kind ≡ kind) where
  old_alike : (i : ℕ) → (i ≡ n → ⊥)
      → (c : ℕ) (k : Kind) (q : ℕ) → is_triple (entry_at r.entries i) c k q ≡ is_triple (entry_at fs i) c k q
  old_alike i d = alike (entry_at r.entries i) (entry_at fs i) (sym (j.old_held i d)) (sym (j.old_core i d))
      (sym (j.old_kind i d)) (sym (j.old_line i d))

  pub leave_same : (c : ℕ) (k : Kind) → (c ≡ core → k ≡ kind → ⊥) → lines_in fs c k ≡ lines_in r.entries c k
  leave_same c k apart = same_members r.entries fs c k j.len (λ i q b. ⊎_elim
      (λ (s : i ≡ n).
      ap (λ p. is_triple (entry_at fs p) c k q) s ∙ not_held (entry_at fs n) j.is_free c k q
      ∙ sym (ap (λ p. is_triple (entry_at r.entries p) c k q) s ∙ fails (is_triple (entry_at r.entries n) c k q) (λ t.
      let w = stands (entry_at r.entries n) c k q t in apart (sym w.at_core ∙ core_is) (sym w.at_kind ∙ kind_is))))
      (λ (s : i ≡ n → ⊥). sym (old_alike i s c k q))
      (cases_eq i n))

  leave_old : lines_in r.entries core kind ≡ lines.insert (lines_in fs core kind) (entry_at r.entries n).line
  leave_old = let y = j.len in let b = j.below in
      one_more fs r.entries n core kind (entry_at r.entries n).line (sym j.len) (omega arith)
      (triple (entry_at r.entries n) core kind (entry_at r.entries n).line
      (record { is_held = j.was_held; at_core = core_is; at_kind = kind_is; at_line = refl }))
      (λ q. not_held (entry_at fs n) j.is_free core kind q)
      (λ q d. fails (is_triple (entry_at r.entries n) core kind q)
      (λ t. d (sym (stands (entry_at r.entries n) core kind q t).at_line)))
      (λ i q b d. old_alike i d core kind q)

  leave_gone : lines.contains (lines_in fs core kind) (entry_at r.entries n).line ≡ false
  leave_gone = fails (lines.contains (lines_in fs core kind) (entry_at r.entries n).line) (λ t.
      let y = j.len in
      let p = place_of fs core kind (entry_at r.entries n).line t in
      let b = p.below in
      let s = stands (entry_at fs p.place) core kind (entry_at r.entries n).line p.is in
      let other : p.place ≡ n → ⊥ = λ e. never (held fs p.place) s.is_held (ap (held fs) e ∙ j.is_free) in
      other (a.once p.place n (omega arith) j.below (sym (j.old_held p.place other) ∙ s.is_held) j.was_held
      (sym (j.old_core p.place other) ∙ s.at_core ∙ sym core_is)
      (sym (j.old_kind p.place other) ∙ s.at_kind ∙ sym kind_is) (sym (j.old_line p.place other) ∙ s.at_line)))

  leave_len : lines.len (lines_in r.entries core kind) ≡ lines.len (lines_in fs core kind) + 1
  leave_len = ap lines.len leave_old ∙ len_push (lines_in fs core kind) (entry_at r.entries n).line leave_gone

  counted_fewer : (k : Kind) → k ≡ kind → (counts : List ℕ) → core < length counts
      → ((c : ℕ) → get_or counts c 0 ≡ lines.len (lines_in r.entries c k))
      → (c : ℕ) → get_or (fewer counts core) c 0 ≡ lines.len (lines_in fs c k)
  counted_fewer k same counts below h c = ⊎_elim
      (λ (e : c ≡ core).
      let x : get_or (fewer counts core) c 0 ≡ get_or counts core 0 - 1 =
      ap (λ i. get_or (fewer counts core) i 0) e ∙ fewer_there counts core below in
      let y : get_or counts core 0 ≡ lines.len (lines_in r.entries core kind) =
      h core ∙ ap (λ q. lines.len (lines_in r.entries core q)) same in
      let z : lines.len (lines_in fs c k) ≡ lines.len (lines_in fs core kind) =
      ap (λ i. lines.len (lines_in fs i k)) e ∙ ap (λ q. lines.len (lines_in fs core q)) same in
      let w = leave_len in
      omega arith)
      (λ (e : c ≡ core → ⊥). fewer_other counts core c e ∙ h c ∙ sym (ap lines.len (leave_same c k (λ s _. e s))))
      (cases_eq c core)

  counted_same : (k : Kind) → (k ≡ kind → ⊥)
      → (counts : List ℕ) → ((c : ℕ) → get_or counts c 0 ≡ lines.len (lines_in r.entries c k))
      → (c : ℕ) → get_or counts c 0 ≡ lines.len (lines_in fs c k)
  counted_same k other counts h c = h c ∙ sym (ap lines.len (leave_same c k (λ _ s. other s)))

  reads_now : (k : Kind) → k ≡ kind → core < length r.reads
      → (c : ℕ) → get_or (if_read k (fewer r.reads core) r.reads) c 0 ≡ lines.len (lines_in fs c Read)
  reads_now Read e b = counted_fewer Read e r.reads b a.reads
  reads_now Write e b = counted_same Read (λ f. let z : Write ≡ Read = e ∙ sym f in cc) r.reads a.reads

  writes_now : (k : Kind) → k ≡ kind → core < length r.writes
      → (c : ℕ) → get_or (if_written k (fewer r.writes core) r.writes) c 0 ≡ lines.len (lines_in fs c Write)
  writes_now Write e b = counted_fewer Write e r.writes b a.writes
  writes_now Read e b = counted_same Write (λ f. let z : Read ≡ Write = e ∙ sym f in cc) r.writes a.writes

  fewer_within : (counts : List ℕ) (room : ℕ) → core < length counts → ((c : ℕ) → get_or counts c 0 ≤ room)
      → (c : ℕ) → get_or (fewer counts core) c 0 ≤ room
  fewer_within counts room b h c = ⊎_elim
      (λ (e : c ≡ core). let x : get_or (fewer counts core) c 0 ≡ get_or counts core 0 - 1 =
      ap (λ i. get_or (fewer counts core) i 0) e ∙ fewer_there counts core b in let y = h core in omega arith)
      (λ (e : c ≡ core → ⊥). let x = fewer_other counts core c e in let y = h c in omega arith)
      (cases_eq c core)

  reads_within : (k : Kind) → core < length r.reads
      → (c : ℕ) → get_or (if_read k (fewer r.reads core) r.reads) c 0 ≤ r.read_lines
  reads_within Read b = fewer_within r.reads r.read_lines b a.read_room
  reads_within Write b = a.read_room

  writes_within : (k : Kind) → core < length r.writes
      → (c : ℕ) → get_or (if_written k (fewer r.writes core) r.writes) c 0 ≤ r.write_lines
  writes_within Write b = fewer_within r.writes r.write_lines b a.write_room
  writes_within Read b = a.write_room

  -- the core has a line
  pub some : 1 ≤ by_kind (get_or r.reads core 0) (get_or r.writes core 0) kind
  some = by kind refl
    where
      by : (k : Kind) → k ≡ kind → 1 ≤ by_kind (get_or r.reads core 0) (get_or r.writes core 0) k
      by Read e = let x : get_or r.reads core 0 ≡ lines.len (lines_in r.entries core kind) =
          a.reads core ∙ ap (λ q. lines.len (lines_in r.entries core q)) e in let w = leave_len in omega arith
      by Write e = let x : get_or r.writes core 0 ≡ lines.len (lines_in r.entries core kind) =
          a.writes core ∙ ap (λ q. lines.len (lines_in r.entries core q)) e in let w = leave_len in omega arith

  sums : (k : Kind) → core < length r.reads → core < length r.writes
      → 1 ≤ by_kind (get_or r.reads core 0) (get_or r.writes core 0) k
      → sum r.reads + sum r.writes
      ≡ sum (if_read k (fewer r.reads core) r.reads) + sum (if_written k (fewer r.writes core) r.writes) + 1
  sums Read b d o = let e = sum_fewer r.reads core b o in omega arith
  sums Write b d o = let e = sum_fewer r.writes core d o in omega arith

  -- a core's counts together fall by one
  pub pair_falls : core < length r.reads → core < length r.writes
      → get_or r.reads core 0 + get_or r.writes core 0
      ≡ get_or (if_read kind (fewer r.reads core) r.reads) core 0
      + get_or (if_written kind (fewer r.writes core) r.writes) core 0 + 1
  pair_falls b d = by kind some
    where
      by : (k : Kind) → 1 ≤ by_kind (get_or r.reads core 0) (get_or r.writes core 0) k
          → get_or r.reads core 0 + get_or r.writes core 0
          ≡ get_or (if_read k (fewer r.reads core) r.reads) core 0
          + get_or (if_written k (fewer r.writes core) r.writes) core 0 + 1
      by Read o = let x = fewer_there r.reads core b in omega arith
      by Write o = let x = fewer_there r.writes core d in omega arith

  -- the slots that stay are below that of the line that goes, where it was a written one
  slot_left : (k : Kind) → k ≡ kind → core < length r.writes
      → ((e : ℕ) → OnCore r.entries core e → (e ≡ n → ⊥) → (entry_at r.entries e).kind ≡ Write
      → (entry_at r.entries n).kind ≡ Write
      → (entry_at r.entries e).slot < (entry_at r.entries n).slot)
      → (c e : ℕ) → OnCore fs c e → (entry_at fs e).kind ≡ Write
      → (entry_at fs e).slot < get_or (if_written k (fewer r.writes core) r.writes) c 0
  slot_left k same b falls c e o kw =
      let y = j.len in let z = o.0 in
      let other : e ≡ n → ⊥ = λ s. never (held fs e) o.1 (ap (held fs) s ∙ j.is_free) in
      let x = j.old_slot e other in
      let was : OnCore r.entries c e = (omega arith, sym (j.old_held e other) ∙ o.1, sym (j.old_core e other) ∙ o.2) in
      let kind_was : (entry_at r.entries e).kind ≡ Write = sym (j.old_kind e other) ∙ kw in
      let old = a.slot c e was kind_was in
      by k same was kind_was other x old
    where
      by : (k : Kind) → k ≡ kind → OnCore r.entries c e → (entry_at r.entries e).kind ≡ Write → (e ≡ n → ⊥)
          → (entry_at fs e).slot ≡ (entry_at r.entries e).slot → (entry_at r.entries e).slot < get_or r.writes c 0
          → (entry_at fs e).slot < get_or (if_written k (fewer r.writes core) r.writes) c 0
      by Read s was kind_was other x old = omega arith
      by Write s was kind_was other x old = ⊎_elim
          (λ (i : c ≡ core).
          let v : get_or (fewer r.writes core) c 0 ≡ get_or r.writes core 0 - 1 =
          ap (λ p. get_or (fewer r.writes core) p 0) i ∙ fewer_there r.writes core b in
          let l = falls e (was.0, was.1, was.2 ∙ i) other kind_was (kind_is ∙ sym s) in
          let m = a.slot core n (j.below, j.was_held, core_is) (kind_is ∙ sym s) in
          omega arith)
          (λ (i : c ≡ core → ⊥). let v = fewer_other r.writes core c i in omega arith)
          (cases_eq c core)

  -- what was counted is counted
  pub counted_left : core < length r.core_heads → core < length r.reads → core < length r.writes
      → ((e : ℕ) → OnCore r.entries core e → (e ≡ n → ⊥) → (entry_at r.entries e).kind ≡ Write
      → (entry_at r.entries n).kind ≡ Write → (entry_at r.entries e).slot < (entry_at r.entries n).slot)
      → (line_heads : List ℕ) (head now_free : ℕ)
      → AreCounted (record r {
        entries = fs;
        core_heads = set r.core_heads core head;
        line_heads = line_heads;
        free = now_free;
        reads = if_read kind (fewer r.reads core) r.reads;
        writes = if_written kind (fewer r.writes core) r.writes;
      })
  counted_left core_below reads_below writes_below falls line_heads head now_free = record {
    core = λ e b h.
        let z = length-set r.core_heads core head in let y = j.len in
        let s = other e h in let x = j.old_core e s in
        let w = a.core e (omega arith) (sym (j.old_held e s) ∙ h) in omega arith;
    line = λ e b h.
        let y = j.len in
        let s = other e h in let x = j.old_line e s in
        let w = a.line e (omega arith) (sym (j.old_held e s) ∙ h) in omega arith;
    once = λ e f b d h i c k l.
        let y = j.len in
        let s = other e h in let t = other f i in
        a.once e f (omega arith) (omega arith) (sym (j.old_held e s) ∙ h) (sym (j.old_held f t) ∙ i)
        (sym (j.old_core e s) ∙ c ∙ j.old_core f t) (sym (j.old_kind e s) ∙ k ∙ j.old_kind f t)
        (sym (j.old_line e s) ∙ l ∙ j.old_line f t);
    reads = reads_now kind refl reads_below;
    writes = writes_now kind refl writes_below;
    read_room = reads_within kind reads_below;
    write_room = writes_within kind writes_below;
    all =
        let y = j.len in let x = j.below in let z = a.all in let w = sums kind reads_below writes_below some in
        let v : count_below (held fs) (length fs) ≡ count_below (held fs) (length r.entries) =
        ap (count_below (held fs)) y in
        let u : count_below (held r.entries) (length r.entries) ≡ count_below (held fs) (length r.entries) + 1 =
        count_less (held r.entries) (held fs) (length r.entries) n x j.was_held j.is_free
        (λ i _ d. sym (j.old_held i d)) in
        omega arith;
    slot = slot_left kind refl writes_below falls;
  }
    where
      other : (e : ℕ) → held fs e ≡ true → e ≡ n → ⊥
      other e h s = never (held fs e) h (ap (held fs) s ∙ j.is_free)
