-- What becomes of the lists when the first triple of a core goes.
use Rattle.std.proofs.Common.{◌≡◌, ℕ, ◌+◌, ◌<◌, true, false, List, length, get_or, set, refl, sym, ap, ◌∙◌, ⊎_elim, ◌⊎◌}
use Rattle.std.proofs.Common.{inl, inr, subst, arith}
use Rattle.std.proofs.lemmas.Bool.{cases_eq}
use Rattle.std.proofs.lemmas.List.{length-set}
use Rattle.tm_sets.specs.declared.interface.Kind.TheVariants.{Write}
use Rattle.tm_sets.specs.declared.row.Entry.{Entry}
use Rattle.tm_sets.specs.Ranked.{IsRanked}
use Rattle.tm_sets.specs.Row.{entry_at}
use Rattle.tm_sets.specs.Threaded.{Rows, held, OnLine, OnCore, IsFree, after_on_line, before_on_line, after_on_core}
use Rattle.tm_sets.specs.Threaded.{before_on_core, AreThreaded}
use Rattle.tm_sets.proofs.Counting.{never}
use Rattle.tm_sets.proofs.Ranks.{IsList, heads_set, kept_list, pushed, lost_list}
use Rattle.tm_sets.proofs.Joining.{On, with_rank, new_rank, old_rank, rank_below}

-- a place that was the first of its core's list is free, before the entry that was the first free one, and its
-- neighbours on its line's list tell each other
pub record Left (es fs : List Entry) (n free : ℕ) : Type 0 where
  pub len : length fs ≡ length es
  pub below : n < length es
  pub was_held : held es n ≡ true
  pub is_free : held fs n ≡ false
  pub after_free : after_on_core fs n ≡ free
  pub old_held : (j : ℕ) → (j ≡ n → ⊥) → held fs j ≡ held es j
  pub old_core : (j : ℕ) → (j ≡ n → ⊥) → (entry_at fs j).core ≡ (entry_at es j).core
  pub old_kind : (j : ℕ) → (j ≡ n → ⊥) → (entry_at fs j).kind ≡ (entry_at es j).kind
  pub old_line : (j : ℕ) → (j ≡ n → ⊥) → (entry_at fs j).line ≡ (entry_at es j).line
  pub old_slot : (j : ℕ) → (j ≡ n → ⊥) → (entry_at fs j).slot ≡ (entry_at es j).slot
  pub old_after_core : (j : ℕ) → (j ≡ n → ⊥) → after_on_core fs j ≡ after_on_core es j
  pub next_core : (j : ℕ) → (j ≡ n → ⊥) → after_on_core es n ≡ j + 1 → before_on_core fs j ≡ 0
  pub other_core : (j : ℕ) → (j ≡ n → ⊥) → (after_on_core es n ≡ j + 1 → ⊥) → before_on_core fs j ≡ before_on_core es j
  pub over : (j : ℕ) → (j ≡ n → ⊥) → before_on_line es n ≡ j + 1 → after_on_line fs j ≡ after_on_line es n
  pub old_after_line : (j : ℕ) → (j ≡ n → ⊥) → (before_on_line es n ≡ j + 1 → ⊥)
      → after_on_line fs j ≡ after_on_line es j
  pub around : (j : ℕ) → (j ≡ n → ⊥) → after_on_line es n ≡ j + 1 → before_on_line fs j ≡ before_on_line es n
  pub other_line : (j : ℕ) → (j ≡ n → ⊥) → (after_on_line es n ≡ j + 1 → ⊥) → before_on_line fs j ≡ before_on_line es j

-- the head of a line's list, once its place is gone
pub record Moved (heads new : List ℕ) (line before after : ℕ) : Type 0 where
  pub first : before ≡ 0 → get_or new line 0 ≡ after
  pub later : (before ≡ 0 → ⊥) → get_or new line 0 ≡ get_or heads line 0
  pub other : (l : ℕ) → (l ≡ line → ⊥) → get_or new l 0 ≡ get_or heads l 0

module _ (r : Rows) (fs : List Entry) (n core : ℕ) (rank : ℕ → ℕ) (top : ℕ) (j : Left r.entries fs n r.free)
    (t : AreThreaded r rank top)
    (core_below : core < length r.core_heads) (first : get_or r.core_heads core 0 ≡ n + 1) where
  abbrev es : List Entry
  es = r.entries

  abbrev rank' : ℕ → ℕ
  rank' = with_rank rank n top

  abbrev line : ℕ
  line = (entry_at es n).line

  was : OnCore es core n
  was = (t.cores core core_below).head_on n first

  was_line : OnLine es line n
  was_line = (was.0, was.1, refl)

  other_place : (e : ℕ) → held fs e ≡ true → e ≡ n → ⊥
  other_place e h s = never (held fs e) h (ap (held fs) s ∙ j.is_free)

  same_rank : (e : ℕ) → held fs e ≡ true → rank' e ≡ rank e
  same_rank e h = old_rank rank n top e (other_place e h)

  -- the lists of a kind, by the field that tells a place's list
  module _ (field : Entry → ℕ) (old_field : (i : ℕ) → (i ≡ n → ⊥) → field (entry_at fs i) ≡ field (entry_at es i)) where
    on_to : (v e : ℕ) → On fs field v e → On es field v e
    on_to v e o =
        let d = other_place e o.1 in (omega (arith, o.0, j.len), sym (j.old_held e d) ∙ o.1, sym (old_field e d) ∙ o.2)

    on_from : (v e : ℕ) → On es field v e → (e ≡ n → ⊥) → On fs field v e
    on_from v e o d = (omega (arith, o.0, j.len), j.old_held e d ∙ o.1, old_field e d ∙ o.2)

    on_other : (v e : ℕ) → (v ≡ field (entry_at es n) → ⊥) → On es field v e → On fs field v e
    on_other v e apart o = on_from v e o (λ s. apart (sym o.2 ∙ ap (λ i. field (entry_at es i)) s))

  -- its line's list is linked over it
  module _ (b : line < r.line_count) (heads : List ℕ)
      (m : Moved r.line_heads heads line (before_on_line es n) (after_on_line es n)) where
    its_line : IsList (OnLine fs line) (get_or heads line 0) (after_on_line fs) (before_on_line fs) rank'
    its_line = lost_list (OnLine es line) (OnLine fs line) (get_or r.line_heads line 0) n
        (after_on_line es) (after_on_line fs) (before_on_line es) (before_on_line fs) rank rank'
        (on_to (λ e. e.line) j.old_line line) (on_from (λ e. e.line) j.old_line line)
        (λ o. never (held fs n) o.1 j.is_free) was_line
        (λ e o i. j.over e (other_place e o.1)
        ((t.lines_back line b).back e n (on_to (λ e. e.line) j.old_line line e o) i))
        (λ e o d. j.old_after_line e (other_place e o.1) (λ i. d ((t.lines_back line b).itself n e was_line i)))
        (λ e o. same_rank e o.1) (t.lines line b)
        (λ i. m.first ((t.lines_back line b).first n i))
        (λ d. m.later (λ i. d ((t.lines_back line b).at_head n was_line i)))
        (λ e o i. j.around e (other_place e o.1) i) (λ e o d. j.other_line e (other_place e o.1) d)
        (t.lines_back line b)

    other_lines : (l : ℕ) → (l ≡ line → ⊥) → l < r.line_count
        → IsList (OnLine fs l) (get_or r.line_heads l 0) (after_on_line fs) (before_on_line fs) rank'
    other_lines l apart c = kept_list (OnLine es l) (OnLine fs l) (after_on_line es) (after_on_line fs) rank rank'
        (on_to (λ e. e.line) j.old_line l) (λ e o. on_other (λ e. e.line) j.old_line l e apart o)
        (λ e o. j.old_after_line e (other_place e o.1) (λ i. off e o ((t.lines_back line b).before_on n e was_line i)))
        (λ e o. same_rank e o.1)
        (λ e o. j.other_line e (other_place e o.1) (λ i. off e o ((t.lines line b).after_on n e was_line i)))
        (record { ranked = t.lines l c; back = t.lines_back l c })
      where
        off : (e : ℕ) → OnLine fs l e → OnLine es line e → ⊥
        off e o p = apart (sym (on_to (λ e. e.line) j.old_line l e o).2 ∙ p.2)

    lines_now : (l : ℕ) → l < r.line_count
        → IsList (OnLine fs l) (get_or heads l 0) (after_on_line fs) (before_on_line fs) rank'
    lines_now l c = ⊎_elim
        (λ (s : l ≡ line). subst
        (λ k. IsList (OnLine fs k) (get_or heads k 0) (after_on_line fs) (before_on_line fs) rank') (sym s) its_line)
        (λ (s : l ≡ line → ⊥). subst (λ k. IsList (OnLine fs l) k (after_on_line fs) (before_on_line fs) rank')
        (sym (m.other l s)) (other_lines l s c))
        (cases_eq l line)

  -- the core's list begins with the entry after
  none_before : (e : ℕ) → OnCore fs core e → after_on_core es e ≡ n + 1 → ⊥
  none_before e o i =
      let a = (t.cores_back core core_below).back e n (on_to (λ e. e.core) j.old_core core e o) i in
      omega (arith, a, (t.cores_back core core_below).first n first)

  its_core : IsList (OnCore fs core) (after_on_core es n) (after_on_core fs) (before_on_core fs) rank'
  its_core = lost_list (OnCore es core) (OnCore fs core) (get_or r.core_heads core 0) n
      (after_on_core es) (after_on_core fs) (before_on_core es) (before_on_core fs) rank rank'
      (on_to (λ e. e.core) j.old_core core) (on_from (λ e. e.core) j.old_core core)
      (λ o. never (held fs n) o.1 j.is_free) was
      (λ e o i. absurd (none_before e o i)) (λ e o d. j.old_after_core e (other_place e o.1)) (λ e o. same_rank e o.1)
      (t.cores core core_below)
      (λ _. refl) (λ d. absurd (d first))
      (λ e o i. j.next_core e (other_place e o.1) i ∙ sym ((t.cores_back core core_below).first n first))
      (λ e o d. j.other_core e (other_place e o.1) d) (t.cores_back core core_below)

  other_cores : (c : ℕ) → (c ≡ core → ⊥) → c < length r.core_heads
      → IsList (OnCore fs c) (get_or r.core_heads c 0) (after_on_core fs) (before_on_core fs) rank'
  other_cores c apart b = kept_list (OnCore es c) (OnCore fs c) (after_on_core es) (after_on_core fs) rank rank'
      (on_to (λ e. e.core) j.old_core c) (λ e o. on_other (λ e. e.core) j.old_core c e (λ s. apart (s ∙ was.2)) o)
      (λ e o. j.old_after_core e (other_place e o.1)) (λ e o. same_rank e o.1)
      (λ e o. j.other_core e (other_place e o.1) (λ i.
      apart (sym (on_to (λ e. e.core) j.old_core c e o).2 ∙ ((t.cores core core_below).after_on n e was i).2)))
      (record { ranked = t.cores c b; back = t.cores_back c b })

  cores_now : (c : ℕ) → c < length r.core_heads
      → IsList (OnCore fs c) (get_or (set r.core_heads core (after_on_core es n)) c 0) (after_on_core fs)
      (before_on_core fs) rank'
  cores_now =
      heads_set (λ c h. c < length r.core_heads → IsList (OnCore fs c) h (after_on_core fs) (before_on_core fs) rank')
      r.core_heads core (after_on_core es n) core_below (λ _. its_core) other_cores

  -- the free list begins with the place that is free now
  free_is : (e : ℕ) → IsFree fs e → (e ≡ n) ⊎ IsFree es e
  free_is e o = ⊎_elim (λ (s : e ≡ n). inl s)
      (λ (s : e ≡ n → ⊥). let z = j.len in let b = o.0 in inr (omega arith, sym (j.old_held e s) ∙ o.1)) (cases_eq e n)

  free_other : (e : ℕ) → IsFree es e → e ≡ n → ⊥
  free_other e o s = never (held es e) (ap (held es) s ∙ j.was_held) o.1

  free_list : IsRanked (IsFree fs) (n + 1) (after_on_core fs) rank'
  free_list = pushed (IsFree es) (IsFree fs) r.free n (after_on_core es) (after_on_core fs) rank rank'
      free_is (λ e o. (omega (arith, o.0, j.len), j.old_held e (free_other e o) ∙ o.1))
      (omega (arith, j.len, j.below), j.is_free)
      (λ o. free_other n o refl) j.after_free (λ e o. j.old_after_core e (free_other e o))
      (λ e o. old_rank rank n top e (free_other e o))
      (λ e o. let a = new_rank rank n top in let b = t.below_top e in omega arith) t.free

  slots_fall : (c e f : ℕ) → OnCore fs c e → OnCore fs c f → (entry_at fs e).kind ≡ Write → (entry_at fs f).kind ≡ Write
      → rank' f < rank' e → (entry_at fs f).slot < (entry_at fs e).slot
  slots_fall c e f o p ke kf less =
      let d = other_place e o.1 in
      let q = other_place f p.1 in
      let lower : rank f < rank e = omega (arith, less, same_rank e o.1, same_rank f p.1) in
      let z = t.slots c e f (on_to (λ e. e.core) j.old_core c e o) (on_to (λ e. e.core) j.old_core c f p)
      (sym (j.old_kind e d) ∙ ke) (sym (j.old_kind f q) ∙ kf) lower in
      omega (arith, z, j.old_slot e d, j.old_slot f q)

  -- the rows are threaded again
  pub threaded_left : (heads reads writes : List ℕ) → (entry_at r.entries n).line < r.line_count
      → Moved r.line_heads heads ((entry_at r.entries n).line) (before_on_line r.entries n) (after_on_line r.entries n)
      → AreThreaded (record r {
        entries = fs;
        core_heads = set r.core_heads core (after_on_core r.entries n);
        line_heads = heads;
        free = n + 1;
        reads = reads;
        writes = writes;
      }) (with_rank rank n top) (top + 1)
  threaded_left heads reads writes b m = record {
    below_top = rank_below rank n top t.below_top;
    lines = λ l c. (lines_now b heads m l c).ranked;
    lines_back = λ l c. (lines_now b heads m l c).back;
    cores = λ c d. (cores_now c (unset c d)).ranked;
    cores_back = λ c d. (cores_now c (unset c d)).back;
    free = free_list;
    slots = slots_fall;
  }
    where
      unset : (c : ℕ) → c < length (set r.core_heads core (after_on_core r.entries n)) → c < length r.core_heads
      unset c d = omega (arith, d, length-set r.core_heads core (after_on_core r.entries n))
