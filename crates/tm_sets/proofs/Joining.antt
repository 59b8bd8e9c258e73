-- What becomes of the lists when a triple comes.
use Rattle.std.proofs.Common.{◌≡◌, ℕ, ◌+◌, ◌<◌, true, false, cond, eqb, List, length, get_or, set, refl, sym, ap, ◌∙◌}
use Rattle.std.proofs.Common.{⊎_elim, ◌⊎◌, inl, inr, arith}
use Rattle.std.proofs.lemmas.Bool.{cases_eq, eq-eqb, ne_eqb}
use Rattle.std.proofs.lemmas.List.{length-set}
use Rattle.tm_sets.specs.declared.interface.Kind.{Kind}
use Rattle.tm_sets.specs.declared.interface.Kind.TheVariants.{Write}
use Rattle.tm_sets.specs.declared.row.Entry.{Entry}
use Rattle.tm_sets.specs.Ranked.{IsRanked}
use Rattle.tm_sets.specs.Row.{entry_at}
use Rattle.tm_sets.specs.Threaded.{Rows, held, OnLine, OnCore, IsFree, after_on_line, before_on_line, after_on_core}
use Rattle.tm_sets.specs.Threaded.{before_on_core, AreThreaded, AreCounted, AreSized}
use Rattle.tm_sets.proofs.Counting.{never}
use Rattle.tm_sets.proofs.Ranks.{IsList, heads_set, kept_list, pushed_list, lost}

-- a free place of the row stands for a triple now, and is before the two entries that were the first of its lists
pub record Joined (es fs : List Entry) (n at_core : ℕ) (as_kind : Kind)
    (at_line new_slot core_head line_head : ℕ) : Type 0 where
  pub len : length fs ≡ length es
  pub below : n < length es
  pub was_free : held es n ≡ false
  pub is_held : held fs n ≡ true
  pub core : (entry_at fs n).core ≡ at_core
  pub kind : (entry_at fs n).kind ≡ as_kind
  pub line : (entry_at fs n).line ≡ at_line
  pub slot : (entry_at fs n).slot ≡ new_slot
  pub after_core : after_on_core fs n ≡ core_head
  pub after_line : after_on_line fs n ≡ line_head
  pub before_core : before_on_core fs n ≡ 0
  pub before_line : before_on_line fs n ≡ 0
  pub old_held : (j : ℕ) → (j ≡ n → ⊥) → held fs j ≡ held es j
  pub old_core : (j : ℕ) → (j ≡ n → ⊥) → (entry_at fs j).core ≡ (entry_at es j).core
  pub old_kind : (j : ℕ) → (j ≡ n → ⊥) → (entry_at fs j).kind ≡ (entry_at es j).kind
  pub old_line : (j : ℕ) → (j ≡ n → ⊥) → (entry_at fs j).line ≡ (entry_at es j).line
  pub old_slot : (j : ℕ) → (j ≡ n → ⊥) → (entry_at fs j).slot ≡ (entry_at es j).slot
  pub old_after_core : (j : ℕ) → (j ≡ n → ⊥) → after_on_core fs j ≡ after_on_core es j
  pub old_after_line : (j : ℕ) → (j ≡ n → ⊥) → after_on_line fs j ≡ after_on_line es j
  pub first_core : (j : ℕ) → (j ≡ n → ⊥) → core_head ≡ j + 1 → before_on_core fs j ≡ n + 1
  pub first_line : (j : ℕ) → (j ≡ n → ⊥) → line_head ≡ j + 1 → before_on_line fs j ≡ n + 1
  pub other_core : (j : ℕ) → (j ≡ n → ⊥) → (core_head ≡ j + 1 → ⊥) → before_on_core fs j ≡ before_on_core es j
  pub other_line : (j : ℕ) → (j ≡ n → ⊥) → (line_head ≡ j + 1 → ⊥) → before_on_line fs j ≡ before_on_line es j

-- the rank of the place that came last is the highest
abbrev pub with_rank : (ℕ → ℕ) → ℕ → ℕ → ℕ → ℕ
with_rank rank n top e = cond (eqb e n) top (rank e)

pub new_rank : (rank : ℕ → ℕ) (n top : ℕ) → with_rank rank n top n ≡ top
new_rank rank n top = ap (λ t. cond t top (rank n)) (eq-eqb n n refl)

pub old_rank : (rank : ℕ → ℕ) (n top e : ℕ) → (e ≡ n → ⊥) → with_rank rank n top e ≡ rank e
old_rank rank n top e o = ap (λ t. cond t top (rank e)) (ne_eqb e n o)

pub rank_below : (rank : ℕ → ℕ) (n top : ℕ) → ((e : ℕ) → rank e < top) → (e : ℕ) → with_rank rank n top e < top + 1
rank_below rank n top h e = ⊎_elim
    (λ (s : e ≡ n). let a : with_rank rank n top e ≡ top = ap (with_rank rank n top) s ∙ new_rank rank n top in
    omega arith)
    (λ (s : e ≡ n → ⊥). let a = old_rank rank n top e s in let b = h e in omega arith)
    (cases_eq e n)

-- a place that stands for a triple with this number in a field
abbrev pub On : List Entry → (Entry → ℕ) → ℕ → ℕ → Type 0
On es field v place = (place < length es) × (held es place ≡ true) × (field (entry_at es place) ≡ v)

-- a place has come to the head of one of the lists of a kind: of those with this number in a field
record Pushed (es fs : List Entry) (n : ℕ) (field after before : Entry → ℕ) (its head : ℕ) : Type 0 where
  pub new_field : field (entry_at fs n) ≡ its
  pub old_field : (i : ℕ) → (i ≡ n → ⊥) → field (entry_at fs i) ≡ field (entry_at es i)
  pub new_after : after (entry_at fs n) ≡ head
  pub old_after : (i : ℕ) → (i ≡ n → ⊥) → after (entry_at fs i) ≡ after (entry_at es i)
  pub new_before : before (entry_at fs n) ≡ 0
  pub first : (i : ℕ) → (i ≡ n → ⊥) → head ≡ i + 1 → before (entry_at fs i) ≡ n + 1
  pub other : (i : ℕ) → (i ≡ n → ⊥) → (head ≡ i + 1 → ⊥) → before (entry_at fs i) ≡ before (entry_at es i)

module _ (r : Rows) (fs : List Entry) (n core : ℕ) (kind : Kind) (line : ℕ) (rank : ℕ → ℕ) (top : ℕ)
    (j :
    Joined r.entries fs n core kind line (get_or r.writes core 0) (get_or r.core_heads core 0)
    (get_or r.line_heads line 0))
    (t : AreThreaded r rank top) where
  abbrev es : List Entry
  es = r.entries

  abbrev rank' : ℕ → ℕ
  rank' = with_rank rank n top

  -- a place that was held isn't the new one
  other_place : (e : ℕ) → held es e ≡ true → e ≡ n → ⊥
  other_place e h s = never (held es e) h (ap (held es) s ∙ j.was_free)

  -- what becomes of the lists of a kind
  module _ (field after before : Entry → ℕ) (its : ℕ) (heads : List ℕ) (count : ℕ) (in_heads : its < length heads)
      (below : its < count)
      (p : Pushed es fs n field after before its (get_or heads its 0))
      (old :
      (v : ℕ) → v < count
      → IsList (On es field v) (get_or heads v 0) (λ e. after (entry_at es e)) (λ e. before (entry_at es e)) rank) where
    on_from : (v e : ℕ) → On es field v e → On fs field v e
    on_from v e o =
        let d = other_place e o.1 in (omega (arith, o.0, j.len), j.old_held e d ∙ o.1, p.old_field e d ∙ o.2)

    on_to : (v e : ℕ) → On fs field v e → (e ≡ n → ⊥) → On es field v e
    on_to v e o d = (omega (arith, o.0, j.len), sym (j.old_held e d) ∙ o.1, sym (p.old_field e d) ∙ o.2)

    on_is : (v e : ℕ) → On fs field v e → (e ≡ n) ⊎ On es field v e
    on_is v e o = ⊎_elim (λ (s : e ≡ n). inl s) (λ (s : e ≡ n → ⊥). inr (on_to v e o s)) (cases_eq e n)

    its_list : IsList (On fs field its) (n + 1) (λ e. after (entry_at fs e)) (λ e. before (entry_at fs e)) rank'
    its_list = pushed_list (On es field its) (On fs field its) (get_or heads its 0) n
        (λ e. after (entry_at es e)) (λ e. after (entry_at fs e)) rank rank'
        (on_is its) (on_from its) (omega (arith, j.len, j.below), j.is_held, p.new_field)
        (λ o. other_place n o.1 refl) p.new_after
        (λ e o. p.old_after e (other_place e o.1)) (λ e o. old_rank rank n top e (other_place e o.1))
        (λ e o. omega (arith, new_rank rank n top, t.below_top e))
        p.new_before (λ e o. p.first e (other_place e o.1)) (λ e o. p.other e (other_place e o.1)) (old its below)

    -- on the list of another number nothing is new
    off : (v e : ℕ) → (v ≡ its → ⊥) → On fs field v e → e ≡ n → ⊥
    off v e apart o s = apart (sym o.2 ∙ ap (λ i. field (entry_at fs i)) s ∙ p.new_field)

    other_list : (v : ℕ) → (v ≡ its → ⊥) → v < count
        → IsList (On fs field v) (get_or heads v 0) (λ e. after (entry_at fs e)) (λ e. before (entry_at fs e)) rank'
    other_list v apart b =
        kept_list (On es field v) (On fs field v) (λ e. after (entry_at es e)) (λ e. after (entry_at fs e)) rank rank'
        (λ e o. on_to v e o (off v e apart o)) (on_from v) (λ e o. p.old_after e (off v e apart o))
        (λ e o. old_rank rank n top e (off v e apart o))
        (λ e o. p.other e (off v e apart o)
        (λ i. apart (sym (on_to v e o (off v e apart o)).2 ∙ ((old its below).ranked.head_on e i).2))) (old v b)

    lists : (v : ℕ) → v < count
        → IsList (On fs field v) (get_or (set heads its (n + 1)) v 0) (λ e. after (entry_at fs e))
        (λ e. before (entry_at fs e)) rank'
    lists v = heads_set
        (λ v h. v < count → IsList (On fs field v) h (λ e. after (entry_at fs e)) (λ e. before (entry_at fs e)) rank')
        heads its (n + 1) in_heads (λ _. its_list) other_list v

  lines_now : AreSized r → line < r.line_count → (l : ℕ) → l < r.line_count
      → IsList (OnLine fs l) (get_or (set r.line_heads line (n + 1)) l 0) (after_on_line fs) (before_on_line fs) rank'
  lines_now sized b = lists (λ e. e.line) (λ e. e.after_on_line) (λ e. e.before_on_line) line r.line_heads r.line_count
      (omega (arith, b, sized.lines)) b
      (record {
        new_field = j.line;
        old_field = j.old_line;
        new_after = j.after_line;
        old_after = j.old_after_line;
        new_before = j.before_line;
        first = j.first_line;
        other = j.other_line;
      })
      (λ l c. record { ranked = t.lines l c; back = t.lines_back l c })

  cores_now : core < length r.core_heads → (c : ℕ) → c < length r.core_heads
      → IsList (OnCore fs c) (get_or (set r.core_heads core (n + 1)) c 0) (after_on_core fs) (before_on_core fs) rank'
  cores_now b =
      lists (λ e. e.core) (λ e. e.after_on_core) (λ e. e.before_on_core) core r.core_heads (length r.core_heads) b b
      (record {
        new_field = j.core;
        old_field = j.old_core;
        new_after = j.after_core;
        old_after = j.old_after_core;
        new_before = j.before_core;
        first = j.first_core;
        other = j.other_core;
      })
      (λ c d. record { ranked = t.cores c d; back = t.cores_back c d })

  core_to : (c e : ℕ) → OnCore fs c e → (e ≡ n → ⊥) → OnCore es c e
  core_to c e o d = (omega (arith, o.0, j.len), sym (j.old_held e d) ∙ o.1, sym (j.old_core e d) ∙ o.2)

  free_other : (e : ℕ) → IsFree fs e → e ≡ n → ⊥
  free_other e o s = never (held fs e) (ap (held fs) s ∙ j.is_held) o.1

  free_to : (e : ℕ) → IsFree fs e → IsFree es e
  free_to e o = let z = j.len in let b = o.0 in (omega arith, sym (j.old_held e (free_other e o)) ∙ o.1)

  free_list : r.free ≡ n + 1 → IsRanked (IsFree fs) (after_on_core es n) (after_on_core fs) rank'
  free_list is = lost (IsFree es) (IsFree fs) r.free n (after_on_core es) (after_on_core fs) (after_on_core es)
      (after_on_core fs) rank rank'
      free_to (λ e o d. let z = j.len in let b = o.0 in (omega arith, j.old_held e d ∙ o.1))
      (λ o. never (held fs n) j.is_held o.1) (t.free.head_on n is)
      (λ e o i. let a = t.free.falls e n (free_to e o) i in let b = t.free.first e n (free_to e o) is in
      absurd (omega arith))
      (λ e o i. j.old_after_core e (free_other e o)) (λ e o. old_rank rank n top e (free_other e o)) t.free
      (after_on_core es n) (λ _. refl) (λ d. absurd (d is))

  slots_fall : AreCounted r → (c e f : ℕ) → OnCore fs c e → OnCore fs c f → (entry_at fs e).kind ≡ Write
      → (entry_at fs f).kind ≡ Write
      → rank' f < rank' e → (entry_at fs f).slot < (entry_at fs e).slot
  slots_fall counted c e f o p ke kf less = ⊎_elim
      (λ (s : f ≡ n). let a : rank' f ≡ top = ap rank' s ∙ new_rank rank n top in
      let b = rank_below rank n top t.below_top e in
      absurd (⊎_elim
      (λ (q : e ≡ n). let x : rank' e ≡ top = ap rank' q ∙ new_rank rank n top in omega arith)
      (λ (q : e ≡ n → ⊥). let x = old_rank rank n top e q in let y = t.below_top e in omega arith)
      (cases_eq e n)))
      (λ (s : f ≡ n → ⊥).
      let b = j.old_slot f s in
      let was = core_to c f p s in
      let kind_was : (entry_at es f).kind ≡ Write = sym (j.old_kind f s) ∙ kf in
      ⊎_elim
      (λ (q : e ≡ n).
      let same : c ≡ core = sym o.2 ∙ ap (λ i. (entry_at fs i).core) q ∙ j.core in
      let x : (entry_at fs e).slot ≡ get_or r.writes core 0 = ap (λ i. (entry_at fs i).slot) q ∙ j.slot in
      let y : (entry_at es f).slot < get_or r.writes core 0 =
      counted.slot core f (was.0, was.1, was.2 ∙ same) kind_was in
      omega arith)
      (λ (q : e ≡ n → ⊥).
      let x = j.old_slot e q in
      let u = old_rank rank n top e q in
      let v = old_rank rank n top f s in
      let y : (entry_at es f).slot < (entry_at es e).slot =
      t.slots c e f (core_to c e o q) was (sym (j.old_kind e q) ∙ ke) kind_was (omega arith) in
      omega arith)
      (cases_eq e n))
      (cases_eq f n)

  -- the rows are threaded again
  pub threaded_joined : AreCounted r → AreSized r → (reads writes : List ℕ) → r.free ≡ n + 1
      → core < length r.core_heads → line < r.line_count
      → AreThreaded (record r {
        entries = fs;
        core_heads = set r.core_heads core (n + 1);
        line_heads = set r.line_heads line (n + 1);
        free = after_on_core r.entries n;
        reads = reads;
        writes = writes;
      }) (with_rank rank n top) (top + 1)
  threaded_joined counted sized reads writes is core_below line_below = record {
    below_top = rank_below rank n top t.below_top;
    lines = λ l b. (lines_now sized line_below l b).ranked;
    lines_back = λ l b. (lines_now sized line_below l b).back;
    cores = λ c b. (cores_now core_below c (unset c b)).ranked;
    cores_back = λ c b. (cores_now core_below c (unset c b)).back;
    free = free_list is;
    slots = slots_fall counted;
  }
    where
      unset : (c : ℕ) → c < length (set r.core_heads core (n + 1)) → c < length r.core_heads
      unset c b = omega (arith, b, length-set r.core_heads core (n + 1))
