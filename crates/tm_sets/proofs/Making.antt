-- Rows of which all entries are free.
use Rattle.std.proofs.Common.{◌≡◌, ℕ, suc, ◌+◌, ◌<◌, ◌≤◌, false, min, List, [], ◌∷◌, length, get_or, sum, None, refl}
use Rattle.std.proofs.Common.{sym, ap, ◌∙◌, ⊎_elim, arith}
use Rattle.std.proofs.Math.Path.{fun_ext}
use Rattle.std.proofs.Math.ListN.{replicate}
use Rattle.std.proofs.lemmas.Bool.{cases_lt}
use Rattle.std.proofs.lemmas.List.{get_or-replicate, length-replicate, get_or_past}
use Rattle.std.proofs.lemmas.List.Sums.{sum_by-cons}
use Rattle.std.specs.Cmp.{nat_cmp_total}
use Rattle.std.specs.Ordering.{nat_cmp}
use Rattle.std.specs.FinSet as lines
use Rattle.tm_sets.specs.declared.interface.Kind.{Kind}
use Rattle.tm_sets.specs.declared.interface.Kind.TheVariants.{Read, Write}
use Rattle.tm_sets.specs.Content.{empty_content, by_kind}
use Rattle.tm_sets.specs.Ranked.{IsRanked, GoesBack}
use Rattle.tm_sets.specs.Row.{entry_at, lines_in, slot_among, freed, no_entry}
use Rattle.tm_sets.specs.Threaded.{Rows, held, after_on_core, IsThreaded, AreCounted, threaded_content}
use Rattle.tm_sets.proofs.Adding.{same_content}
use Rattle.tm_sets.proofs.Contents.{not_held}
use Rattle.tm_sets.proofs.Counting.{never, count_none}
use Rattle.tm_sets.proofs.Members.{absent, slot_nowhere}

nothing_on : (on : ℕ → Type 0) (head : ℕ) (after rank : ℕ → ℕ) → head ≡ 0 → ((e : ℕ) → on e → ⊥)
    → IsRanked on head after rank
nothing_on on head after rank z none = record {
  head_on = λ h i. absurd (omega arith);
  some = λ e o i. none e o;
  first = λ e h o i. absurd (none e o);
  after_on = λ e f o i. absurd (none e o);
  falls = λ e f o i. absurd (none e o);
  goes_on = λ e f o p l i. none e o;
  next = λ e f g o p l i. absurd (none e o);
  apart = λ e f o p i. absurd (none e o);
}

nothing_back : (on : ℕ → Type 0) (head : ℕ) (after before : ℕ → ℕ) → head ≡ 0 → ((e : ℕ) → on e → ⊥)
    → GoesBack on head after before
nothing_back on head after before z none = record {
  first = λ h i. absurd (omega arith);
  back = λ e f o i. absurd (none e o);
  at_head = λ e o i. absurd (none e o);
  before_on = λ e b o i. absurd (none e o);
  itself = λ e b o i. absurd (none e o);
}

-- a sum of nothing but zeros
sum_zeros : (xs : List ℕ) → ((i : ℕ) → get_or xs i 0 ≡ 0) → sum xs ≡ 0
sum_zeros [] h = refl
sum_zeros (x ∷ xs) h =
    let a : sum (x ∷ xs) ≡ x + sum xs = sum_by-cons (λ n. n) x xs in
    let b = sum_zeros xs (λ i. h (suc i)) in
    let d : x ≡ 0 = h 0 in
    omega arith

-- rows before any triple has come
pub record IsFresh (r : Rows) : Type 0 where
  pub row : (place : ℕ) → place < length r.entries → entry_at r.entries place ≡ freed no_entry place
  pub core_heads : (i : ℕ) → get_or r.core_heads i 0 ≡ 0
  pub line_heads : (i : ℕ) → get_or r.line_heads i 0 ≡ 0
  pub reads : (i : ℕ) → get_or r.reads i 0 ≡ 0
  pub writes : (i : ℕ) → get_or r.writes i 0 ≡ 0
  pub free : r.free ≡ length r.entries

module _ (r : Rows) (fresh : IsFresh r) where
  open fresh use {row, core_heads, line_heads, reads, writes, free}

  none_held : (e : ℕ) → e < length r.entries → held r.entries e ≡ false
  none_held e b = ap (λ x. x.held) (row e b)

  after_is : (e : ℕ) → e < length r.entries → after_on_core r.entries e ≡ e
  after_is e b = ap (λ x. x.after_on_core) (row e b)

  rank : ℕ → ℕ
  rank e = min e (length r.entries)

  pub fresh_threaded : IsThreaded r
  fresh_threaded = ∣ (
    (λ e. min e (length r.entries)),
    length r.entries + 1,
    record {
      below_top = λ e. omega arith;
      lines = λ line b. nothing_on _ _ _ _ (line_heads line) (λ e o. never (held r.entries e) o.1 (none_held e o.0));
      lines_back =
          λ line b. nothing_back _ _ _ _ (line_heads line) (λ e o. never (held r.entries e) o.1 (none_held e o.0));
      cores = λ core b. nothing_on _ _ _ _ (core_heads core) (λ e o. never (held r.entries e) o.1 (none_held e o.0));
      cores_back =
          λ core b. nothing_back _ _ _ _ (core_heads core) (λ e o. never (held r.entries e) o.1 (none_held e o.0));
      free = record {
        head_on = λ h i. let b : h < length r.entries = omega arith in (b, none_held h b);
        some = λ e o i. let b = o.0 in omega arith;
        first = λ e h o i. let b = o.0 in omega arith;
        after_on = λ e f o i. let b = o.0 in let a = after_is e b in let d : f < length r.entries = omega arith in
            (d, none_held f d);
        falls = λ e f o i. let b = o.0 in let a = after_is e b in omega arith;
        goes_on = λ e f o p l i. let b = o.0 in let a = after_is e b in omega arith;
        next = λ e f g o p l i. let b = o.0 in let d = p.0 in let a = after_is e b in omega arith;
        apart = λ e f o p i. let b = o.0 in let d = p.0 in omega arith;
      };
      slots = λ core e f o p ke kf l. never (held r.entries e) o.1 (none_held e o.0);
    },
  ) ∣₁

  pub nothing_in : (core : ℕ) (kind : Kind) → lines_in r.entries core kind ≡ lines.empty
  nothing_in core kind =
      lines.same_set nat_cmp_total lines.nat_cmp-IsAntisymmetric (lines_in r.entries core kind) lines.empty (λ q.
      absent r.entries core kind q (λ i b. not_held (entry_at r.entries i) (none_held i b) core kind q)
      ∙ sym (lines.contains-empty nat_cmp q))

  pub fresh_counted : AreCounted r
  fresh_counted = record {
    core = λ e b h. never (held r.entries e) h (none_held e b);
    line = λ e b h. never (held r.entries e) h (none_held e b);
    once = λ e f b d h i c k l. never (held r.entries e) h (none_held e b);
    reads = λ core. reads core ∙ sym (ap lines.len (nothing_in core Read) ∙ lines.len-empty nat_cmp);
    writes = λ core. writes core ∙ sym (ap lines.len (nothing_in core Write) ∙ lines.len-empty nat_cmp);
    read_room = λ core. let z = reads core in omega arith;
    write_room = λ core. let z = writes core in omega arith;
    all = omega (
      arith,
      sum_zeros r.reads reads,
      sum_zeros r.writes writes,
      count_none (held r.entries) (length r.entries) none_held,
    );
    slot = λ core e o k. never (held r.entries e) o.1 (none_held e o.0);
  }

  no_slots : (core : ℕ) → slot_among r.entries core ≡ (λ _. None)
  no_slots core =
      fun_ext (λ q. slot_nowhere r.entries core q (λ i b. not_held (entry_at r.entries i) (none_held i b) core Write q))

  pub fresh_content : (cores : ℕ) → length r.core_heads ≡ cores
      → threaded_content r ≡ empty_content cores r.line_count r.read_lines r.write_lines
  fresh_content cores l = same_content _ _ nothing_in no_slots
      (λ i. record { room = by_kind r.read_lines r.write_lines; cores = l i; line_count = r.line_count })

-- a list that is made of zeros
pub all_zero : (xs : List ℕ) (n : ℕ) → xs ≡ replicate n 0 → (i : ℕ) → get_or xs i 0 ≡ 0
all_zero xs n e i = ap (λ ys. get_or ys i 0) e ∙ ⊎_elim
    (λ (b : i < n). get_or-replicate n i 0 0 b)
    (λ (b : n ≤ i). get_or_past (replicate n 0) i 0 (past b))
    (cases_lt i n)
  where
    past : n ≤ i → length (replicate {A = ℕ} n 0) ≤ i
    past b = let l : length (replicate {A = ℕ} n 0) ≡ n = length-replicate n 0 in omega arith

pub zeros_length : (xs : List ℕ) (n : ℕ) → xs ≡ replicate n 0 → length xs ≡ n
zeros_length xs n e = ap length e ∙ length-replicate n 0
