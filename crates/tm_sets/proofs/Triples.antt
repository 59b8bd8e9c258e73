-- The entries on a line's list are the triples that have the line.
use Rattle.std.proofs.Common.{◌≡◌, ℕ, zero, suc, ◌+◌, ◌*◌, ◌≤◌, Bool, true, false, cond, eqb, ◌&&◌, List, length, min}
use Rattle.std.proofs.Common.{refl, sym, ap, ◌∙◌, arith}
use Rattle.std.proofs.lemmas.Bool.{eq-eqb}
use Rattle.std.specs.FinSet as lines
use Rattle.tm_sets.specs.declared.interface.Kind.{Kind}
use Rattle.tm_sets.specs.declared.interface.Kind.TheVariants.{Read, Write}
use Rattle.tm_sets.specs.declared.row.Entry.{Entry}
use Rattle.tm_sets.specs.Content.{same_kind, triples_on}
use Rattle.tm_sets.specs.Count.{count_below}
use Rattle.tm_sets.specs.Row.{entry_at, lines_in}
use Rattle.tm_sets.specs.Threaded.{Rows, held, on_line, entries_on, threaded_content, AreCounted}
use Rattle.tm_sets.proofs.Counting.{both, as_one, equal, count_zero, count_step, count_le, count_matched}
use Rattle.tm_sets.proofs.Members.{stands, triple, present, place_of, same_kinds, kind_itself}

-- the entry stands for the line and a kind
on_kind : List Entry → ℕ → Kind → ℕ → Bool
on_kind es line kind e = on_line es line e && same_kind (entry_at es e).kind kind

parts : (b : Bool) (k : Kind)
    → cond {A = ℕ} b 1 0 ≡ cond {A = ℕ} (b && same_kind k Read) 1 0 + cond {A = ℕ} (b && same_kind k Write) 1 0
parts true Read = refl
parts true Write = refl
parts false k = refl

split : (es : List Entry) (line n : ℕ)
    → count_below (on_line es line) n
    ≡ count_below (λ e. on_line es line e && same_kind (entry_at es e).kind Read) n
    + count_below (λ e. on_line es line e && same_kind (entry_at es e).kind Write) n
split es line zero = let a = count_zero (on_line es line) in
    let b = count_zero (λ e. on_line es line e && same_kind (entry_at es e).kind Read) in
    let c = count_zero (λ e. on_line es line e && same_kind (entry_at es e).kind Write) in omega arith
split es line (suc n) =
    let a = count_step (on_line es line) n in
    let b = count_step (λ e. on_line es line e && same_kind (entry_at es e).kind Read) n in
    let c = count_step (λ e. on_line es line e && same_kind (entry_at es e).kind Write) n in
    let p = parts (on_line es line n) (entry_at es n).kind in
    let i = split es line n in
    omega arith

by_core : (r : Rows) → AreCounted r → (line : ℕ) (kind : Kind)
    → count_below (λ e. on_line r.entries line e && same_kind (entry_at r.entries e).kind kind) (length r.entries)
    ≡ count_below (λ core. lines.contains (lines_in r.entries core kind) line) (length r.core_heads)
by_core r a line kind = count_matched (length r.core_heads) (length r.entries)
    (λ e. on_line r.entries line e && same_kind (entry_at r.entries e).kind kind)
    (λ core. lines.contains (lines_in r.entries core kind) line) (λ e. (entry_at r.entries e).core)
    (λ e b t.
    let w = both (on_line r.entries line e) (same_kind (entry_at r.entries e).kind kind) t in
    let v = both (held r.entries e) (eqb (entry_at r.entries e).line line) w.0 in (
      a.core e b v.0,
      present r.entries e (entry_at r.entries e).core kind line b
          (triple (entry_at r.entries e) (entry_at r.entries e).core kind line (record {
            is_held = v.0;
            at_core = refl;
            at_kind = same_kinds (entry_at r.entries e).kind kind w.1;
            at_line = equal (entry_at r.entries e).line line v.1;
          })),
    ))
    (λ e f b d s t i.
    let w = both (on_line r.entries line e) (same_kind (entry_at r.entries e).kind kind) s in
    let v = both (held r.entries e) (eqb (entry_at r.entries e).line line) w.0 in
    let y = both (on_line r.entries line f) (same_kind (entry_at r.entries f).kind kind) t in
    let x = both (held r.entries f) (eqb (entry_at r.entries f).line line) y.0 in
    a.once e f b d v.0 x.0 i
    (same_kinds (entry_at r.entries e).kind kind w.1 ∙ sym (same_kinds (entry_at r.entries f).kind kind y.1))
    (equal (entry_at r.entries e).line line v.1 ∙ sym (equal (entry_at r.entries f).line line x.1)))
    (λ core b t.
    let p = place_of r.entries core kind line t in
    let s = stands (entry_at r.entries p.place) core kind line p.is in (
      p.place,
      p.below,
      as_one (on_line r.entries line p.place) (same_kind (entry_at r.entries p.place).kind kind)
          (as_one (held r.entries p.place) (eqb (entry_at r.entries p.place).line line) s.is_held
          (eq-eqb (entry_at r.entries p.place).line line s.at_line))
          (ap (λ k. same_kind k kind) s.at_kind ∙ kind_itself kind),
      s.at_core,
    ))

pub entries_are_triples : (r : Rows) → AreCounted r
    → (line : ℕ) → entries_on r.entries line ≡ triples_on (threaded_content r) line
entries_are_triples r a line =
    let x = split r.entries line (length r.entries) in
    let y = by_core r a line Read in
    let z = by_core r a line Write in
    omega arith

-- at most two for each core
pub few_triples : (r : Rows) (line : ℕ) → triples_on (threaded_content r) line ≤ 2 * length r.core_heads
few_triples r line =
    let x = count_le (λ core. lines.contains (lines_in r.entries core Read) line) (length r.core_heads) in
    let y = count_le (λ core. lines.contains (lines_in r.entries core Write) line) (length r.core_heads) in
    omega arith

-- what is counted where the entries of a line were visited, and where some of them were
pub counted_exact : (r : Rows) → AreCounted r
    → (line before : ℕ) {visited after : ℕ} → visited ≡ entries_on r.entries line
    → after ≡ min (before + visited) 18446744073709551615
    → after ≡ min (before + triples_on (threaded_content r) line) 18446744073709551615
counted_exact r counted line before all is =
    is ∙ ap (λ n. min (before + n) 18446744073709551615) (all ∙ entries_are_triples r counted line)

pub counted_few : (r : Rows) → AreCounted r
    → (line before : ℕ) {visited after : ℕ} → visited ≤ entries_on r.entries line
    → after ≡ min (before + visited) 18446744073709551615 → after ≤ before + 2 * length r.core_heads
counted_few r counted line before some is =
    omega (arith, some, is, entries_are_triples r counted line, few_triples r line)
