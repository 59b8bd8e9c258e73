-- The slots of a directory's entries.
use Rattle.std.proofs.Common.{◌≡◌, ℕ, ◌<◌, true, length, Some, sym, ap, ◌∙◌, ⊎_elim, arith}
use Rattle.std.proofs.Math.Logic.{∥∥₁_elim}
use Rattle.std.proofs.Props.{props}
use Rattle.std.proofs.lemmas.Bool.{cases_eq}
use Rattle.std.specs.Option.{is_some}
use Rattle.std.specs.FinSet as lines
use Rattle.tm_sets.specs.declared.interface.Kind.TheVariants.{Write}
use Rattle.tm_sets.specs.Content.{AreSlots}
use Rattle.tm_sets.specs.Row.{entry_at, lines_in, slot_among}
use Rattle.tm_sets.specs.Threaded.{Rows, IsThreaded, AreCounted, threaded_content}
use Rattle.tm_sets.proofs.Adding.{alone, slot_place}
use Rattle.tm_sets.proofs.Counting.{same_test}
use Rattle.tm_sets.proofs.Members.{is_triple, stands, present, place_of, slot_there}

-- the slot of a place that stands for the line
pub slot_is : (r : Rows) → AreCounted r → (core line p : ℕ) → p < length r.entries
    → is_triple (entry_at r.entries p) core Write line ≡ true
    → slot_among r.entries core line ≡ Some (entry_at r.entries p).slot
slot_is r a core line p b t = slot_there r.entries p core line b t (alone r a core Write line p b t)

pub directory_slots : (r : Rows) → IsThreaded r → AreCounted r → AreSlots (threaded_content r)
directory_slots r threaded a = record {
  there = λ core line b. same_test (is_some (slot_among r.entries core line))
      (lines.contains (lines_in r.entries core Write) line)
      (λ t. let p = slot_place r.entries core line t in present r.entries p.place core Write line p.below p.is)
      (λ t. let p = place_of r.entries core Write line t in ap is_some (slot_is r a core line p.place p.below p.is));
  below = λ core line slot b e.
      let p = slot_place r.entries core line (ap is_some e) in
      let s = stands (entry_at r.entries p.place) core Write line p.is in
      let same : Some (entry_at r.entries p.place).slot ≡ Some slot =
      sym (slot_is r a core line p.place p.below p.is) ∙ e in
      let number : (entry_at r.entries p.place).slot ≡ slot = cc in
      let l = a.slot core p.place (p.below, s.is_held, s.at_core) s.at_kind in
      let m = a.write_room core in
      omega arith;
  apart = λ core line other slot b e f.
      let p = slot_place r.entries core line (ap is_some e) in
      let s = stands (entry_at r.entries p.place) core Write line p.is in
      let q = slot_place r.entries core other (ap is_some f) in
      let t = stands (entry_at r.entries q.place) core Write other q.is in
      let one : Some (entry_at r.entries p.place).slot ≡ Some slot =
      sym (slot_is r a core line p.place p.below p.is) ∙ e in
      let two : Some (entry_at r.entries q.place).slot ≡ Some slot =
      sym (slot_is r a core other q.place q.below q.is) ∙ f in
      let x : (entry_at r.entries p.place).slot ≡ slot = cc in
      let y : (entry_at r.entries q.place).slot ≡ slot = cc in
      ∥∥₁_elim threaded (hlevel props) (λ w.
      let same : p.place ≡ q.place = ⊎_elim
      (λ (i : w.0 p.place ≡ w.0 q.place). (w.2.cores core b).apart p.place q.place (p.below, s.is_held, s.at_core)
      (q.below, t.is_held, t.at_core) i)
      (λ (i : w.0 p.place ≡ w.0 q.place → ⊥). absurd (i (not_less w.0 p.place q.place
      (λ l. let z =
      w.2.slots core q.place p.place (q.below, t.is_held, t.at_core) (p.below, s.is_held, s.at_core) t.at_kind s.at_kind
      l in omega arith)
      (λ l. let z =
      w.2.slots core p.place q.place (p.below, s.is_held, s.at_core) (q.below, t.is_held, t.at_core) s.at_kind t.at_kind
      l in omega arith))))
      (cases_eq (w.0 p.place) (w.0 q.place)) in
      sym s.at_line ∙ ap (λ i. (entry_at r.entries i).line) same ∙ t.at_line);
}
  where
    not_less : (rank : ℕ → ℕ) (m n : ℕ) → (rank m < rank n → ⊥) → (rank n < rank m → ⊥) → rank m ≡ rank n
    not_less rank m n a b = omega arith
