-- Which entries of a line are asked for.
use Rattle.std.proofs.Common.{◌≡◌, ℕ, ◌*◌, ◌%◌, ◌^◌, ◌<◌, Bool, true, false, eqb, not, ◌&&◌, ◌||◌, List, refl, sym, ap}
use Rattle.std.proofs.Common.{◌∙◌, ⊎_elim, ◌⊎◌, inl, inr, subst}
use Rattle.std.proofs.Math.Logic.{∥∥₁_elim}
use Rattle.std.proofs.Props.{props}
use Rattle.std.proofs.lemmas.Bool.{cases_eq, eq-eqb}
use Rattle.std.proofs.lemmas.Nat.{or_lt, one_shl, pow_below}
use Rattle.std.proofs.lemmas.Nat.Bits.{bit_at_set_same, bit_at_set_other}
use Rattle.std.specs.Int.{w64}
use Rattle.std.specs.FinSet as lines
use Rattle.tm_sets.specs.declared.interface.Kind.{Kind}
use Rattle.tm_sets.specs.declared.interface.Kind.TheVariants.{Read, Write}
use Rattle.tm_sets.specs.declared.row.Entry.{Entry}
use Rattle.tm_sets.specs.Content.{same_kind, bit}
use Rattle.tm_sets.specs.Row.{entry_at, lines_in}
use Rattle.tm_sets.specs.Threaded.{Rows, OnLine, AreThreaded, IsThreaded, is_asked, asked, threaded_content}
use Rattle.tm_sets.proofs.Counting.{never, both, as_one, fails, same_test, equal}
use Rattle.tm_sets.proofs.Masks.{with_bit}
use Rattle.tm_sets.proofs.Members.{is_triple, stands, triple, present, place_of, same_kinds, kind_itself}
use Rattle.tm_sets.proofs.Walks.{Ahead}

-- the entry of a place on the line's list that is of the core and kind
pub picked : (es : List Entry) (line core : ℕ) (kind : Kind) (h : ℕ) (e : Entry) → OnLine es line h → e ≡ entry_at es h
    → (eqb e.core core && same_kind e.kind kind) ≡ true → is_triple (entry_at es h) core kind line ≡ true
picked es line core kind h e o is t =
    let w = both (eqb e.core core) (same_kind e.kind kind) t in
    triple (entry_at es h) core kind line (record {
      is_held = o.1;
      at_core = sym (ap (λ x. x.core) is) ∙ equal e.core core w.0;
      at_kind = sym (ap (λ x. x.kind) is) ∙ same_kinds e.kind kind w.1;
      at_line = o.2;
    })

pub passed : (es : List Entry) (line core : ℕ) (kind : Kind) (h : ℕ) (e : Entry) → e ≡ entry_at es h
    → (eqb e.core core && same_kind e.kind kind) ≡ false → is_triple (entry_at es h) core kind line ≡ false
passed es line core kind h e is f = fails (is_triple (entry_at es h) core kind line) (λ t.
    let s = stands (entry_at es h) core kind line t in
    never (eqb e.core core && same_kind e.kind kind)
    (as_one (eqb e.core core) (same_kind e.kind kind) (eq-eqb e.core core (ap (λ x. x.core) is ∙ s.at_core))
    (ap (λ k. same_kind k kind) (ap (λ x. x.kind) is ∙ s.at_kind) ∙ kind_itself kind))
    f)

-- a bit that is set, and the others
pub bit_itself : (mask k : ℕ) → k < 64 → bit (with_bit mask k) k ≡ true
bit_itself mask k small = ap (λ b. eqb b 1) (bit_at_set_same w64 mask k small)

pub bit_other : (mask k j : ℕ) → k < 64 → (j ≡ k → ⊥) → bit (with_bit mask k) j ≡ bit mask j
bit_other mask k j small d = ap (λ b. eqb b 1) (bit_at_set_other w64 mask k small j d)

pub bit_still : (mask k j : ℕ) → k < 64 → bit mask j ≡ true → bit (with_bit mask k) j ≡ true
bit_still mask k j small t = ⊎_elim
    (λ (e : j ≡ k). ap (bit (with_bit mask k)) e ∙ bit_itself mask k small)
    (λ (e : j ≡ k → ⊥). bit_other mask k j small e ∙ t)
    (cases_eq j k)

pub with_bit_below : (mask k n : ℕ) → k < 64 → k < n → mask < 2 ^ n → with_bit mask k < 2 ^ n
with_bit_below mask k n small below h =
    or_lt n mask (1 * 2 ^ k % 2 ^ 64) h (subst (λ m. m < 2 ^ n) (sym (one_shl k 64 small)) (pow_below k n below))

or_left : (a b : Bool) → a ≡ true → (a || b) ≡ true
or_left a b t = ap (λ s. s || b) t

or_right : (a b : Bool) → b ≡ true → (a || b) ≡ true
or_right true b t = refl
or_right false b t = t

either : (a b : Bool) → (a || b) ≡ true → (a ≡ true) ⊎ (b ≡ true)
either true b t = inl refl
either false b t = inr t

-- an entry that is asked for tells a core that is
pub asked_there : (r : Rows) (line core : ℕ) (written : Bool) (h : ℕ) (e : Entry) → OnLine r.entries line h
    → e ≡ entry_at r.entries h
    → is_asked e core written ≡ true → asked (threaded_content r) written line core e.core ≡ true
asked_there r line core written h e o is t =
    let w = both (not (eqb e.core core)) (not written || same_kind e.kind Write) t in
    by_written written w.0 w.1
  where
    there : (kind : Kind) → e.kind ≡ kind → lines.contains (lines_in r.entries e.core kind) line ≡ true
    there kind k = present r.entries h e.core kind line o.0 (triple (entry_at r.entries h) e.core kind line (record {
      is_held = o.1;
      at_core = sym (ap (λ x. x.core) is);
      at_kind = sym (ap (λ x. x.kind) is) ∙ k;
      at_line = o.2;
    }))

    by_kind : (k : Kind) → e.kind ≡ k
        → (lines.contains (lines_in r.entries e.core Read) line
        || lines.contains (lines_in r.entries e.core Write) line) ≡ true
    by_kind Read k = or_left (lines.contains (lines_in r.entries e.core Read) line)
        (lines.contains (lines_in r.entries e.core Write) line) (there Read k)
    by_kind Write k = or_right (lines.contains (lines_in r.entries e.core Read) line)
        (lines.contains (lines_in r.entries e.core Write) line) (there Write k)

    by_written : (b : Bool) → not (eqb e.core core) ≡ true → (not b || same_kind e.kind Write) ≡ true
        → asked (threaded_content r) b line core e.core ≡ true
    by_written true other kind = as_one (not (eqb e.core core)) (lines.contains (lines_in r.entries e.core Write) line)
        other (there Write (same_kinds e.kind Write kind))
    by_written false other kind = as_one (not (eqb e.core core))
        (lines.contains (lines_in r.entries e.core Read) line || lines.contains (lines_in r.entries e.core Write) line)
        other (by_kind e.kind refl)

pub record Asked (r : Rows) (line core : ℕ) (written : Bool) (k : ℕ) : Type 0 where
  pub place : ℕ
  pub on : OnLine r.entries line place
  pub is : is_asked (entry_at r.entries place) core written ≡ true
  pub core_is : (entry_at r.entries place).core ≡ k

-- a core that is asked for has an entry that is
pub asked_from : (r : Rows) (line core : ℕ) (written : Bool) (k : ℕ)
    → asked (threaded_content r) written line core k ≡ true → Asked r line core written k
asked_from r line core written k = by_written written
  where
    from : (b : Bool) (kind : Kind) → not (eqb k core) ≡ true → (not b || same_kind kind Write) ≡ true
        → lines.contains (lines_in r.entries k kind) line ≡ true → Asked r line core b k
    from b kind other wanted t =
        let p = place_of r.entries k kind line t in
        let s = stands (entry_at r.entries p.place) k kind line p.is in
        record {
          place = p.place;
          on = (p.below, s.is_held, s.at_line);
          is = as_one (not (eqb (entry_at r.entries p.place).core core))
              (not b || same_kind (entry_at r.entries p.place).kind Write)
              (ap (λ c. not (eqb c core)) s.at_core ∙ other) (ap (λ c. not b || same_kind c Write) s.at_kind ∙ wanted);
          core_is = s.at_core;
        }

    by_written : (b : Bool) → asked (threaded_content r) b line core k ≡ true → Asked r line core b k
    by_written true t = let w = both (not (eqb k core)) (lines.contains (lines_in r.entries k Write) line) t in
        from true Write w.0 refl w.1
    by_written false t =
        let w = both (not (eqb k core))
        (lines.contains (lines_in r.entries k Read) line || lines.contains (lines_in r.entries k Write) line) t in
        ⊎_elim
        (λ (s : lines.contains (lines_in r.entries k Read) line ≡ true). from false Read w.0 refl s)
        (λ (s : lines.contains (lines_in r.entries k Write) line ≡ true). from false Write w.0 refl s)
        (either (lines.contains (lines_in r.entries k Read) line)
        (lines.contains (lines_in r.entries k Write) line) w.1)

-- the mask at the end of a walk
pub whole_mask : (r : Rows) → IsThreaded r → (line core : ℕ) (written : Bool) (at mask : ℕ) → at ≡ 0
    → ((rank : ℕ → ℕ) (top : ℕ) → AreThreaded r rank top → (e : ℕ) → OnLine r.entries line e
    → is_asked (entry_at r.entries e) core written ≡ true
    → (bit mask (entry_at r.entries e).core ≡ true) ⊎ Ahead rank at e)
    → ((k : ℕ) → bit mask k ≡ true → asked (threaded_content r) written line core k ≡ true)
    → (k : ℕ) → bit mask k ≡ asked (threaded_content r) written line core k
whole_mask r threaded line core written at mask z told sound k =
    same_test (bit mask k) (asked (threaded_content r) written line core k) (sound k) (λ t.
    let a = asked_from r line core written k t in
    ∥∥₁_elim threaded (hlevel props) (λ w. ⊎_elim
    (λ (b : bit mask (entry_at r.entries a.place).core ≡ true). sym (ap (bit mask) a.core_is) ∙ b)
    (λ (b : Ahead w.0 at a.place). absurd (b.some z))
    (told w.0 w.1 w.2 a.place a.on a.is)))
