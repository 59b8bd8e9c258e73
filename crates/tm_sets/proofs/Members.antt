-- Which lines the entries of a row stand for.
use Rattle.std.proofs.Common.{◌≡◌, ℕ, zero, suc, ◌<◌, Bool, true, false, cond, eqb, ◌&&◌, ◌||◌, List, [], ◌∷◌, length}
use Rattle.std.proofs.Common.{Some, None, refl, sym, ap, ◌∙◌, ⊎_elim, arith}
use Rattle.std.proofs.lemmas.Bool.{cases_eq, eq-eqb, ne_eqb}
use Rattle.std.specs.FinSet as lines
use Rattle.std.specs.Ordering.{nat_cmp}
use Rattle.std.specs.Cmp.{nat_cmp_total, unsigned_tied}
use Rattle.tm_sets.specs.declared.interface.Kind.{Kind}
use Rattle.tm_sets.specs.declared.interface.Kind.TheVariants.{Read, Write}
use Rattle.tm_sets.specs.declared.row.Entry.{Entry}
use Rattle.tm_sets.specs.LineSet.{lines_of}
use Rattle.tm_sets.specs.Content.{same_kind}
use Rattle.tm_sets.specs.Row.{entry_at, is_of, lines_among, lines_in, slot_among}
use Rattle.tm_sets.proofs.Counting.{tested, never, both, as_one, fails, same_test, equal}
use Rattle.tm_sets.proofs.Lists.{contains_cons}

pub same_kinds : (a b : Kind) → same_kind a b ≡ true → a ≡ b
same_kinds Read Read t = refl
same_kinds Write Write t = refl
same_kinds Read Write t = cc
same_kinds Write Read t = cc

pub kind_itself : (k : Kind) → same_kind k k ≡ true
kind_itself Read = refl
kind_itself Write = refl

-- the entry stands for this triple
abbrev pub is_triple : Entry → ℕ → Kind → ℕ → Bool
is_triple e core kind line = is_of e core kind && eqb e.line line

pub record Stands (e : Entry) (core : ℕ) (kind : Kind) (line : ℕ) : Type 0 where
  pub is_held : e.held ≡ true
  pub at_core : e.core ≡ core
  pub at_kind : e.kind ≡ kind
  pub at_line : e.line ≡ line

pub stands : (e : Entry) (core : ℕ) (kind : Kind) (line : ℕ) → is_triple e core kind line ≡ true
    → Stands e core kind line
stands e core kind line t =
    let a = both (is_of e core kind) (eqb e.line line) t in
    let b = both e.held (eqb e.core core && same_kind e.kind kind) a.0 in
    let c = both (eqb e.core core) (same_kind e.kind kind) b.1 in
    record {
      is_held = b.0;
      at_core = equal e.core core c.0;
      at_kind = same_kinds e.kind kind c.1;
      at_line = equal e.line line a.1;
    }

pub of_kind : (e : Entry) (core : ℕ) (kind : Kind) → e.held ≡ true → e.core ≡ core → e.kind ≡ kind
    → is_of e core kind ≡ true
of_kind e core kind h c k =
    as_one e.held (eqb e.core core && same_kind e.kind kind) h
    (as_one (eqb e.core core) (same_kind e.kind kind) (eq-eqb e.core core c)
    (ap (λ x. same_kind x kind) k ∙ kind_itself kind))

pub triple : (e : Entry) (core : ℕ) (kind : Kind) (line : ℕ) → Stands e core kind line
    → is_triple e core kind line ≡ true
triple e core kind line s = as_one (is_of e core kind) (eqb e.line line)
    (of_kind e core kind s.is_held s.at_core s.at_kind) (eq-eqb e.line line s.at_line)

-- the row has the line
has : List Entry → ℕ → Kind → ℕ → Bool
has es core kind line = lines.contains (lines_in es core kind) line

has_none : (core : ℕ) (kind : Kind) (line : ℕ) → lines.contains (lines_in [] core kind) line ≡ false
unfolding lines_among
has_none core kind line = lines.contains-empty nat_cmp line

has_more : (e : Entry) (es : List Entry) (core : ℕ) (kind : Kind) (line : ℕ)
    → lines.contains (lines_in (e ∷ es) core kind) line
    ≡ (is_triple e core kind line || lines.contains (lines_in es core kind) line)
unfolding lines_among
has_more e es core kind line = elim (is_of e core kind)
    as (λ t. lines.contains (lines_of (cond t (e.line ∷ lines_among es core kind) (lines_among es core kind))) line
    ≡ ((t && eqb e.line line) || lines.contains (lines_of (lines_among es core kind)) line)) [
      | true ↦ contains_cons e.line line (lines_among es core kind)
          ∙ ap (λ t. t || lines.contains (lines_of (lines_among es core kind)) line)
          (unsigned_tied line e.line ∙ turned line e.line)
      | false ↦ refl
    ]
  where
    turned : (a b : ℕ) → eqb a b ≡ eqb b a
    turned a b =
        same_test (eqb a b) (eqb b a) (λ t. eq-eqb b a (sym (equal a b t))) (λ t. eq-eqb a b (sym (equal b a t)))

or_right : (a b : Bool) → b ≡ true → (a || b) ≡ true
or_right true b t = refl
or_right false b t = t

or_false : (a b : Bool) → a ≡ false → b ≡ false → (a || b) ≡ false
or_false a b x y = ap (λ t. t || b) x ∙ y

-- a line for which an entry stands is there
pub present : (es : List Entry) (place core : ℕ) (kind : Kind) (line : ℕ) → place < length es
    → is_triple (entry_at es place) core kind line ≡ true → lines.contains (lines_in es core kind) line ≡ true
present [] place core kind line b t = absurd (omega arith)
present (e ∷ es) zero core kind line b t =
    has_more e es core kind line ∙ ap (λ s. s || lines.contains (lines_in es core kind) line) t
present (e ∷ es) (suc place) core kind line b t =
    has_more e es core kind line
    ∙ or_right (is_triple e core kind line) (lines.contains (lines_in es core kind) line)
    (present es place core kind line (omega arith) t)

-- a line for which none stands is not
pub absent : (es : List Entry) (core : ℕ) (kind : Kind) (line : ℕ)
    → ((place : ℕ) → place < length es → is_triple (entry_at es place) core kind line ≡ false)
    → lines.contains (lines_in es core kind) line ≡ false
absent [] core kind line h = has_none core kind line
absent (e ∷ es) core kind line h =
    has_more e es core kind line
    ∙ or_false (is_triple e core kind line) (lines.contains (lines_in es core kind) line) (h 0 (omega arith))
    (absent es core kind line (λ place b. h (suc place) (omega arith)))

pub record Place (es : List Entry) (core : ℕ) (kind : Kind) (line : ℕ) : Type 0 where
  pub place : ℕ
  pub below : place < length es
  pub is : is_triple (entry_at es place) core kind line ≡ true

-- the entry that stands for a line that is there
pub place_of : (es : List Entry) (core : ℕ) (kind : Kind) (line : ℕ)
    → lines.contains (lines_in es core kind) line ≡ true → Place es core kind line
place_of [] core kind line t = never (lines.contains (lines_in [] core kind) line) t (has_none core kind line)
place_of (e ∷ es) core kind line t = ⊎_elim
    (λ (s : is_triple e core kind line ≡ true). record { place = 0; below = omega arith; is = s })
    (λ (s : is_triple e core kind line ≡ false).
    let r = place_of es core kind line
    (sym (ap (λ b. b || lines.contains (lines_in es core kind) line) s) ∙ sym (has_more e es core kind line) ∙ t) in
    let below = r.below in
    record { place = suc r.place; below = omega arith; is = r.is })
    (tested (is_triple e core kind line))

-- two rows have the same lines of a core and kind where their entries stand for the same ones
pub same_members : (es fs : List Entry) (core : ℕ) (kind : Kind) → length fs ≡ length es
    → ((place : ℕ) (line : ℕ) → place < length es
    → is_triple (entry_at fs place) core kind line ≡ is_triple (entry_at es place) core kind line)
    → lines_in fs core kind ≡ lines_in es core kind
same_members es fs core kind l h =
    lines.same_set nat_cmp_total lines.nat_cmp-IsAntisymmetric (lines_in fs core kind) (lines_in es core kind) (λ q.
    same_test (lines.contains (lines_in fs core kind) q) (lines.contains (lines_in es core kind) q)
    (λ t. let p = place_of fs core kind q t in let b = p.below in
    present es p.place core kind q (omega arith) (sym (h p.place q (omega arith)) ∙ p.is))
    (λ t. let p = place_of es core kind q t in let b = p.below in
    present fs p.place core kind q (omega arith) (h p.place q b ∙ p.is)))

-- one place stands for a line that it didn't stand for, and the others for what they did
pub one_more : (es fs : List Entry) (place core : ℕ) (kind : Kind) (line : ℕ) → length fs ≡ length es
    → place < length es
    → is_triple (entry_at fs place) core kind line ≡ true
    → ((q : ℕ) → is_triple (entry_at es place) core kind q ≡ false)
    → ((q : ℕ) → (q ≡ line → ⊥) → is_triple (entry_at fs place) core kind q ≡ false)
    → ((i : ℕ) (q : ℕ) → i < length es → (i ≡ place → ⊥)
    → is_triple (entry_at fs i) core kind q ≡ is_triple (entry_at es i) core kind q)
    → lines_in fs core kind ≡ lines.insert (lines_in es core kind) line
one_more es fs place core kind line l below now before only others = lines.same_set nat_cmp_total
    lines.nat_cmp-IsAntisymmetric (lines_in fs core kind) (lines.insert (lines_in es core kind) line) (λ q.
    each q ∙ sym (lines.contains-insert nat_cmp_total (lines_in es core kind) line q
    ∙ ap (λ t. t || lines.contains (lines_in es core kind) q) (unsigned_tied q line)))
  where
    each : (q : ℕ) → lines.contains (lines_in fs core kind) q ≡ (eqb q line || lines.contains (lines_in es core kind) q)
    each q = ⊎_elim
        (λ (e : q ≡ line).
        present fs place core kind q (omega arith) (ap (is_triple (entry_at fs place) core kind) e ∙ now)
        ∙ sym (ap (λ t. t || lines.contains (lines_in es core kind) q) (eq-eqb q line e)))
        (λ (e : q ≡ line → ⊥).
        same_test (lines.contains (lines_in fs core kind) q) (lines.contains (lines_in es core kind) q)
        (λ t. let p = place_of fs core kind q t in let b = p.below in
        let other : p.place ≡ place → ⊥ =
        λ s. never (is_triple (entry_at fs p.place) core kind q) p.is
        (ap (λ i. is_triple (entry_at fs i) core kind q) s ∙ only q e) in
        present es p.place core kind q (omega arith) (sym (others p.place q (omega arith) other) ∙ p.is))
        (λ t. let p = place_of es core kind q t in let b = p.below in
        let other : p.place ≡ place → ⊥ =
        λ s. never (is_triple (entry_at es p.place) core kind q) p.is
        (ap (λ i. is_triple (entry_at es i) core kind q) s ∙ before q) in
        present fs p.place core kind q (omega arith) (others p.place q b other ∙ p.is))
        ∙ sym (ap (λ t. t || lines.contains (lines_in es core kind) q) (ne_eqb q line e)))
        (cases_eq q line)

-- the slot of a line is that of its entry
pub slot_there : (es : List Entry) (place core line : ℕ) → place < length es
    → is_triple (entry_at es place) core Write line ≡ true
    → ((i : ℕ) → i < length es → is_triple (entry_at es i) core Write line ≡ true → i ≡ place)
    → slot_among es core line ≡ Some (entry_at es place).slot
unfolding slot_among
slot_there [] place core line b t h = absurd (omega arith)
slot_there (e ∷ es) zero core line b t h = ap (λ s. cond s (Some e.slot) (slot_among es core line)) t
slot_there (e ∷ es) (suc place) core line b t h =
    ap (λ s. cond s (Some e.slot) (slot_among es core line))
    (fails (is_triple e core Write line) (λ s. let z = h 0 (omega arith) s in omega arith))
    ∙ slot_there es place core line (omega arith) t (λ i l s. let z = h (suc i) (omega arith) s in omega arith)

pub slot_nowhere : (es : List Entry) (core line : ℕ)
    → ((i : ℕ) → i < length es → is_triple (entry_at es i) core Write line ≡ false) → slot_among es core line ≡ None
unfolding slot_among
slot_nowhere [] core line h = refl
slot_nowhere (e ∷ es) core line h =
    ap (λ s. cond s (Some e.slot) (slot_among es core line)) (h 0 (omega arith))
    ∙ slot_nowhere es core line (λ i l. h (suc i) (omega arith))

-- a line that isn't there has no slot
pub slot_absent : (es : List Entry) (core line : ℕ) → lines.contains (lines_in es core Write) line ≡ false
    → slot_among es core line ≡ None
slot_absent es core line f = slot_nowhere es core line (λ i b. fails (is_triple (entry_at es i) core Write line) (λ t.
    never (lines.contains (lines_in es core Write) line) (present es i core Write line b t) f))
