-- The row, after a triple came or went.
use Rattle.std.proofs.Common.{◌≡◌, ℕ, ◌+◌, ◌-◌, ◌<◌, ◌≤◌, true, false, cond, eqb, List, length, set, refl, sym, ap, ◌∙◌}
use Rattle.std.proofs.Common.{⊎_elim, arith}
use Rattle.std.proofs.lemmas.Bool.{cases_eq, eq-eqb, ne_eqb}
use Rattle.std.proofs.lemmas.List.{get_or-set_same, get_or-set_other, length-set}
use Rattle.tm_sets.specs.declared.row.Entry.{Entry}
use Rattle.tm_sets.specs.Row.{no_entry, entry_at, hooked, unhooked, freed}
use Rattle.tm_sets.specs.Threaded.{held, after_on_line, before_on_line, after_on_core, before_on_core}
use Rattle.tm_sets.proofs.Ranks.{told}
use Rattle.tm_sets.proofs.Joining.{Joined}
use Rattle.tm_sets.proofs.Leaving.{Left}

-- the row with one link of the entry told changed
abbrev with_link : (Entry → ℕ → Entry) → List Entry → ℕ → ℕ → List Entry
with_link put es t v = cond (eqb t 0) es (set es (t - 1) (put (entry_at es (t - 1)) v))

link_none : (put : Entry → ℕ → Entry) (es : List Entry) (t v : ℕ) → t ≡ 0 → with_link put es t v ≡ es
link_none put es t v e = ap (λ b. cond b es (set es (t - 1) (put (entry_at es (t - 1)) v))) (eq-eqb t 0 e)

link_some : (put : Entry → ℕ → Entry) (es : List Entry) (t v k : ℕ) → t ≡ k + 1
    → with_link put es t v ≡ set es k (put (entry_at es k) v)
link_some put es t v k e =
    let same : t - 1 ≡ k = omega arith in
    ap (λ b. cond b es (set es (t - 1) (put (entry_at es (t - 1)) v))) (ne_eqb t 0 (λ z. omega arith))
    ∙ ap (λ i. set es i (put (entry_at es i) v)) same

link_length : (put : Entry → ℕ → Entry) (es : List Entry) (t v : ℕ) → length (with_link put es t v) ≡ length es
link_length put es t v = ⊎_elim
    (λ (e : t ≡ 0). ap length (link_none put es t v e))
    (λ (w : (h : ℕ) × (t ≡ h + 1)). ap length (link_some put es t v w.0 w.1)
    ∙ length-set es w.0 (put (entry_at es w.0) v))
    (told t)

-- the link put in is none that the field tells
abbrev Keeps : {X : Type 0} → (Entry → ℕ → Entry) → ℕ → (Entry → X) → Type 0
Keeps put v field = (x : Entry) → field (put x v) ≡ field x

-- what a place has of an entry
at_same : (es : List Entry) (k : ℕ) (x : Entry) → k < length es → entry_at (set es k x) k ≡ x
at_same es k x b = get_or-set_same es k x no_entry b

at_other : (es : List Entry) (k j : ℕ) (x : Entry) → (j ≡ k → ⊥) → entry_at (set es k x) j ≡ entry_at es j
at_other es k j x d = get_or-set_other es k j x no_entry d

-- a field that the link is not
link_kept : {X : Type 0} (field : Entry → X) (put : Entry → ℕ → Entry) (es : List Entry) (t v j : ℕ) → t ≤ length es
    → Keeps put v field
    → field (entry_at (with_link put es t v) j) ≡ field (entry_at es j)
link_kept field put es t v j b h = ⊎_elim
    (λ (e : t ≡ 0). ap (λ xs. field (entry_at xs j)) (link_none put es t v e))
    (λ (w : (h : ℕ) × (t ≡ h + 1)). let z = w.1 in
    ap (λ xs. field (entry_at xs j)) (link_some put es t v w.0 w.1) ∙ ⊎_elim
    (λ (s : j ≡ w.0).
    ap (λ i. field (entry_at (set es w.0 (put (entry_at es w.0) v)) i)) s
    ∙ ap field (at_same es w.0 (put (entry_at es w.0) v) (omega arith))
    ∙ h (entry_at es w.0) ∙ sym (ap (λ i. field (entry_at es i)) s))
    (λ (s : j ≡ w.0 → ⊥). ap field (at_other es w.0 j (put (entry_at es w.0) v) s))
    (cases_eq j w.0))
    (told t)

-- the link itself
link_told : (field : Entry → ℕ) (put : Entry → ℕ → Entry) (es : List Entry) (t v j : ℕ) → t ≤ length es
    → ((x : Entry) → field (put x v) ≡ v)
    → t ≡ j + 1 → field (entry_at (with_link put es t v) j) ≡ v
link_told field put es t v j b h e =
    ap (λ xs. field (entry_at xs j)) (link_some put es t v j e)
    ∙ ap field (at_same es j (put (entry_at es j) v) (omega arith)) ∙ h (entry_at es j)

link_other : (put : Entry → ℕ → Entry) (es : List Entry) (t v j : ℕ) → (t ≡ j + 1 → ⊥)
    → entry_at (with_link put es t v) j ≡ entry_at es j
link_other put es t v j d = ⊎_elim
    (λ (e : t ≡ 0). ap (λ xs. entry_at xs j) (link_none put es t v e))
    (λ (w : (h : ℕ) × (t ≡ h + 1)). let z = w.1 in
    ap (λ xs. entry_at xs j) (link_some put es t v w.0 w.1)
    ∙ at_other es w.0 j (put (entry_at es w.0) v) (λ s. d (omega arith)))
    (told t)

abbrev put_before_core : Entry → ℕ → Entry
put_before_core x v = record x { before_on_core = v }

abbrev put_before_line : Entry → ℕ → Entry
put_before_line x v = record x { before_on_line = v }

abbrev put_after_line : Entry → ℕ → Entry
put_after_line x v = record x { after_on_line = v }

module _ (es : List Entry) (n : ℕ) (e : Entry) (below : n < length es) (core_in : e.after_on_core ≤ length es)
    (line_in : e.after_on_line ≤ length es) where
  abbrev first : List Entry
  first = set es n e

  abbrev second : List Entry
  second = with_link put_before_core first e.after_on_core (n + 1)

  abbrev third : List Entry
  third = with_link put_before_line second e.after_on_line (n + 1)

  first_len : length first ≡ length es
  first_len = length-set es n e

  second_len : length second ≡ length es
  second_len = link_length put_before_core first e.after_on_core (n + 1) ∙ first_len

  third_len : length third ≡ length es
  third_len = link_length put_before_line second e.after_on_line (n + 1) ∙ second_len

  -- a field that is no link back
  field_kept : {X : Type 0} (field : Entry → X) → Keeps put_before_core (n + 1) field
      → Keeps put_before_line (n + 1) field
      → (j : ℕ) → field (entry_at third j) ≡ field (entry_at first j)
  field_kept field a b j =
      let x = first_len in let y = second_len in
      link_kept field put_before_line second e.after_on_line (n + 1) j (omega arith) b
      ∙ link_kept field put_before_core first e.after_on_core (n + 1) j (omega arith) a

  at_new : {X : Type 0} (field : Entry → X) → Keeps put_before_core (n + 1) field → Keeps put_before_line (n + 1) field
      → field (entry_at third n) ≡ field e
  at_new field a b = field_kept field a b n ∙ ap field (at_same es n e below)

  at_old : {X : Type 0} (field : Entry → X) → Keeps put_before_core (n + 1) field → Keeps put_before_line (n + 1) field
      → (j : ℕ) → (j ≡ n → ⊥) → field (entry_at third j) ≡ field (entry_at es j)
  at_old field a b j d = field_kept field a b j ∙ ap field (at_other es n j e d)

  core_link : (j : ℕ) → before_on_core third j ≡ before_on_core second j
  core_link j = let y = second_len in
      link_kept (λ x. x.before_on_core) put_before_line second e.after_on_line (n + 1) j (omega arith) (λ x. refl)

  core_link_first : (j : ℕ) → before_on_line second j ≡ before_on_line first j
  core_link_first j = let y = first_len in
      link_kept (λ x. x.before_on_line) put_before_core first e.after_on_core (n + 1) j (omega arith) (λ x. refl)

  pub joined : e.held ≡ true → e.before_on_core ≡ 0 → e.before_on_line ≡ 0 → held es n ≡ false
      → (e.after_on_core ≡ n + 1 → ⊥) → (e.after_on_line ≡ n + 1 → ⊥)
      → Joined es (hooked es n e) n e.core e.kind e.line e.slot e.after_on_core e.after_on_line
  unfolding hooked
  joined is_held no_core no_line was_free core_apart line_apart =
      let x = first_len in let y = second_len in
      record {
        len = third_len;
        below = below;
        was_free = was_free;
        is_held = at_new (λ x. x.held) (λ x. refl) (λ x. refl) ∙ is_held;
        core = at_new (λ x. x.core) (λ x. refl) (λ x. refl);
        kind = at_new (λ x. x.kind) (λ x. refl) (λ x. refl);
        line = at_new (λ x. x.line) (λ x. refl) (λ x. refl);
        slot = at_new (λ x. x.slot) (λ x. refl) (λ x. refl);
        after_core = at_new (λ x. x.after_on_core) (λ x. refl) (λ x. refl);
        after_line = at_new (λ x. x.after_on_line) (λ x. refl) (λ x. refl);
        before_core = core_link n
            ∙ ap (λ x. x.before_on_core)
            (link_other put_before_core first e.after_on_core (n + 1) n core_apart ∙ at_same es n e below) ∙ no_core;
        before_line =
            ap (λ x. x.before_on_line) (link_other put_before_line second e.after_on_line (n + 1) n line_apart)
            ∙ core_link_first n ∙ ap (λ x. x.before_on_line) (at_same es n e below) ∙ no_line;
        old_held = at_old (λ x. x.held) (λ x. refl) (λ x. refl);
        old_core = at_old (λ x. x.core) (λ x. refl) (λ x. refl);
        old_kind = at_old (λ x. x.kind) (λ x. refl) (λ x. refl);
        old_line = at_old (λ x. x.line) (λ x. refl) (λ x. refl);
        old_slot = at_old (λ x. x.slot) (λ x. refl) (λ x. refl);
        old_after_core = at_old (λ x. x.after_on_core) (λ x. refl) (λ x. refl);
        old_after_line = at_old (λ x. x.after_on_line) (λ x. refl) (λ x. refl);
        first_core = λ j d i. core_link j
            ∙ link_told (λ x. x.before_on_core) put_before_core first e.after_on_core (n + 1) j
            (omega arith) (λ x. refl) i;
        first_line = λ j d i. link_told (λ x. x.before_on_line) put_before_line second e.after_on_line (n + 1) j
            (omega arith) (λ x. refl) i;
        other_core = λ j d i. core_link j
            ∙ ap (λ x. x.before_on_core)
            (link_other put_before_core first e.after_on_core (n + 1) j i ∙ at_other es n j e d);
        other_line = λ j d i. ap (λ x. x.before_on_line) (link_other put_before_line second e.after_on_line (n + 1) j i)
            ∙ core_link_first j ∙ ap (λ x. x.before_on_line) (at_other es n j e d);
      }

module _ (es : List Entry) (n free : ℕ) (below : n < length es)
    (core_in : after_on_core es n ≤ length es) (before_in : before_on_line es n ≤ length es)
    (after_in : after_on_line es n ≤ length es) where
  abbrev cut : List Entry
  cut = with_link put_before_core es (after_on_core es n) 0

  abbrev led : List Entry
  led = with_link put_after_line cut (before_on_line es n) (after_on_line es n)

  abbrev tied : List Entry
  tied = with_link put_before_line led (after_on_line es n) (before_on_line es n)

  cut_len : length cut ≡ length es
  cut_len = link_length put_before_core es (after_on_core es n) 0

  led_len : length led ≡ length es
  led_len = link_length put_after_line cut (before_on_line es n) (after_on_line es n) ∙ cut_len

  tied_len : length tied ≡ length es
  tied_len = link_length put_before_line led (after_on_line es n) (before_on_line es n) ∙ led_len

  -- its links back on its core's list, and both links on its line's list
  tied_core : (j : ℕ) → before_on_core tied j ≡ before_on_core cut j
  tied_core j =
      let x = cut_len in let y = led_len in
      link_kept (λ x. x.before_on_core) put_before_line led (after_on_line es n) (before_on_line es n) j
      (omega arith) (λ x. refl)
      ∙ link_kept (λ x. x.before_on_core) put_after_line cut (before_on_line es n) (after_on_line es n) j
      (omega arith) (λ x. refl)

  tied_after : (j : ℕ) → after_on_line tied j ≡ after_on_line led j
  tied_after j = let y = led_len in
      link_kept (λ x. x.after_on_line) put_before_line led (after_on_line es n) (before_on_line es n) j
      (omega arith) (λ x. refl)

  cut_after : (j : ℕ) → after_on_line cut j ≡ after_on_line es j
  cut_after j = link_kept (λ x. x.after_on_line) put_before_core es (after_on_core es n) 0 j core_in (λ x. refl)

  led_before : (j : ℕ) → before_on_line led j ≡ before_on_line es j
  led_before j = let x = cut_len in
      link_kept (λ x. x.before_on_line) put_after_line cut (before_on_line es n) (after_on_line es n) j
      (omega arith) (λ x. refl)
      ∙ link_kept (λ x. x.before_on_line) put_before_core es (after_on_core es n) 0 j core_in (λ x. refl)

  abbrev whole : List Entry
  whole = set tied n (freed (entry_at es n) free)

  apart : {X : Type 0} (field : Entry → X) (j : ℕ) → (j ≡ n → ⊥) → field (entry_at whole j) ≡ field (entry_at tied j)
  apart field j d = ap field (at_other tied n j (freed (entry_at es n) free) d)

  -- a field that is no link changed
  stays : {X : Type 0} (field : Entry → X) → Keeps put_before_core 0 field
      → Keeps put_after_line (after_on_line es n) field
      → Keeps put_before_line (before_on_line es n) field → (j : ℕ) → (j ≡ n → ⊥)
      → field (entry_at whole j) ≡ field (entry_at es j)
  stays field a b c j d =
      let x = cut_len in let y = led_len in
      apart field j d
      ∙ link_kept field put_before_line led (after_on_line es n) (before_on_line es n) j (omega arith) c
      ∙ link_kept field put_after_line cut (before_on_line es n) (after_on_line es n) j (omega arith) b
      ∙ link_kept field put_before_core es (after_on_core es n) 0 j core_in a

  here : {X : Type 0} (field : Entry → X) → field (entry_at whole n) ≡ field (freed (entry_at es n) free)
  here field = let z = tied_len in ap field (at_same tied n (freed (entry_at es n) free) (omega arith))

  pub left : held es n ≡ true → Left es (unhooked es n free) n free
  unfolding unhooked
  left was_held =
      let x = cut_len in let y = led_len in
      record {
        len = length-set tied n (freed (entry_at es n) free) ∙ tied_len;
        below = below;
        was_held = was_held;
        is_free = here (λ x. x.held);
        after_free = here (λ x. x.after_on_core);
        old_held = stays (λ x. x.held) (λ x. refl) (λ x. refl) (λ x. refl);
        old_core = stays (λ x. x.core) (λ x. refl) (λ x. refl) (λ x. refl);
        old_kind = stays (λ x. x.kind) (λ x. refl) (λ x. refl) (λ x. refl);
        old_line = stays (λ x. x.line) (λ x. refl) (λ x. refl) (λ x. refl);
        old_slot = stays (λ x. x.slot) (λ x. refl) (λ x. refl) (λ x. refl);
        old_after_core = stays (λ x. x.after_on_core) (λ x. refl) (λ x. refl) (λ x. refl);
        next_core = λ j d i. apart (λ x. x.before_on_core) j d ∙ tied_core j
            ∙ link_told (λ x. x.before_on_core) put_before_core es (after_on_core es n) 0 j core_in (λ x. refl) i;
        other_core = λ j d i. apart (λ x. x.before_on_core) j d ∙ tied_core j
            ∙ ap (λ x. x.before_on_core) (link_other put_before_core es (after_on_core es n) 0 j i);
        over = λ j d i. apart (λ x. x.after_on_line) j d ∙ tied_after j
            ∙ link_told (λ x. x.after_on_line) put_after_line cut (before_on_line es n) (after_on_line es n) j
            (omega arith) (λ x. refl) i;
        old_after_line = λ j d i. apart (λ x. x.after_on_line) j d ∙ tied_after j
            ∙ ap (λ x. x.after_on_line) (link_other put_after_line cut (before_on_line es n) (after_on_line es n) j i)
            ∙ cut_after j;
        around = λ j d i. apart (λ x. x.before_on_line) j d
            ∙ link_told (λ x. x.before_on_line) put_before_line led (after_on_line es n) (before_on_line es n) j
            (omega arith) (λ x. refl) i;
        other_line = λ j d i. apart (λ x. x.before_on_line) j d
            ∙ ap (λ x. x.before_on_line) (link_other put_before_line led (after_on_line es n) (before_on_line es n) j i)
            ∙ led_before j;
      }
