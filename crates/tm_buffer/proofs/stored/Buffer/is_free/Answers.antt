use Rattle.std.proofs.Common.{◌≡◌, ◌<◌, ℕ, true, Option, Some, None, length, get_or, vec_len, refl, sym, ap, ◌∙◌}
use Rattle.std.proofs.Common.{⊎_elim, arith, rules}
use Rattle.std.specs.Prelude.{not}
use Rattle.std.specs.Option.{is_some}
use Rattle.std.proofs.lemmas.Bool.{cases_eq, eq-eqb, ne_eqb, le-leb}
use Rattle.std.proofs.lemmas.List.{get_or_read}
use Rattle.tm_buffer.specs.Buffer.{place_of}
use Rattle.tm_buffer.proofs.Holding.{is_free, none_at}
use Rattle.tm_buffer.proofs.stored.Buffer.is_free.Goals as goal
use Rattle.tm_buffer.proofs.stored.Buffer.is_free.Goals.{After-index}

there : (o : Option ℕ) → (o ≡ None → ⊥) → is_some o ≡ true
there None h = absurd (h refl)
there (Some k) h = refl

-- the place that the slot tells
told : (c : After-index) → c.index.result.now ≡ get_or c.self.inside.places.items c.args.slot 0
told c = get_or_read c.self.inside.places.items c.args.slot c.index.result.now
    (omega (arith, c.requires, ap (λ h. h.room) c.self.view_is, c.self.invariant.0.places)) c.index.ensures 0

-- no line holds a slot whose place isn't that of a line that holds it
free : (c : After-index)
    → (c.index.result.now < length c.self.inside.slots.items
    → get_or c.self.inside.slots.items c.index.result.now 0 ≡ c.args.slot → ⊥)
    → true ≡ not (is_some (place_of c.args.self.now.slots c.args.slot))
free c other = sym (ap (λ o. not (is_some o)) (ap (λ h. place_of h.slots c.args.slot) (sym c.self.view_is)
    ∙ is_free c.self.inside.slots.items c.self.inside.places.items c.self.inside.room c.args.slot c.index.result.now
    c.self.invariant.0.held (told c) other))

pub returns-then-place-len : goal.returns-then-place-len
returns-then-place-len c =
    let slots : vec_len c.self.inside.slots ≡ length c.self.inside.slots.items = search rules in
    le-leb c.len.result c.index.result.now c.if-place-len.true
    ∙ free (goal.at.returns-then-place-len c).After-index (λ below _. omega (arith, c.if-place-len.true, c.len.ensures))

pub returns-else-place-len : goal.returns-else-place-len
returns-else-place-len c =
    let slots : vec_len c.self.inside.slots ≡ length c.self.inside.slots.items = search rules in
    let own : ℕ = c.index-else-place-len.result.now in
    let within : c.index.result.now < length c.self.inside.slots.items =
    omega (arith, c.if-place-len.false, c.len.ensures) in
    let read : own ≡ get_or c.self.inside.slots.items c.index.result.now 0 =
    get_or_read c.self.inside.slots.items c.index.result.now own within c.index-else-place-len.ensures 0 in
    ⊎_elim
    (λ (e : own ≡ c.args.slot).
    ap not (eq-eqb own c.args.slot e)
    ∙ sym (ap not (ap (λ h. is_some (place_of h.slots c.args.slot)) (sym c.self.view_is)
    ∙ there (place_of c.self.inside.slots.items c.args.slot) (λ none.
    none_at c.self.inside.slots.items c.args.slot c.index.result.now none within (sym read ∙ e)))))
    (λ (e : own ≡ c.args.slot → ⊥).
    ap not (ne_eqb own c.args.slot e) ∙ free (goal.at.returns-else-place-len c).After-index (λ _ is. e (read ∙ is)))
    (cases_eq own c.args.slot)
