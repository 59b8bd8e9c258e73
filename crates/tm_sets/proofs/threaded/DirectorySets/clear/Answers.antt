use Rattle.std.proofs.Common.{◌≡◌, ◌<◌, ℕ, None, cond, get_or, length, sym, ap, ◌∙◌, ⊎_elim, arith}
use Rattle.std.proofs.Math.Path.{fun_ext}
use Rattle.std.proofs.lemmas.Bool.{cases_eq, eq-eqb, ne_eqb}
use Rattle.std.specs.FinSet as lines
use Rattle.tm_sets.specs.Content.{Fixed, by_kind, without_core}
use Rattle.tm_sets.specs.Row.{lines_in, slot_among}
use Rattle.tm_sets.specs.Threaded.{threaded_content}
use Rattle.tm_sets.specs.DirectoryRows.{rows_of}
use Rattle.tm_sets.proofs.Adding.{same_content}
use Rattle.tm_sets.proofs.Clearing.{none_left, none_slotted}
use Rattle.tm_sets.proofs.Lists.{read_at}
use Rattle.tm_sets.proofs.threaded.DirectorySets.clear.Goals as goal

same_fixed : {a a' b b' x x' y y' : ℕ} → a ≡ a' → b ≡ b' → x ≡ x' → y ≡ y'
    → (let f : Fixed = record { room = by_kind a b; cores = x; line_count = y } in
    let g : Fixed = record { room = by_kind a' b'; cores = x'; line_count = y' } in f ≡ g)
same_fixed p q s t = λ i. record { room = by_kind (p i) (q i); cores = s i; line_count = t i }

pub returns-clause-content : goal.returns-clause-content
returns-clause-content c =
    let old = c.args.self.now in
    let new = c.loop-self.self in
    let i = c.loop-self.invariant in
    let below : c.args.core < length new.core_heads.items = omega (arith, c.requires, i.cores) in
    let head : get_or new.core_heads.items c.args.core 0 ≡ 0 =
    sym (read_at new.core_heads.items below c.from.ensures c.index.ensures) ∙ c.loop-self-test.false in
    same_content (threaded_content (rows_of new)) (without_core (threaded_content (rows_of old)) c.args.core)
    (λ other kind. ⊎_elim
    (λ (e : other ≡ c.args.core).
    ap (λ k. lines_in new.entries.items k kind) e ∙ none_left (rows_of new) new.threaded c.args.core below head kind
    ∙ sym (ap (λ t. cond t lines.empty (lines_in old.entries.items other kind)) (eq-eqb other c.args.core e)))
    (λ (e : other ≡ c.args.core → ⊥).
    i.lines other kind e
    ∙ sym (ap (λ t. cond t lines.empty (lines_in old.entries.items other kind)) (ne_eqb other c.args.core e)))
    (cases_eq other c.args.core))
    (λ other. ⊎_elim
    (λ (e : other ≡ c.args.core).
    ap (slot_among new.entries.items) e ∙ none_slotted (rows_of new) new.threaded c.args.core below head
    ∙ sym (ap (λ t. cond t (λ _. None) (slot_among old.entries.items other)) (eq-eqb other c.args.core e)))
    (λ (e : other ≡ c.args.core → ⊥).
    fun_ext (λ line. i.slots other line e)
    ∙ sym (ap (λ t. cond t (λ _. None) (slot_among old.entries.items other)) (ne_eqb other c.args.core e)))
    (cases_eq other c.args.core))
    (same_fixed i.read_lines i.write_lines i.cores i.line_count)
