-- States that are the same have the same digest, and lines that are noted later change none.
use Rattle.std.proofs.Common.{◌≡◌, inl, inr, ℕ, zero, suc, ◌+◌, ◌*◌, ◌/◌, ◌<◌, ◌≤◌, Bool, true, false, cond, List, []}
use Rattle.std.proofs.Common.{◌∷◌, ◌++◌, length, append_assoc, refl, sym, ap, ◌∙◌, subst, arith}
use Rattle.std.specs.Prelude.{Contains, nat_lt, slice_index}
use Rattle.std.specs.Int.{w64, from_le_bytes}
use Rattle.std.specs.List.{fold}
use Rattle.std.proofs.lemmas.Bool.{eq-eqb}
use Rattle.std.proofs.lemmas.List.{append-nil, ext_get_or}
use Rattle.std.proofs.lemmas.List.Elements.{Contains-append_cases, Contains-append_left, Contains-append_right}
use Rattle.std.proofs.lemmas.List.Elements.{Contains-push, Contains-push_cases}
use Rattle.std.proofs.lemmas.List.Sums.{fold-append}
use Rattle.tm_core.specs.Reopening.{IsSameElsewhere}
use Rattle.tm_core.specs.Theorem.{no_regs, pending_at}
use Rattle.tm_model.specs.Shown.{View, view_outside}
use Rattle.tm_model.specs.State.{Pending}
use Rattle.tm_model.specs.declared.outcome.CoreState.TheVariants.{Running}
use Rattle.tm_outcomes.specs.Digests.{digest_by, mixed, mixed_buffers, mixed_cores, mixed_line, mixed_lines}
use Rattle.tm_outcomes.specs.Digests.{mixed_pending, mixed_words, word_in}
use Rattle.tm_outcomes.specs.Places.{AreAlike}
use Rattle.tm_outcomes.specs.Written.{HasMore}
use Rattle.tm_outcomes.specs.declared.place.Place.{Place}
use Rattle.tm_outcomes.specs.declared.written.Written.{Written}

-- the same stores are taken up alike
same_buffers : (here there : ℕ → Pending) (digest count : ℕ) → ((core : ℕ) → core < count → here core ≡ there core) →
    mixed_buffers here digest count ≡ mixed_buffers there digest count
same_buffers here there digest zero same = refl
same_buffers here there digest (suc count) same =
    ap (λ d. mixed_pending d (here count))
    (same_buffers here there digest count (λ core below. same core (omega arith)))
    ∙ ap (λ (q : Pending). mixed_pending (mixed_buffers there digest count) q) (same count (omega arith))

pub same_digest : (written : Written) (a b : Place) → AreAlike a b → digest_by written a ≡ digest_by written b
same_digest written a b alike =
    let opening : List ℕ = written.opening.items in
    let lines : List ℕ = written.lines.items in
    let views : a.machine.views ≡ b.machine.views =
    ext_get_or (view_outside Running no_regs) a.machine.views b.machine.views alike.count alike.each in
    let count : ℕ = length a.machine.views in
    let shown : mixed_cores (mixed_lines a.machine.memory opening 0 lines) a.machine.views
    ≡ mixed_cores (mixed_lines b.machine.memory opening 0 lines) b.machine.views =
    ap (λ (m : List ℕ). mixed_cores (mixed_lines m opening 0 lines) a.machine.views) alike.memory
    ∙ ap (λ (vs : List View). mixed_cores (mixed_lines b.machine.memory opening 0 lines) vs) views in
    ap (λ d. mixed_buffers (pending_at a.machine) d count) shown
    ∙ (same_buffers (pending_at a.machine) (pending_at b.machine) _ count alike.pending
    ∙ ap (λ n. mixed_buffers (pending_at b.machine)
    (mixed_cores (mixed_lines b.machine.memory opening 0 lines) b.machine.views) n) alike.count)

-- ---- a line that is the same in the other memory is not taken up

word_same : (memory other : List ℕ) (at : ℕ) →
    ((address : ℕ) → at ≤ address → address < at + 8 → slice_index memory address ≡ slice_index other address) →
    word_in memory at ≡ word_in other at
unfolding word_in
word_same memory other at same = λ i.
    from_le_bytes w64
    (same at (omega arith) (omega arith) i ∷ same (at + 1) (omega arith) (omega arith) i
    ∷ same (at + 2) (omega arith) (omega arith) i ∷ same (at + 3) (omega arith) (omega arith) i
    ∷ same (at + 4) (omega arith) (omega arith) i ∷ same (at + 5) (omega arith) (omega arith) i
    ∷ same (at + 6) (omega arith) (omega arith) i ∷ same (at + 7) (omega arith) (omega arith) i ∷ [])

words_same : (memory other : List ℕ) (digest start count : ℕ) →
    ((address : ℕ) → start ≤ address → address < start + count * 8
    → slice_index memory address ≡ slice_index other address) →
    mixed_words memory other digest start count ≡ digest
words_same memory other digest start zero same = refl
words_same memory other digest start (suc count) same =
    let at : ℕ = start + count * 8 in
    let before : ℕ = mixed_words memory other digest start count in
    let here : word_in memory at ≡ word_in other at =
    word_same memory other at (λ address low high. same address (omega arith) (omega arith)) in
    ap (λ t. cond t before (mixed (mixed before (at / 8)) (word_in memory at)))
    (eq-eqb (word_in memory at) (word_in other at) here)
    ∙ words_same memory other digest start count (λ address low high. same address low (omega arith))

either : (test : Bool) (digest other : ℕ) → other ≡ digest → cond test digest other ≡ digest
either true digest other same = refl
either false digest other same = same

line_same : (memory other : List ℕ) (digest line : ℕ) →
    ((address : ℕ) → address / 64 ≡ line → slice_index memory address ≡ slice_index other address) →
    mixed_line memory other digest line ≡ digest
line_same memory other digest line same =
    let words : ℕ = mixed_words memory other digest (line * 64) 8 in
    either (nat_lt (length memory) (line * 64 + 64)) digest (cond (nat_lt (length other) (line * 64 + 64)) digest words)
    (either (nat_lt (length other) (line * 64 + 64)) digest words
    (words_same memory other digest (line * 64) 8 (λ address low high. same address (omega arith))))

first_of : (x : ℕ) (xs : List ℕ) → Contains (x ∷ xs) x
first_of x xs = Contains-append_left (x ∷ []) xs x (Contains-push [] x)

lines_same : (memory other : List ℕ) (digest : ℕ) (lines : List ℕ) →
    ((address : ℕ) → Contains lines (address / 64) → slice_index memory address ≡ slice_index other address) →
    mixed_lines memory other digest lines ≡ digest
lines_same memory other digest [] same = refl
lines_same memory other digest (line ∷ lines) same =
    ap (λ d. fold (mixed_line memory other) d lines)
    (line_same memory other digest line
    (λ address is. same address (subst (λ l. Contains (line ∷ lines) l) (sym is) (first_of line lines))))
    ∙ lines_same memory other digest lines
    (λ address among. same address (Contains-append_right (line ∷ []) lines (address / 64) among))

-- so lines that are noted later do not change the digest of what was there
pub noted_later : (before after : Written) (place : Place) → after.opening ≡ before.opening →
    HasMore before.lines.items after.lines.items →
    IsSameElsewhere before.lines.items place.machine.memory before.opening.items →
    digest_by after place ≡ digest_by before place
noted_later before after place same has elsewhere =
    let memory : List ℕ = place.machine.memory in
    let opening : List ℕ = before.opening.items in
    let lines : List ℕ = before.lines.items in
    let begun : ℕ = mixed_lines memory opening 0 lines in
    let later : mixed_lines memory opening begun has.more ≡ begun =
    lines_same memory opening begun has.more (λ address among. elim (elsewhere.same address) [
      | inl old ↦ absurd (has.fresh (address / 64) among old)
      | inr is ↦ is
    ]) in
    ap (λ d. mixed_buffers (pending_at place.machine) d (length place.machine.views))
    (ap (λ (o : List ℕ). mixed_cores (mixed_lines memory o 0 after.lines.items) place.machine.views)
    (ap (λ v. v.items) same)
    ∙ (ap (λ (ls : List ℕ). mixed_cores (mixed_lines memory opening 0 ls) place.machine.views) has.grown
    ∙ ap (λ d. mixed_cores d place.machine.views) (fold-append (mixed_line memory opening) 0 lines has.more ∙ later)))

-- ---- lines that are added

pub no_more : (lines : List ℕ) → HasMore lines lines
no_more lines = record {
  more = [];
  grown = sym (append-nil lines);
  fresh = λ line (k, below, is). absurd (omega arith);
}

pub one_more : (lines : List ℕ) (line : ℕ) → ¬ Contains lines line → HasMore lines (lines ++ line ∷ [])
one_more lines line new = record {
  more = line ∷ [];
  grown = refl;
  fresh = λ other among there. elim (Contains-push_cases [] line other among) [
    | inl (k, below, is) ↦ absurd (omega arith)
    | inr same ↦ new (subst (λ n. Contains lines n) (sym same) there)
  ];
}

pub more_then : (before middle after : List ℕ) → HasMore before middle → HasMore middle after → HasMore before after
more_then before middle after one other = record {
  more = one.more ++ other.more;
  grown = other.grown ∙ (ap (λ ls. ls ++ other.more) one.grown ∙ append_assoc before one.more other.more);
  fresh = λ line among there. elim (Contains-append_cases one.more other.more line among) [
    | inl first ↦ one.fresh line first there
    | inr second ↦
        other.fresh line second
        (subst (λ ls. Contains ls line) (sym one.grown) (Contains-append_left before one.more line there))
  ];
}
