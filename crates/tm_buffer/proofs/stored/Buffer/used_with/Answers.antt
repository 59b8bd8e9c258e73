use Rattle.std.proofs.Common.{◌≡◌, ◌+◌, ℕ, List, length, cond, eqb, ◌||◌, ap, arith}
use Rattle.std.proofs.lemmas.Bool.{eq-eqb, ne_eqb}
use Rattle.tm_buffer.specs.Buffer.{holds, with_line}
use Rattle.tm_buffer.proofs.Orders.{length_two}
use Rattle.tm_buffer.proofs.stored.Buffer.used_with.Goals as goal

one_line : (order : List ℕ) (first last used wanted : ℕ) → last ≡ first → used ≡ length order
    → wanted ≡ cond {A = ℕ} (holds order first) 0 1
    → used + wanted ≡ length (with_line (with_line order first) last)
one_line order first last used wanted same u w =
    let two : length (with_line (with_line order first) last)
    ≡ length order + cond {A = ℕ} (holds order first) 0 1 + cond {A = ℕ} (eqb last first || holds order last) 0 1 =
    length_two order first last in
    let none : cond {A = ℕ} (eqb last first || holds order last) 0 1 ≡ 0 =
    ap (λ t. cond {A = ℕ} (t || holds order last) 0 1) (eq-eqb last first same) in
    omega arith

two_lines : (order : List ℕ) (first last used one two : ℕ) → (last ≡ first → ⊥) → used ≡ length order
    → one ≡ cond {A = ℕ} (holds order first) 0 1
    → two ≡ cond {A = ℕ} (holds order last) 0 1 → used + one + two ≡ length (with_line (with_line order first) last)
two_lines order first last used one two apart u w v =
    let all : length (with_line (with_line order first) last)
    ≡ length order + cond {A = ℕ} (holds order first) 0 1 + cond {A = ℕ} (eqb last first || holds order last) 0 1 =
    length_two order first last in
    let second : cond {A = ℕ} (eqb last first || holds order last) 0 1 ≡ cond {A = ℕ} (holds order last) 0 1 =
    ap (λ t. cond {A = ℕ} (t || holds order last) 0 1) (ne_eqb last first apart) in
    omega arith

pub returns-then-last-first : goal.returns-then-last-first
returns-then-last-first c = one_line _ _ _ _ _ c.if-last-first.true c.used.ensures.count c.wanted.ensures.count

pub returns : goal.returns
returns c =
    two_lines _ _ _ _ _ _ c.if-last-first.false c.used-2.ensures.count c.wanted-2.ensures.count c.wanted-3.ensures.count
