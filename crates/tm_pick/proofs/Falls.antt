-- The steps at which a core falls, and one more.
use Rattle.std.proofs.Common.{◌≡◌, ℕ, suc, ◌+◌, List, [], ◌∷◌, ◌++◌, ap, subst, arith}
use Rattle.rand_core.specs.Stream.{Stream}
use Rattle.tm_pick.specs.Begun.{falls_among}
use Rattle.tm_pick.specs.Chances.{below}

pub falls_more : (made length one : ℕ) (falls next : List ℕ) (start words behind : Stream) →
    (falls, words) ≡ falls_among made length start → (one, behind) ≡ below length words
    → next ≡ falls ++ (1 + one) ∷ [] →
    (next, behind) ≡ falls_among (made + 1) length start
falls_more made length one falls next start words behind so_far drawn is =
    let more : made + 1 ≡ suc made = omega arith in
    let to : List ℕ × Stream = (next, behind) in
    let after_one : List ℕ × Stream → ℕ × Stream → List ℕ × Stream = λ b d. (b.0 ++ (1 + d.0) ∷ [], d.1) in
    rw more
    (subst (λ (b : List ℕ × Stream). to ≡ after_one b (below length b.1)) so_far
    (subst (λ (d : ℕ × Stream). to ≡ after_one (falls, words) d) drawn
    (ap (λ (l : List ℕ). (l, behind)) is)))
