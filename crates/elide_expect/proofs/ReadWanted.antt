-- What a text says that is expected, by how it begins.
use Rattle.std.proofs.Common.{◌≡◌, ℕ, true, false, List, refl, drop, nat_eq}
use Rattle.std.specs.Prelude.{codes}
use Rattle.std.specs.Cmp.Lexicographic.{pointwise}
use Rattle.std.specs.List.{starts_with}
use Rattle.elide_expect.specs.declared.expectation.Rule.TheVariants.{AtLeast, Exactly, Never}
use Rattle.elide_expect.specs.Comments.{trimmed}
use Rattle.elide_expect.specs.Expectations.{line_of, outcomes_of, status_of, wanted_of}

pub is_status : (text : List ℕ) → pointwise nat_eq text (codes "no failure") ≡ false
    → starts_with nat_eq text (codes "status ") ≡ true
    → status_of (trimmed (drop 7 text)) ≡ wanted_of text
unfolding wanted_of
is_status text a b = simp (a, b) refl

pub is_line : (text : List ℕ) → pointwise nat_eq text (codes "no failure") ≡ false
    → starts_with nat_eq text (codes "status ") ≡ false
    → starts_with nat_eq text (codes "line ") ≡ true
    → line_of (trimmed (drop 5 text)) ≡ wanted_of text
unfolding wanted_of
is_line text a b c = simp (a, b, c) refl

pub is_exactly : (text : List ℕ) → pointwise nat_eq text (codes "no failure") ≡ false
    → starts_with nat_eq text (codes "status ") ≡ false
    → starts_with nat_eq text (codes "line ") ≡ false → starts_with nat_eq text (codes "exactly ") ≡ true
    → outcomes_of Exactly (drop 8 text) ≡ wanted_of text
unfolding wanted_of
is_exactly text a b c d = simp (a, b, c, d) refl

pub is_at_least : (text : List ℕ) → pointwise nat_eq text (codes "no failure") ≡ false
    → starts_with nat_eq text (codes "status ") ≡ false
    → starts_with nat_eq text (codes "line ") ≡ false → starts_with nat_eq text (codes "exactly ") ≡ false
    → starts_with nat_eq text (codes "at least ") ≡ true
    → outcomes_of AtLeast (drop 9 text) ≡ wanted_of text
unfolding wanted_of
is_at_least text a b c d e = simp (a, b, c, d, e) refl

pub is_never : (text : List ℕ) → pointwise nat_eq text (codes "no failure") ≡ false
    → starts_with nat_eq text (codes "status ") ≡ false
    → starts_with nat_eq text (codes "line ") ≡ false → starts_with nat_eq text (codes "exactly ") ≡ false
    → starts_with nat_eq text (codes "at least ") ≡ false → starts_with nat_eq text (codes "never ") ≡ true
    → outcomes_of Never (drop 6 text) ≡ wanted_of text
unfolding wanted_of
is_never text a b c d e f = simp (a, b, c, d, e, f) refl
