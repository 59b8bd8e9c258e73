-- The number that digits write, at their end.
use Rattle.std.proofs.Common.{◌≡◌, ◌≤◌, ℕ, List, [], Option, Some, sym, ◌∙◌, ap, drop, length, refl}
use Rattle.std.proofs.lemmas.List.{drop_all}
use Rattle.gdb_packet.specs.Numbers.{with_digits}

pub ends : (number index : ℕ) (text : List ℕ) (whole : Option ℕ) → length text ≤ index
    → with_digits number (drop index text) ≡ whole → Some number ≡ whole
unfolding with_digits
ends number index text whole h is =
    let none : with_digits number [] ≡ Some number = refl in
    sym none ∙ ap (λ l. with_digits number l) (sym (drop_all index text h)) ∙ is
