-- Digests of names.
use Rattle.std.proofs.Common.{◌≡◌, ℕ, Bool, true, false, List, ◌++◌, refl, sym, ◌∙◌, ap}
use Rattle.std.specs.Hash.DefaultHasher as sip
use Rattle.std.specs.Cmp.Lexicographic.{bytes_decides}
use Rattle.std.proofs.lemmas.Grind.{fold-append}
use Rattle.std.specs.declared.hash.DefaultHasher.{DefaultHasher}
use Rattle.ia_item.specs.declared.name.Name.{Name}
use Rattle.ia_item.specs.Names.{whole_name, same_name}
use Rattle.ia_item.specs.Digests.{given_more, name_digest}

-- a text that is given in two parts is given as a whole
pub in_two : (s : DefaultHasher) (a b : List ℕ) → given_more (given_more s a) b ≡ given_more s (a ++ b)
unfolding sip.write
in_two s a b = sym (fold-append sip.write_byte s a b)

-- names whose digests differ are not the same
pub apart : (m n : Name) → (m.digest ≡ n.digest → ⊥) → same_name m n ≡ false
apart m n h = by_test (same_name m n) refl
  where
    by_test : (b : Bool) → same_name m n ≡ b → same_name m n ≡ false
    by_test false e = e
    by_test true e =
        absurd (h (m.digested ∙ ap name_digest ((bytes_decides (whole_name m) (whole_name n)).0 e) ∙ sym n.digested))
