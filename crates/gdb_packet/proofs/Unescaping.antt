-- The bytes that a text stands for, a byte more at a time.
use Rattle.std.proofs.Common.{◌≡◌, ℕ, Bool, true, false, ◌||◌, List, [], ◌∷◌, ◌++◌, Option, Some, None, refl, sym, ◌∙◌}
use Rattle.std.proofs.Common.{ap, append_assoc, append-nil, inl, inr, bit_xor}
use Rattle.std.specs.Prelude.{◌==◌, option_map}
use Rattle.std.proofs.lemmas.Bool.{cases_Bool, eqb-true, or_cases}
use Rattle.gdb_packet.specs.Packet.{behind, escaped, escaped_byte, is_bound, is_escaped, unescaped, unescaped_from}

joined_more : (bytes : List ℕ) (x : ℕ) (rest : Option (List ℕ))
    → behind bytes (option_map (λ more. x ∷ more) rest) ≡ behind (bytes ++ x ∷ []) rest
joined_more bytes x None = refl
joined_more bytes x (Some more) = ap Some (sym (append_assoc bytes (x ∷ []) more))

-- the byte behind a }
pub escape_more : (bytes new : List ℕ) (b : ℕ) (rest : List ℕ) → new ≡ bytes ++ bit_xor b 32 ∷ []
    → behind bytes (unescaped_from true (b ∷ rest)) ≡ behind new (unescaped_from false rest)
unfolding unescaped_from
escape_more bytes new b rest grown = joined_more bytes (bit_xor b 32) (unescaped_from false rest)
    ∙ ap (λ l. behind l (unescaped_from false rest)) (sym grown)

plain_is : (b : ℕ) (rest : List ℕ) → (b == 125) ≡ false → is_bound b ≡ false
    → unescaped_from false (b ∷ rest) ≡ option_map (λ more. b ∷ more) (unescaped_from false rest)
unfolding unescaped_from
plain_is b rest no_escape no_bound = rw (no_escape, no_bound) refl

-- a byte that stands for itself
pub plain_more : (bytes new : List ℕ) (b : ℕ) (rest : List ℕ) → (b == 125) ≡ false → is_bound b ≡ false
    → new ≡ bytes ++ b ∷ [] → behind bytes (unescaped_from false (b ∷ rest)) ≡ behind new (unescaped_from false rest)
plain_more bytes new b rest no_escape no_bound grown =
    ap (λ o. behind bytes o) (plain_is b rest no_escape no_bound) ∙ joined_more bytes b (unescaped_from false rest)
    ∙ ap (λ l. behind l (unescaped_from false rest)) (sym grown)

-- the end of a text
pub ends_open : (bytes text : List ℕ) → behind bytes (unescaped_from true []) ≡ unescaped text → unescaped text ≡ None
unfolding unescaped_from
ends_open bytes text h = sym h

pub ends : (bytes text : List ℕ) → behind bytes (unescaped_from false []) ≡ unescaped text → unescaped text ≡ Some bytes
unfolding unescaped_from
ends bytes text h = sym h ∙ ap Some (append-nil bytes)

twice : (b : ℕ) → is_escaped b ≡ true → bit_xor (bit_xor b 32) 32 ≡ b
twice b h = elim (or_cases (is_bound b || (b == 125)) (b == 42) h) [
  | inl k ↦ elim (or_cases (is_bound b) (b == 125) k) [
    | inl l ↦ elim (or_cases (b == 36) (b == 35) l) [
      | inl e ↦ at b 36 (eqb-true b 36 e) refl
      | inr e ↦ at b 35 (eqb-true b 35 e) refl
    ]
    | inr e ↦ at b 125 (eqb-true b 125 e) refl
  ]
  | inr e ↦ at b 42 (eqb-true b 42 e) refl
] where
  at : (b n : ℕ) → b ≡ n → bit_xor (bit_xor n 32) 32 ≡ n → bit_xor (bit_xor b 32) 32 ≡ b
  at b n e h = ap (λ x. bit_xor (bit_xor x 32) 32) e ∙ h ∙ sym e

first_false : (x y : Bool) → (x || y) ≡ false → x ≡ false
first_false false y h = refl
first_false true y h = absurd (cc)

last_false : (x y : Bool) → (x || y) ≡ false → y ≡ false
last_false false y h = h
last_false true y h = absurd (cc)

escape_is : (b : ℕ) (rest : List ℕ) → is_escaped b ≡ true
    → unescaped_from false (escaped_byte b ++ rest) ≡ option_map (λ more. b ∷ more) (unescaped_from false rest)
unfolding unescaped_from
escape_is b rest h = rw h (ap (λ x. option_map (λ more. x ∷ more) (unescaped_from false rest)) (twice b h))

whole_is : (b : ℕ) (rest : List ℕ) → is_escaped b ≡ false
    → unescaped_from false (escaped_byte b ++ rest) ≡ option_map (λ more. b ∷ more) (unescaped_from false rest)
whole_is b rest h =
    let front = first_false (is_bound b || (b == 125)) (b == 42) h in
    rw h (plain_is b rest (last_false (is_bound b) (b == 125) front) (first_false (is_bound b) (b == 125) front))

one_is : (b : ℕ) (rest : List ℕ)
    → unescaped_from false (escaped_byte b ++ rest) ≡ option_map (λ more. b ∷ more) (unescaped_from false rest)
one_is b rest = elim (cases_Bool (is_escaped b)) [ inl h ↦ escape_is b rest h | inr h ↦ whole_is b rest h ]

-- the escaped text of some bytes stands for them
pub reads_back : (bytes : List ℕ) → unescaped (escaped bytes) ≡ Some bytes
unfolding unescaped_from
reads_back [] = refl
reads_back (b ∷ bytes) = one_is b (escaped bytes) ∙ ap (λ o. option_map (λ more. b ∷ more) o) (reads_back bytes)
