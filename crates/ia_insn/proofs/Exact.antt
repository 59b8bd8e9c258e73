-- A reader that answers exactly what is spelt, and how readers in a row are so.
use Rattle.std.proofs.Common.{◌≡◌, ℕ, zero, suc, ◌<◌, Bool, true, false, cond, List, [], ◌∷◌, ◌++◌, get_or, Result, Ok}
use Rattle.std.proofs.Common.{Err, refl, sym, ap, subst, ◌∙◌, append_assoc, arith}
use Rattle.ia_insn.specs.declared.fault.DecodeFault.{DecodeFault}
use Rattle.ia_insn.specs.declared.fault.DecodeFault.TheVariants.{Short}
use Rattle.ia_insn.specs.Reading.{◌>>=◌, Read}

-- ---- bytes

abbrev pub IsBytes : List ℕ → Type 0
IsBytes [] = Unit {0}
IsBytes (b ∷ bs) = (b < 256) × IsBytes bs

pub IsBytes-append : (x y : List ℕ) → IsBytes x → IsBytes y → IsBytes (x ++ y)
IsBytes-append [] y p q = q
IsBytes-append (b ∷ x) y p q = (p.0, IsBytes-append x y p.1 q)

pub IsBytes-left : (x y : List ℕ) → IsBytes (x ++ y) → IsBytes x
IsBytes-left [] y p = tt
IsBytes-left (b ∷ x) y p = (p.0, IsBytes-left x y p.1)

pub IsBytes-right : (x y : List ℕ) → IsBytes (x ++ y) → IsBytes y
IsBytes-right [] y p = p
IsBytes-right (b ∷ x) y p = IsBytes-right x y p.1

pub bytes_at : (bs : List ℕ) → IsBytes bs → (i : ℕ) → get_or bs i 0 < 256
bytes_at [] p i = omega arith
bytes_at (b ∷ bs) p zero = p.0
bytes_at (b ∷ bs) p (suc i) = bytes_at bs p.1 i

pub bytes_from : (bs : List ℕ) → ((i : ℕ) → get_or bs i 0 < 256) → IsBytes bs
bytes_from [] h = tt
bytes_from (b ∷ bs) h = (h 0, bytes_from bs (λ i. h (suc i)))

-- ---- results

pub bind_ok : {A B : Type 0} (r : Result A DecodeFault) (f : A → Result B DecodeFault) (y : B) → (r >>= f) ≡ Ok y
    → (x : A) × (r ≡ Ok x) × (f x ≡ Ok y)
bind_ok (Ok x) f y e = (x, refl, e)
bind_ok (Err d) f y e = absurd cc

abbrev done : {A : Type 0} → A → Result A DecodeFault
done x = Ok x

pub ok_is : {A : Type 0} (x y : A) → done x ≡ done y → x ≡ y
ok_is x y e = cc

-- ---- what a reader owes that reads each spelling and refuses only where bytes are missing

pub record Exact {A : Type 0} (S : List ℕ → A → Type 0) (read : List ℕ → Read A) : Type 0 where
  pub again : (s : List ℕ) (a : A) (rest : List ℕ) → S s a → read (s ++ rest) ≡ Ok (a, rest)
  pub found : (bytes : List ℕ) (a : A) (rest : List ℕ) → IsBytes bytes → read bytes ≡ Ok (a, rest)
      → (s : List ℕ) × S s a × (bytes ≡ s ++ rest)
  pub short : (bytes : List ℕ) (e : DecodeFault) → IsBytes bytes → read bytes ≡ Err e
      → (e ≡ Short) × (more : List ℕ) × (a : A) × S (bytes ++ more) a
  pub some : (s : List ℕ) × (a : A) × S s a
  pub fits : (s : List ℕ) (a : A) → S s a → IsBytes s

-- the same under another name
pub Exact-same : {A : Type 0} {S T : List ℕ → A → Type 0} {read : List ℕ → Read A}
    → ((s : List ℕ) (a : A) → S s a → T s a) → ((s : List ℕ) (a : A) → T s a → S s a) → Exact S read → Exact T read
Exact-same to from x = record {
  again = λ s a rest h. x.again s a rest (from s a h);
  found = λ bytes a rest fits e. let f = x.found bytes a rest fits e in (f.0, to f.0 a f.1, f.2);
  short = λ bytes e fits h. let f = x.short bytes e fits h in (f.0, f.1, f.2, to (bytes ++ f.1) f.2 f.3);
  some = (x.some.0, x.some.1, to x.some.0 x.some.1 x.some.2);
  fits = λ s a h. x.fits s a (from s a h);
}

-- ---- one after the other

pub record Then {A B : Type 0} (S : List ℕ → A → Type 0) (T : A → List ℕ → B → Type 0) (bytes : List ℕ)
    (b : B) : Type 0 where
  pub value : A
  pub front : List ℕ
  pub back : List ℕ
  pub first : S front value
  pub second : T value back b
  pub parts : bytes ≡ front ++ back

-- what is spelt so is read so, and the other way round, where both readers read what is spelt
module _ {A B : Type 0} (S : List ℕ → A → Type 0) (T : A → List ℕ → B → Type 0) (r : List ℕ → Read A)
    (q : A → List ℕ → Read B) (x : Exact S r) where
  pub then_again : ((s : List ℕ) (a : A) → S s a → (back : List ℕ) (b : B) (rest : List ℕ) → T a back b
      → q a (back ++ rest) ≡ Ok (b, rest))
      → (s : List ℕ) (b : B) (rest : List ℕ) → Then S T s b → (r (s ++ rest) >>= λ p. q p.0 p.1) ≡ Ok (b, rest)
  then_again again s b rest h =
      let regrouped : s ++ rest ≡ h.front ++ (h.back ++ rest) =
      ap (λ (z : List ℕ). z ++ rest) h.parts ∙ append_assoc h.front h.back rest in
      ap (λ (z : List ℕ). r z >>= λ p. q p.0 p.1) regrouped
      ∙ ap (λ (z : Read A). z >>= λ p. q p.0 p.1) (x.again h.front h.value (h.back ++ rest) h.first)
      ∙ again h.front h.value h.first h.back b rest h.second

  pub then_found : ((s : List ℕ) (a : A) → S s a → (bytes : List ℕ) (b : B) (rest : List ℕ) → IsBytes bytes
      → q a bytes ≡ Ok (b, rest) → (t : List ℕ) × T a t b × (bytes ≡ t ++ rest))
      → (bytes : List ℕ) (b : B) (rest : List ℕ) → IsBytes bytes → (r bytes >>= λ p. q p.0 p.1) ≡ Ok (b, rest)
      → (s : List ℕ) × Then S T s b × (bytes ≡ s ++ rest)
  then_found found bytes b rest fits e =
      let k = bind_ok (r bytes) (λ p. q p.0 p.1) (b, rest) e in
      let f = x.found bytes k.0.0 k.0.1 fits k.1 in
      let g = found f.0 k.0.0 f.1 k.0.1 b rest (IsBytes-right f.0 k.0.1 (subst IsBytes f.2 fits)) k.2 in (
        f.0 ++ g.0,
        record { value = k.0.0; front = f.0; back = g.0; first = f.1; second = g.1; parts = refl },
        f.2 ∙ ap (λ (z : List ℕ). f.0 ++ z) g.2 ∙ sym (append_assoc f.0 g.0 rest),
      )

module _ {A B : Type 0} (S : List ℕ → A → Type 0) (T : A → List ℕ → B → Type 0) (r : List ℕ → Read A)
    (q : A → List ℕ → Read B)
    (x : Exact S r) (y : (s : List ℕ) (a : A) → S s a → Exact (T a) (q a)) where
  then_short : (bytes : List ℕ) (e : DecodeFault) → IsBytes bytes → (r bytes >>= λ p. q p.0 p.1) ≡ Err e
      → (e ≡ Short) × (more : List ℕ) × (b : B) × Then S T (bytes ++ more) b
  then_short bytes e fits h = go (r bytes) refl h
    where
      go : (z : Read A) → r bytes ≡ z → (z >>= λ p. q p.0 p.1) ≡ Err e
          → (e ≡ Short) × (more : List ℕ) × (b : B) × Then S T (bytes ++ more) b
      go (Err d) was h =
          let f = x.short bytes d fits was in
          let last = (y (bytes ++ f.1) f.2 f.3).some in (
            cc (h, f.0),
            f.1 ++ last.0,
            last.1,
            record {
              value = f.2;
              front = bytes ++ f.1;
              back = last.0;
              first = f.3;
              second = last.2;
              parts = sym (append_assoc bytes f.1 last.0);
            },
          )
      go (Ok p) was h =
          let f = x.found bytes p.0 p.1 fits was in
          let g = (y f.0 p.0 f.1).short p.1 e (IsBytes-right f.0 p.1 (subst IsBytes f.2 fits)) h in (
            g.0,
            g.1,
            g.2,
            record {
              value = p.0;
              front = f.0;
              back = p.1 ++ g.1;
              first = f.1;
              second = g.3;
              parts = ap (λ (z : List ℕ). z ++ g.1) f.2 ∙ append_assoc f.0 p.1 g.1;
            },
          )

  pub Exact-then : Exact (Then S T) (λ bytes. r bytes >>= λ p. q p.0 p.1)
  Exact-then = record {
    again = then_again S T r q x (λ s a h. (y s a h).again);
    found = then_found S T r q x (λ s a h. (y s a h).found);
    short = then_short;
    some =
        let one = x.some in
        let two = (y one.0 one.1 one.2).some in (
          one.0 ++ two.0,
          two.1,
          record { value = one.1; front = one.0; back = two.0; first = one.2; second = two.2; parts = refl },
        );
    fits = λ s b h. subst IsBytes (sym h.parts) (IsBytes-append h.front h.back (x.fits h.front h.value h.first)
        ((y h.front h.value h.first).fits h.back b h.second));
  }

-- ---- a value made of what was read

pub record Made {A B : Type 0} (S : List ℕ → A → Type 0) (f : A → B) (bytes : List ℕ) (b : B) : Type 0 where
  pub value : A
  pub spelt : S bytes value
  pub is : b ≡ f value

abbrev pub given : {A B : Type 0} → (A → B) → A × List ℕ → Read B
given f p = Ok (f p.0, p.1)

module _ {A B : Type 0} (S : List ℕ → A → Type 0) (f : A → B) (r : List ℕ → Read A) (x : Exact S r) where
  made_short : (bytes : List ℕ) (e : DecodeFault) → IsBytes bytes → (z : Read A) → r bytes ≡ z → (z >>= given f) ≡ Err e
      → (e ≡ Short) × (more : List ℕ) × (b : B) × Made S f (bytes ++ more) b
  made_short bytes e fits (Err d) was h =
      let g = x.short bytes d fits was in
      (cc (h, g.0), g.1, f g.2, record { value = g.2; spelt = g.3; is = refl })
  made_short bytes e fits (Ok p) was h = absurd cc

  pub Exact-made : Exact (Made S f) (λ bytes. r bytes >>= given f)
  Exact-made = record {
    again = λ s b rest h.
        ap (λ (z : Read A). z >>= given f) (x.again s h.value rest h.spelt) ∙ ap (λ (c : B). Ok (c, rest)) (sym h.is);
    found = λ bytes b rest fits e.
        let k = bind_ok (r bytes) (given f) (b, rest) e in
        let g = x.found bytes k.0.0 k.0.1 fits k.1 in
        let same : f k.0.0 ≡ b = ap (λ (p : B × List ℕ). p.0) (ok_is (f k.0.0, k.0.1) (b, rest) k.2) in
        let rest-is : k.0.1 ≡ rest = ap (λ (p : B × List ℕ). p.1) (ok_is (f k.0.0, k.0.1) (b, rest) k.2) in
        (g.0, record { value = k.0.0; spelt = g.1; is = sym same }, g.2 ∙ ap (λ (z : List ℕ). g.0 ++ z) rest-is);
    short = λ bytes e fits h. made_short bytes e fits (r bytes) refl h;
    some = (x.some.0, f x.some.1, record { value = x.some.1; spelt = x.some.2; is = refl });
    fits = λ s b h. x.fits s h.value h.spelt;
  }

-- ---- nothing read, and a choice

pub Exact-nothing : {A : Type 0} (a : A) → Exact (λ s b. (s ≡ []) × (b ≡ a)) (λ bytes. Ok (a, bytes))
Exact-nothing {A} a = record {
  again = λ s b rest h. cc (ap (λ (z : List ℕ). z ++ rest) h.0);
  found = λ bytes b rest fits e.
      let same = ok_is (a, bytes) (b, rest) e in
      ([], (refl, sym (ap (λ (p : A × List ℕ). p.0) same)), ap (λ (p : A × List ℕ). p.1) same);
  short = λ bytes e fits h. absurd (cc h);
  some = ([], a, (refl, refl));
  fits = λ s b h. subst IsBytes (sym h.0) tt;
}

pub Exact-if : {A : Type 0} {S : List ℕ → A → Type 0} {r q : List ℕ → Read A} (t : Bool) → (t ≡ true → Exact S r)
    → (t ≡ false → Exact S q) → Exact S (λ bytes. cond t (r bytes) (q bytes))
Exact-if true x y = x refl
Exact-if false x y = y refl
