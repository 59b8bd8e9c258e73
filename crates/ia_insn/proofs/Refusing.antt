-- A reader that answers exactly what is spelt, and refuses what begins nothing.
use Rattle.std.proofs.Common.{◌≡◌, ◌≢◌, ℕ, Bool, true, false, cond, List, ◌++◌, Ok, Err, refl, sym, ap, subst, ◌∙◌}
use Rattle.std.proofs.Common.{append_assoc}
use Rattle.ia_insn.specs.declared.fault.DecodeFault.{DecodeFault}
use Rattle.ia_insn.specs.declared.fault.DecodeFault.TheVariants.{Short, NotInSubset}
use Rattle.ia_insn.specs.Reading.{◌>>=◌, Read}
use Rattle.ia_insn.proofs.Exact.{IsBytes, IsBytes-append, IsBytes-right, Exact, Then, then_again, then_found}

pub record Reads {A : Type 0} (S : List ℕ → A → Type 0) (read : List ℕ → Read A) : Type 0 where
  pub again : (s : List ℕ) (a : A) (rest : List ℕ) → S s a → read (s ++ rest) ≡ Ok (a, rest)
  pub found : (bytes : List ℕ) (a : A) (rest : List ℕ) → IsBytes bytes → read bytes ≡ Ok (a, rest)
      → (s : List ℕ) × S s a × (bytes ≡ s ++ rest)
  pub short : (bytes : List ℕ) → IsBytes bytes → read bytes ≡ Err Short
      → (more : List ℕ) × (a : A) × S (bytes ++ more) a
  pub other : (bytes : List ℕ) (e : DecodeFault) → IsBytes bytes → read bytes ≡ Err e → e ≢ Short
      → (e ≡ NotInSubset) × ((more : List ℕ) → read (bytes ++ more) ≡ Err NotInSubset)
  pub fits : (s : List ℕ) (a : A) → S s a → IsBytes s

pub Reads-exact : {A : Type 0} {S : List ℕ → A → Type 0} {read : List ℕ → Read A} → Exact S read → Reads S read
Reads-exact x = record {
  again = x.again;
  found = x.found;
  short = λ bytes fits h. let f = x.short bytes Short fits h in (f.1, f.2, f.3);
  other = λ bytes e fits h ne. absurd (ne (x.short bytes e fits h).0);
  fits = x.fits;
}

pub Reads-same : {A : Type 0} {S T : List ℕ → A → Type 0} {read : List ℕ → Read A}
    → ((s : List ℕ) (a : A) → S s a → T s a) → ((s : List ℕ) (a : A) → T s a → S s a) → Reads S read → Reads T read
Reads-same to from x = record {
  again = λ s a rest h. x.again s a rest (from s a h);
  found = λ bytes a rest fits e. let f = x.found bytes a rest fits e in (f.0, to f.0 a f.1, f.2);
  short = λ bytes fits h. let f = x.short bytes fits h in (f.0, f.1, to (bytes ++ f.0) f.1 f.2);
  other = x.other;
  fits = λ s a h. x.fits s a (from s a h);
}

-- what begins nothing
pub Reads-none : {A : Type 0} {S : List ℕ → A → Type 0} → ((s : List ℕ) (a : A) → S s a → ⊥)
    → Reads S (λ bytes. Err NotInSubset)
Reads-none {A} {S} never = record {
  again = λ s a rest h. absurd (never s a h);
  found = λ bytes a rest fits e. absurd (cc e);
  short = λ bytes fits h. absurd (cc h);
  other = λ bytes e fits h ne. (cc h, λ more. refl);
  fits = λ s a h. absurd (never s a h);
}

pub Reads-if : {A : Type 0} {S : List ℕ → A → Type 0} {r q : List ℕ → Read A} (t : Bool) → (t ≡ true → Reads S r)
    → (t ≡ false → Reads S q) → Reads S (λ bytes. cond t (r bytes) (q bytes))
Reads-if true x y = x refl
Reads-if false x y = y refl

-- ---- one after the other, where some spelling begins with what is there

module _ {A B : Type 0} (S : List ℕ → A → Type 0) (T : A → List ℕ → B → Type 0) (r : List ℕ → Read A)
    (q : A → List ℕ → Read B)
    (x : Exact S r) (y : (s : List ℕ) (a : A) → S s a → Reads (T a) (q a))
    (live : (bytes : List ℕ) → r bytes ≡ Err Short → (more : List ℕ) × (b : B) × Then S T (bytes ++ more) b) where
  then_short : (bytes : List ℕ) → IsBytes bytes → (z : Read A) → r bytes ≡ z → (z >>= λ p. q p.0 p.1) ≡ Err Short
      → (more : List ℕ) × (b : B) × Then S T (bytes ++ more) b
  then_short bytes fits (Err d) was h = live bytes (was ∙ cc h)
  then_short bytes fits (Ok p) was h =
      let f = x.found bytes p.0 p.1 fits was in
      let g = (y f.0 p.0 f.1).short p.1 (IsBytes-right f.0 p.1 (subst IsBytes f.2 fits)) h in (
        g.0,
        g.1,
        record {
          value = p.0;
          front = f.0;
          back = p.1 ++ g.0;
          first = f.1;
          second = g.2;
          parts = ap (λ (z : List ℕ). z ++ g.0) f.2 ∙ append_assoc f.0 p.1 g.0;
        },
      )

  then_other : (bytes : List ℕ) (e : DecodeFault) → IsBytes bytes → (z : Read A) → r bytes ≡ z
      → (z >>= λ p. q p.0 p.1) ≡ Err e → e ≢ Short
      → (e ≡ NotInSubset) × ((more : List ℕ) → (r (bytes ++ more) >>= λ p. q p.0 p.1) ≡ Err NotInSubset)
  then_other bytes e fits (Err d) was h ne = absurd (ne (cc (h, (x.short bytes d fits was).0)))
  then_other bytes e fits (Ok p) was h ne =
      let f = x.found bytes p.0 p.1 fits was in
      let g = (y f.0 p.0 f.1).other p.1 e (IsBytes-right f.0 p.1 (subst IsBytes f.2 fits)) h ne in (
        g.0,
        λ more.
            let regrouped : bytes ++ more ≡ f.0 ++ (p.1 ++ more) =
            ap (λ (z : List ℕ). z ++ more) f.2 ∙ append_assoc f.0 p.1 more in
            ap (λ (z : List ℕ). r z >>= λ p. q p.0 p.1) regrouped
            ∙ ap (λ (z : Read A). z >>= λ p. q p.0 p.1) (x.again f.0 p.0 (p.1 ++ more) f.1)
            ∙ g.1 more,
      )

  pub Reads-then : Reads (Then S T) (λ bytes. r bytes >>= λ p. q p.0 p.1)
  Reads-then = record {
    again = then_again S T r q x (λ s a h. (y s a h).again);
    found = then_found S T r q x (λ s a h. (y s a h).found);
    short = λ bytes fits h. then_short bytes fits (r bytes) refl h;
    other = λ bytes e fits h ne. then_other bytes e fits (r bytes) refl h ne;
    fits = λ s b h. subst IsBytes (sym h.parts) (IsBytes-append h.front h.back (x.fits h.front h.value h.first)
        ((y h.front h.value h.first).fits h.back b h.second));
  }
