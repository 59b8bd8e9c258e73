-- Numbers, displacements and operands are read exactly.
use Rattle.std.proofs.Common.{◌≡◌, ℕ, zero, suc, ◌-◌, ◌^◌, ◌<◌, ◌≤◌, Bool, true, false, cond, ltb, List, [], ◌∷◌, ◌++◌}
use Rattle.std.proofs.Common.{length, take, drop, get_or, replicate, Ok, Err, refl, sym, ap, subst, ◌∙◌, arith}
use Rattle.std.specs.Int.{Width, w16, w32, byte_len, from_le_bytes, to_le_bytes}
use Rattle.std.proofs.lemmas.Bool.{ltb-false, ltb-true, le-ltb}
use Rattle.std.proofs.lemmas.List.{take_at, drop_at, take-append-drop, length-append, length-take, length-replicate}
use Rattle.std.proofs.lemmas.Nat.{le_bytes_2, le_bytes_4, from_le_bytes-to_le_bytes_2, from_le_bytes-to_le_bytes_4}
use Rattle.ia_insn.specs.declared.fault.DecodeFault.{DecodeFault}
use Rattle.ia_insn.specs.declared.fault.DecodeFault.TheVariants.{Short}
use Rattle.ia_insn.specs.Reading.{Read, byte_at, word_at, long_at}
use Rattle.ia_insn.proofs.Exact.{IsBytes, IsBytes-append, IsBytes-left, bytes_at, ok_is, Exact}

-- ---- a byte

abbrev pub IsByte : List ℕ → ℕ → Type 0
IsByte s b = (b < 256) × (s ≡ b ∷ [])

byte_found : (bytes : List ℕ) (b : ℕ) (rest : List ℕ) → IsBytes bytes → byte_at bytes ≡ Ok (b, rest)
    → (s : List ℕ) × IsByte s b × (bytes ≡ s ++ rest)
byte_found [] b rest fits e = absurd cc
byte_found (c ∷ bytes) b rest fits e =
    let same = ok_is (c, bytes) (b, rest) e in
    let c-is : c ≡ b = ap (λ (p : ℕ × List ℕ). p.0) same in
    let rest-is : bytes ≡ rest = ap (λ (p : ℕ × List ℕ). p.1) same in
    (b ∷ [], (rw (← c-is) fits.0, refl), cc)

byte_short : (bytes : List ℕ) (e : DecodeFault) → IsBytes bytes → byte_at bytes ≡ Err e
    → (e ≡ Short) × (more : List ℕ) × (b : ℕ) × IsByte (bytes ++ more) b
byte_short [] e fits h = (cc, 0 ∷ [], 0, (omega arith, refl))
byte_short (c ∷ bytes) e fits h = absurd cc

pub exact_byte : Exact IsByte byte_at
exact_byte = record {
  again = λ s b rest h. ap byte_at (ap (λ (z : List ℕ). z ++ rest) h.1);
  found = byte_found;
  short = byte_short;
  some = (0 ∷ [], 0, (omega arith, refl));
  fits = λ s b h. subst IsBytes (sym h.1) (h.0, tt);
}

-- ---- a number of two or four bytes

pub record IsWide (w : Width) (limit : ℕ) : Type 0 where
  pub len : (n : ℕ) → length (to_le_bytes w n) ≡ byte_len w
  pub back : (bytes : List ℕ) → length bytes ≡ byte_len w → ((i : ℕ) → get_or bytes i 0 < 256)
      → to_le_bytes w (from_le_bytes w bytes) ≡ bytes
  pub again : (n : ℕ) → n < limit → from_le_bytes w (to_le_bytes w n) ≡ n
  pub below : (bytes : List ℕ) → ((i : ℕ) → get_or bytes i 0 < 256) → from_le_bytes w bytes < limit
  pub fits : (n : ℕ) → IsBytes (to_le_bytes w n)
  pub some : 0 < limit

wide16 : IsWide w16 (2 ^ 16)
wide16 = record {
  len = λ n. refl;
  back = λ bytes len fits. le_bytes_2 bytes _ len fits refl;
  again = λ n lt. from_le_bytes-to_le_bytes_2 n lt;
  below = λ bytes fits. omega (arith, fits 0, fits 1);
  fits = λ n. (omega arith, (omega arith, tt));
  some = omega arith;
}

wide32 : IsWide w32 (2 ^ 32)
wide32 = record {
  len = λ n. refl;
  back = λ bytes len fits. le_bytes_4 bytes _ len fits refl;
  again = λ n lt. from_le_bytes-to_le_bytes_4 n lt;
  below = λ bytes fits. omega (arith, fits 0, fits 1, fits 2, fits 3);
  fits = λ n. (omega arith, (omega arith, (omega arith, (omega arith, tt))));
  some = omega arith;
}

abbrev number_at : Width → List ℕ → Read ℕ
number_at w bytes = cond (ltb (length bytes) (byte_len w)) (Err Short)
    (Ok (from_le_bytes w (take (byte_len w) bytes), drop (byte_len w) bytes))

abbrev pub IsNumber : Width → ℕ → List ℕ → ℕ → Type 0
IsNumber w limit s n = (n < limit) × (s ≡ to_le_bytes w n)

-- a test that did not fail
guard_ok : {A : Type 0} (b : Bool) (x y : A) → cond b (Err Short) (Ok x) ≡ Ok y → (b ≡ false) × (x ≡ y)
guard_ok true x y e = absurd cc
guard_ok false x y e = (refl, cc)

guard_err : {A : Type 0} (b : Bool) (x : A) (e : DecodeFault) → cond b (Err Short) (Ok x) ≡ Err e
    → (b ≡ true) × (e ≡ Short)
guard_err true x e h = (refl, cc)
guard_err false x e h = absurd cc

IsBytes-zeros : (n : ℕ) → IsBytes (replicate n 0)
IsBytes-zeros zero = tt
IsBytes-zeros (suc n) = (omega arith, IsBytes-zeros n)

module _ (w : Width) (limit : ℕ) (wide : IsWide w limit) where
  number_found : (bytes : List ℕ) (n : ℕ) (rest : List ℕ) → IsBytes bytes → number_at w bytes ≡ Ok (n, rest)
      → (s : List ℕ) × IsNumber w limit s n × (bytes ≡ s ++ rest)
  number_found bytes n rest fits e =
      let g = guard_ok (ltb (length bytes) (byte_len w))
      (from_le_bytes w (take (byte_len w) bytes), drop (byte_len w) bytes) (n, rest) e in
      let long_bytes : byte_len w ≤ length bytes = ltb-false _ _ g.0 in
      let n-is : from_le_bytes w (take (byte_len w) bytes) ≡ n = ap (λ (p : ℕ × List ℕ). p.0) g.1 in
      let rest-is : drop (byte_len w) bytes ≡ rest = ap (λ (p : ℕ × List ℕ). p.1) g.1 in
      let whole : bytes ≡ take (byte_len w) bytes ++ drop (byte_len w) bytes =
      sym (take-append-drop (byte_len w) bytes) in
      let all = bytes_at (take (byte_len w) bytes)
      (IsBytes-left (take (byte_len w) bytes) (drop (byte_len w) bytes) (subst IsBytes whole fits)) in
      let back : to_le_bytes w (from_le_bytes w (take (byte_len w) bytes)) ≡ take (byte_len w) bytes =
      wide.back (take (byte_len w) bytes) (omega (arith, length-take (byte_len w) bytes)) all in (
        take (byte_len w) bytes,
        (
          subst (λ (z : ℕ). z < limit) n-is (wide.below (take (byte_len w) bytes) all),
          sym back ∙ ap (to_le_bytes w) n-is,
        ),
        whole ∙ ap (λ (z : List ℕ). take (byte_len w) bytes ++ z) rest-is,
      )

  number_short : (bytes : List ℕ) (e : DecodeFault) → IsBytes bytes → number_at w bytes ≡ Err e
      → (e ≡ Short) × (more : List ℕ) × (n : ℕ) × IsNumber w limit (bytes ++ more) n
  number_short bytes e fits h =
      let g = guard_err (ltb (length bytes) (byte_len w))
      (from_le_bytes w (take (byte_len w) bytes), drop (byte_len w) bytes) e h in
      let less : length bytes < byte_len w = ltb-true _ _ g.0 in
      let more = replicate (byte_len w - length bytes) 0 in
      let all = bytes_at (bytes ++ more) (IsBytes-append bytes more fits (IsBytes-zeros (byte_len w - length bytes))) in
      let len : length (bytes ++ more) ≡ byte_len w =
      omega (arith, length-append bytes more, length-replicate {A = ℕ} (byte_len w - length bytes) 0) in (
        g.1,
        more,
        from_le_bytes w (bytes ++ more),
        (wide.below (bytes ++ more) all, sym (wide.back (bytes ++ more) len all)),
      )

  exact_number : Exact (IsNumber w limit) (number_at w)
  exact_number = record {
    again = λ s n rest h.
        let long_bytes : ltb (length (to_le_bytes w n ++ rest)) (byte_len w) ≡ false =
        le-ltb _ _ (omega (arith, length-append (to_le_bytes w n) rest, wide.len n)) in
        ap (λ (z : List ℕ). number_at w (z ++ rest)) h.1 ∙ rw (
          long_bytes,
          take_at (to_le_bytes w n) rest (byte_len w) (wide.len n),
          drop_at (to_le_bytes w n) rest (byte_len w) (wide.len n),
          wide.again n h.0,
        ) refl;
    found = number_found;
    short = number_short;
    some = (to_le_bytes w 0, 0, (wide.some, refl));
    fits = λ s n h. subst IsBytes (sym h.1) (wide.fits n);
  }

pub exact_word : Exact (IsNumber w16 (2 ^ 16)) word_at
exact_word = exact_number w16 (2 ^ 16) wide16

pub exact_long : Exact (IsNumber w32 (2 ^ 32)) long_at
exact_long = exact_number w32 (2 ^ 32) wide32
