-- Decoding answers exactly what is spelt.
use Rattle.std.proofs.Common.{◌≡◌, ℕ, ◌+◌, ◌-◌, ◌<◌, ◌≤◌, List, ◌++◌, length, take, drop, get_or, Result, Ok, Err, refl}
use Rattle.std.proofs.Common.{sym, ap, subst, ◌∙◌, arith}
use Rattle.std.specs.Prelude.{IfOk, IsTrue, ◌↔◌}
use Rattle.std.proofs.lemmas.List.{length-append, length-take-le, take_at, take-append-drop}
use Rattle.ia_insn.specs.declared.fault.DecodeFault.{DecodeFault}
use Rattle.ia_insn.specs.declared.fault.DecodeFault.TheVariants.{Short, NotInSubset, LockNotAllowed}
use Rattle.ia_insn.specs.declared.op.Insn.{Insn}
use Rattle.ia_insn.specs.Spelling.{Spells, IsShort, IsLockFault, IsOther}
use Rattle.ia_insn.specs.Reading.{◌>>=◌, Read, insn_at, decoding_of}
use Rattle.ia_insn.proofs.Exact.{bytes_from, bind_ok, ok_is}
use Rattle.ia_insn.proofs.Whole.{insn_again, insn_found, is_short, short_is, is_lock_fault, lock_fault_is}
use Rattle.ia_insn.proofs.Lengths.{spelling_len, spelling_some}
use Rattle.ia_insn.proofs.Makes.{insn_encodable}
use Rattle.ia_insn.specs.Encoding.{is_encodable}

abbrev pub AreBytes : List ℕ → Type 0
AreBytes bytes = (i : ℕ) → get_or bytes i 0 < 256

-- how much of the bytes is left behind an instruction
pub left : (bytes : List ℕ) (i : Insn) (rest : List ℕ) → AreBytes bytes → insn_at bytes ≡ Ok (i, rest)
    → (length rest ≤ length bytes) × (length bytes ≤ length rest + 13)
left bytes i rest fits e =
    let f = insn_found bytes i rest (bytes_from bytes fits) e in
    let total : length bytes ≡ length f.0 + length rest = ap length f.2 ∙ length-append f.0 rest in
    (omega arith, omega (arith, spelling_len f.1))

abbrev Answer : Type 0
Answer = Result (Insn × ℕ) DecodeFault

abbrev IsFound : List ℕ → Insn × ℕ → Type 0
IsFound bytes x = (x.1 ≤ length bytes) × Spells (take x.1 bytes) x.0

found_at : (bytes : List ℕ) (x : Insn × ℕ) → AreBytes bytes → decoding_of bytes ≡ Ok x → IsFound bytes x
unfolding decoding_of
found_at bytes x fits e =
    let k = bind_ok (insn_at bytes) (λ p. Ok (p.0, length bytes - length p.1)) x e in
    let f = insn_found bytes k.0.0 k.0.1 (bytes_from bytes fits) k.1 in
    let total : length bytes ≡ length f.0 + length k.0.1 = ap length f.2 ∙ length-append f.0 k.0.1 in
    let n : length bytes - length k.0.1 ≡ length f.0 = omega arith in
    let front : take (length bytes - length k.0.1) bytes ≡ f.0 =
    ap (λ (z : List ℕ). take (length bytes - length k.0.1) z) f.2
    ∙ take_at f.0 k.0.1 (length bytes - length k.0.1) (sym n) in
    let it : IsFound bytes (k.0.0, length bytes - length k.0.1) =
    (omega arith, subst (λ (s : List ℕ). Spells s k.0.0) (sym front) f.1) in
    subst (IsFound bytes) (ok_is (k.0.0, length bytes - length k.0.1) x k.2) it

pub found : (bytes : List ℕ) (r : Answer) → AreBytes bytes → r ≡ decoding_of bytes → IfOk r (IsFound bytes)
found bytes (Ok x) fits e = found_at bytes x fits (sym e)
found bytes (Err d) fits e = tt

pub only : (bytes : List ℕ) (r : Answer) → r ≡ decoding_of bytes → (front rest : List ℕ) (i : Insn) → Spells front i
    → bytes ≡ front ++ rest → r ≡ Ok (i, length front)
unfolding decoding_of
only bytes r e front rest i h parts =
    let read : insn_at bytes ≡ Ok (i, rest) = ap insn_at parts ∙ insn_again h rest in
    let n : length bytes - length rest ≡ length front = omega (arith, ap length parts, length-append front rest) in
    e ∙ ap (λ (z : Read Insn). z >>= λ p. Ok (p.0, length bytes - length p.1)) read ∙ ap (λ (k : ℕ). Ok (i, k)) n

abbrev pub sized : List ℕ → Insn × List ℕ → Answer
sized bytes p = Ok (p.0, length bytes - length p.1)

-- a fault of decoding is one of reading
fault_of : (bytes : List ℕ) (e : DecodeFault) (z : Read Insn) → insn_at bytes ≡ z → (z >>= sized bytes) ≡ Err e
    → insn_at bytes ≡ Err e
fault_of bytes e (Ok p) was h = absurd (cc h)
fault_of bytes e (Err d) was h = was ∙ cc h

pub short : (bytes : List ℕ) (r : Answer) → AreBytes bytes → r ≡ decoding_of bytes → (r ≡ Err Short) ↔ IsShort bytes
unfolding decoding_of
short bytes r fits e = (
  λ h. short_is bytes (bytes_from bytes fits) (fault_of bytes Short (insn_at bytes) refl (sym e ∙ h)),
  λ h. e ∙ ap (λ (z : Read Insn). z >>= sized bytes) (is_short bytes (bytes_from bytes fits) h),
)

pub lock : (bytes : List ℕ) (r : Answer) → AreBytes bytes → r ≡ decoding_of bytes
    → (r ≡ Err LockNotAllowed) ↔ IsLockFault bytes
unfolding decoding_of
lock bytes r fits e = (
  λ h. lock_fault_is bytes (bytes_from bytes fits) (fault_of bytes LockNotAllowed (insn_at bytes) refl (sym e ∙ h)),
  λ h. e ∙ ap (λ (z : Read Insn). z >>= sized bytes) (is_lock_fault bytes h),
)

nothing_front : (bytes : List ℕ) (r : Answer) (e : DecodeFault) → r ≡ decoding_of bytes → r ≡ Err e
    → (front rest : List ℕ) (i : Insn) → Spells front i → bytes ≡ front ++ rest → ⊥
nothing_front bytes r e d h front rest i s parts = cc (h, only bytes r d front rest i s parts)

other_go : (bytes : List ℕ) (z r : Answer) → r ≡ z → AreBytes bytes → r ≡ decoding_of bytes → IsOther bytes
    → r ≡ Err NotInSubset
other_go bytes (Ok x) r was fits e o =
    let f = found_at bytes x fits (sym e ∙ was) in
    absurd (o.0 (take x.1 bytes) (drop x.1 bytes) x.0 f.1 (sym (take-append-drop x.1 bytes)))
other_go bytes (Err Short) r was fits e o = absurd (o.1 ((short bytes r fits e).0 was))
other_go bytes (Err NotInSubset) r was fits e o = was
other_go bytes (Err LockNotAllowed) r was fits e o = absurd (o.2 ((lock bytes r fits e).0 was))

pub other : (bytes : List ℕ) (r : Answer) → AreBytes bytes → r ≡ decoding_of bytes
    → (r ≡ Err NotInSubset) ↔ IsOther bytes
other bytes r fits e = (
  λ h. (
    nothing_front bytes r NotInSubset e h,
    λ q. cc (h, (short bytes r fits e).1 q),
    λ q. cc (h, (lock bytes r fits e).1 q),
  ),
  λ o. other_go bytes r r refl fits e o,
)

pub fits : (bytes : List ℕ) (r : Answer) → AreBytes bytes → r ≡ decoding_of bytes
    → IfOk r (λ x. IsTrue (is_encodable x.0))
fits bytes (Ok x) b e = insn_encodable (found_at bytes x b (sym e)).1
fits bytes (Err d) b e = tt

pub lengths : (bytes : List ℕ) (r : Answer) → AreBytes bytes → r ≡ decoding_of bytes
    → IfOk r (λ x. (1 ≤ x.1) × (x.1 ≤ 15))
lengths bytes (Ok x) b e =
    let f = found_at bytes x b (sym e) in
    let n : length (take x.1 bytes) ≡ x.1 = length-take-le x.1 bytes f.0 in
    (omega (arith, spelling_some f.1), omega (arith, spelling_len f.1))
lengths bytes (Err d) b e = tt

-- a spelling with any bytes behind it is read as its instruction and its length
pub read_back : (s : List ℕ) (i : Insn) (more : List ℕ) → Spells s i → decoding_of (s ++ more) ≡ Ok (i, length s)
read_back s i more h = only (s ++ more) (decoding_of (s ++ more)) refl s more i h refl
