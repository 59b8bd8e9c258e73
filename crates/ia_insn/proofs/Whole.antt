-- Whole instructions are read exactly, and each fault is the one that is there.
use Rattle.std.proofs.Common.{◌≡◌, ◌≢◌, ◌⊎◌, inl, inr, ℕ, Bool, true, false, cond, List, [], ◌∷◌, ◌++◌, Result, Ok, Err}
use Rattle.std.proofs.Common.{refl, sym, ap, subst, ◌∙◌, append_assoc}
use Rattle.std.specs.Prelude.{◌==◌, IsTrue}
use Rattle.std.proofs.lemmas.Bool.{eqb-true, eqb-false}
use Rattle.std.proofs.lemmas.List.{append-nil}
use Rattle.ia_insn.specs.declared.fault.DecodeFault.{DecodeFault}
use Rattle.ia_insn.specs.declared.fault.DecodeFault.TheVariants.{Short, NotInSubset, LockNotAllowed}
use Rattle.ia_insn.specs.declared.op.Op.{Op}
use Rattle.ia_insn.specs.declared.op.Op.TheVariants as op
use Rattle.ia_insn.specs.declared.op.Insn.{Insn}
use Rattle.ia_insn.specs.Table.{SpellsOp}
use Rattle.ia_insn.specs.Spelling.{lockable, Spells, unlocked, locked, IsFront, IsLockedFront, IsShort, IsLockFault}
use Rattle.ia_insn.specs.Reading.{◌>>=◌, Read, op_at, lock_at, insn_at}
use Rattle.ia_insn.proofs.Exact.{IsBytes, ok_is, bind_ok, given}
use Rattle.ia_insn.proofs.Maps.{reads_op, starts_other, op_nop}

abbrev plain_insn : Op → Insn
plain_insn i = record { lock = false; op = i }

abbrev locked_insn : Op → Insn
locked_insn i = record { lock = true; op = i }

abbrev locked_or : Bool → Op → List ℕ → Read Insn
locked_or t i rest = cond t (Ok (locked_insn i, rest)) (Err LockNotAllowed)

-- ---- what stands behind F0, and what begins otherwise

insn_f0 : (bytes : List ℕ) → insn_at (0xF0 ∷ bytes) ≡ (op_at bytes >>= lock_at)
unfolding insn_at
insn_f0 bytes = refl

insn_plain : (b : ℕ) (bytes : List ℕ) → b ≢ 0xF0 → insn_at (b ∷ bytes) ≡ (op_at (b ∷ bytes) >>= given plain_insn)
unfolding insn_at
insn_plain b bytes ne = go (b == 0xF0) refl
  where
    go : (t : Bool) → (b == 0xF0) ≡ t
        → cond t (op_at bytes >>= lock_at) (op_at (b ∷ bytes) >>= given plain_insn)
        ≡ (op_at (b ∷ bytes) >>= given plain_insn)
    go true e = absurd (ne (eqb-true _ _ e))
    go false e = refl

insn_none : insn_at [] ≡ Err Short
unfolding insn_at
insn_none = refl

is_f0 : (b : ℕ) → (b ≡ 0xF0) ⊎ (b ≢ 0xF0)
is_f0 b = go (b == 0xF0) refl
  where
    go : (t : Bool) → (b == 0xF0) ≡ t → (b ≡ 0xF0) ⊎ (b ≢ 0xF0)
    go true e = inl (eqb-true _ _ e)
    go false e = inr (eqb-false _ _ e)

lock_ok : (i : Op) (rest : List ℕ) → IsTrue (lockable i) → lock_at (i, rest) ≡ Ok (locked_insn i, rest)
lock_ok i rest h = go (lockable i) refl h
  where
    go : (t : Bool) → lockable i ≡ t → IsTrue t → locked_or t i rest ≡ Ok (locked_insn i, rest)
    go true e h = refl
    go false e h = absurd (cc h)

lock_not : (i : Op) (rest : List ℕ) → lockable i ≡ false → lock_at (i, rest) ≡ Err LockNotAllowed
lock_not i rest h = rw h refl

lock_found : (i : Op) (rest : List ℕ) (p : Insn × List ℕ) → lock_at (i, rest) ≡ Ok p
    → IsTrue (lockable i) × (p ≡ (locked_insn i, rest))
lock_found i rest p h = go (lockable i) refl h
  where
    go : (t : Bool) → lockable i ≡ t → locked_or t i rest ≡ Ok p → IsTrue t × (p ≡ (locked_insn i, rest))
    go true e h = (refl, sym (ok_is (locked_insn i, rest) p h))
    go false e h = absurd (cc h)

lock_err : (i : Op) (rest : List ℕ) (e : DecodeFault) → lock_at (i, rest) ≡ Err e
    → (e ≡ LockNotAllowed) × (lockable i ≡ false)
lock_err i rest e h = go (lockable i) refl h
  where
    go : (t : Bool) → lockable i ≡ t → locked_or t i rest ≡ Err e → (e ≡ LockNotAllowed) × (t ≡ false)
    go true was h = absurd (cc h)
    go false was h = (cc h, refl)

-- ---- what is spelt is read

pub insn_again : {s : List ℕ} {i : Insn} → Spells s i → (rest : List ℕ) → insn_at (s ++ rest) ≡ Ok (i, rest)
insn_again (unlocked {bytes = s} {i = i} h) rest =
    let st = starts_other h in
    let whole : s ++ rest ≡ st.0 ∷ (st.1 ++ rest) = ap (λ (z : List ℕ). z ++ rest) st.2 in
    let same : op_at (st.0 ∷ (st.1 ++ rest)) ≡ Ok (i, rest) = ap op_at (sym whole) ∙ reads_op.again s i rest h in
    ap insn_at whole ∙ insn_plain st.0 (st.1 ++ rest) st.3 ∙ ap (λ (z : Read Op). z >>= given plain_insn) same
insn_again (locked {bytes = s} {i = i} h l) rest =
    insn_f0 (s ++ rest) ∙ ap (λ (z : Read Op). z >>= lock_at) (reads_op.again s i rest h) ∙ lock_ok i rest l

-- ---- what is read is spelt

abbrev Found : List ℕ → Insn → List ℕ → Type 0
Found bytes i rest = (s : List ℕ) × Spells s i × (bytes ≡ s ++ rest)

found_f0 : (bytes : List ℕ) (i : Insn) (rest : List ℕ) → IsBytes bytes → insn_at (0xF0 ∷ bytes) ≡ Ok (i, rest)
    → Found (0xF0 ∷ bytes) i rest
found_f0 bytes i rest fits e =
    let k = bind_ok (op_at bytes) lock_at (i, rest) (sym (insn_f0 bytes) ∙ e) in
    let f = reads_op.found bytes k.0.0 k.0.1 fits k.1 in
    let l = lock_found k.0.0 k.0.1 (i, rest) k.2 in
    let i-is : i ≡ locked_insn k.0.0 = ap (λ (p : Insn × List ℕ). p.0) l.1 in
    let rest-is : rest ≡ k.0.1 = ap (λ (p : Insn × List ℕ). p.1) l.1 in (
      0xF0 ∷ f.0,
      subst (λ (z : Insn). Spells (0xF0 ∷ f.0) z) (sym i-is) (locked f.1 l.0),
      ap (λ (z : List ℕ). 0xF0 ∷ z) (f.2 ∙ ap (λ (z : List ℕ). f.0 ++ z) (sym rest-is)),
    )

found_plain : (b : ℕ) (bytes : List ℕ) (i : Insn) (rest : List ℕ) → b ≢ 0xF0 → IsBytes (b ∷ bytes)
    → insn_at (b ∷ bytes) ≡ Ok (i, rest) → Found (b ∷ bytes) i rest
found_plain b bytes i rest ne fits e =
    let k = bind_ok (op_at (b ∷ bytes)) (given plain_insn) (i, rest) (sym (insn_plain b bytes ne) ∙ e) in
    let f = reads_op.found (b ∷ bytes) k.0.0 k.0.1 fits k.1 in
    let l = ok_is (plain_insn k.0.0, k.0.1) (i, rest) k.2 in
    let i-is : i ≡ plain_insn k.0.0 = sym (ap (λ (p : Insn × List ℕ). p.0) l) in
    let rest-is : k.0.1 ≡ rest = ap (λ (p : Insn × List ℕ). p.1) l in
    (f.0, subst (λ (z : Insn). Spells f.0 z) (sym i-is) (unlocked f.1), f.2 ∙ ap (λ (z : List ℕ). f.0 ++ z) rest-is)

pub insn_found : (bytes : List ℕ) (i : Insn) (rest : List ℕ) → IsBytes bytes → insn_at bytes ≡ Ok (i, rest)
    → Found bytes i rest
insn_found [] i rest fits e = absurd (cc (e, insn_none))
insn_found (b ∷ bytes) i rest fits e =
    elim (is_f0 b) [
      | inl is ↦ subst (λ (z : ℕ). Found (z ∷ bytes) i rest) (sym is)
          (found_f0 bytes i rest fits.1 (subst (λ (z : ℕ). insn_at (z ∷ bytes) ≡ Ok (i, rest)) is e))
      | inr ne ↦ found_plain b bytes i rest ne fits e
    ]

-- ---- a fault that is not for want of bytes stays

fault_of : {A : Type 0} (e : DecodeFault) → Result A DecodeFault
fault_of e = Err e

err_is : {A : Type 0} (d e : DecodeFault) → fault_of {A = A} d ≡ fault_of e → d ≡ e
unfolding fault_of
err_is d e h = cc

stays_f0 : (bytes : List ℕ) (e : DecodeFault) (more : List ℕ) → IsBytes bytes → e ≢ Short
    → (z : Read Op) → op_at bytes ≡ z → (z >>= lock_at) ≡ Err e → insn_at (0xF0 ∷ (bytes ++ more)) ≡ Err e
stays_f0 bytes e more fits ne (Err d) was h =
    let same : d ≡ e = cc h in
    let o = reads_op.other bytes d fits was (λ q. ne (sym same ∙ q)) in
    insn_f0 (bytes ++ more) ∙ ap (λ (z : Read Op). z >>= lock_at) (o.1 more)
    ∙ ap (λ (d : DecodeFault). Err d) (sym o.0 ∙ same)
stays_f0 bytes e more fits ne (Ok p) was h =
    let f = reads_op.found bytes p.0 p.1 fits was in
    let l = lock_err p.0 p.1 e h in
    let whole : bytes ++ more ≡ f.0 ++ (p.1 ++ more) = ap (λ (z : List ℕ). z ++ more) f.2 ∙ append_assoc f.0 p.1 more in
    insn_f0 (bytes ++ more) ∙ ap (λ (z : List ℕ). op_at z >>= lock_at) whole
    ∙ ap (λ (z : Read Op). z >>= lock_at) (reads_op.again f.0 p.0 (p.1 ++ more) f.1) ∙ lock_not p.0 (p.1 ++ more) l.1
    ∙ ap (λ (d : DecodeFault). Err d) (sym l.0)

stays_plain : (b : ℕ) (bytes : List ℕ) (e : DecodeFault) (more : List ℕ) → b ≢ 0xF0 → IsBytes (b ∷ bytes) → e ≢ Short
    → (z : Read Op) → op_at (b ∷ bytes) ≡ z → (z >>= given plain_insn) ≡ Err e → insn_at (b ∷ (bytes ++ more)) ≡ Err e
stays_plain b bytes e more n fits ne (Err d) was h =
    let same : d ≡ e = cc h in
    let o = reads_op.other (b ∷ bytes) d fits was (λ q. ne (sym same ∙ q)) in
    insn_plain b (bytes ++ more) n ∙ ap (λ (z : Read Op). z >>= given plain_insn) (o.1 more)
    ∙ ap (λ (d : DecodeFault). Err d) (sym o.0 ∙ same)
stays_plain b bytes e more n fits ne (Ok p) was h = absurd (cc h)

pub insn_stays : (bytes : List ℕ) (e : DecodeFault) (more : List ℕ) → IsBytes bytes → e ≢ Short → insn_at bytes ≡ Err e
    → insn_at (bytes ++ more) ≡ Err e
insn_stays [] e more fits ne h = absurd (ne (cc (h, insn_none)))
insn_stays (b ∷ bytes) e more fits ne h =
    elim (is_f0 b) [
      | inl is ↦ subst (λ (z : ℕ). insn_at (z ∷ (bytes ++ more)) ≡ Err e) (sym is) (stays_f0 bytes e more fits.1 ne
          (op_at bytes) refl (sym (insn_f0 bytes) ∙ ap (λ (z : ℕ). insn_at (z ∷ bytes)) (sym is) ∙ h))
      | inr n ↦ stays_plain b bytes e more n fits ne (op_at (b ∷ bytes)) refl (sym (insn_plain b bytes n) ∙ h)
    ]

-- ---- Short is for a proper front

not_nil : {A : Type 0} (rest : List A) (x : A) (more : List A) → rest ++ x ∷ more ≡ [] → ⊥
not_nil [] x more e = cc
not_nil (y ∷ rest) x more e = cc

ok_not_err : {A : Type 0} (r : Result A DecodeFault) (a : A) (e : DecodeFault) → r ≡ Ok a → r ≡ Err e → ⊥
ok_not_err r a e p q = cc

whole_again : {s : List ℕ} {i : Insn} → Spells s i → insn_at s ≡ Ok (i, [])
whole_again {s} {i} h = ap insn_at (sym (append-nil s)) ∙ insn_again h []

op_whole : {s : List ℕ} {i : Op} → SpellsOp s i → op_at s ≡ Ok (i, [])
op_whole {s} {i} h = ap op_at (sym (append-nil s)) ∙ reads_op.again s i [] h

not_short : (e : DecodeFault) → (e ≡ Short) ⊎ (e ≢ Short)
not_short Short = inl refl
not_short NotInSubset = inr (λ e. cc)
not_short LockNotAllowed = inr (λ e. cc)

module _ (bytes : List ℕ) (x : ℕ) (more : List ℕ) (fits : IsBytes bytes) where
  front_go : (i : Insn) → Spells (bytes ++ x ∷ more) i → (z : Read Insn) → insn_at bytes ≡ z → insn_at bytes ≡ Err Short
  front_go i h (Ok p) was =
      let f = insn_found bytes p.0 p.1 fits was in
      let whole : bytes ++ x ∷ more ≡ f.0 ++ (p.1 ++ x ∷ more) =
      ap (λ (z : List ℕ). z ++ x ∷ more) f.2 ∙ append_assoc f.0 p.1 (x ∷ more) in
      let both : insn_at (bytes ++ x ∷ more) ≡ Ok (p.0, p.1 ++ x ∷ more) =
      ap insn_at whole ∙ insn_again f.1 (p.1 ++ x ∷ more) in
      let same = ok_is (p.0, p.1 ++ x ∷ more) (i, []) (sym both ∙ whole_again h) in
      absurd (not_nil p.1 x more (ap (λ (q : Insn × List ℕ). q.1) same))
  front_go i h (Err e) was =
      elim (not_short e) [
        | inl is ↦ was ∙ ap (λ (d : DecodeFault). Err d) is
        | inr ne ↦ absurd (ok_not_err (insn_at (bytes ++ x ∷ more)) (
          i,
          [],
        ) e (whole_again h) (insn_stays bytes e (x ∷ more) fits ne was))
      ]

  op_front_go : (i : Op) → SpellsOp (bytes ++ x ∷ more) i → (z : Read Op) → op_at bytes ≡ z → op_at bytes ≡ Err Short
  op_front_go i h (Ok p) was =
      let f = reads_op.found bytes p.0 p.1 fits was in
      let whole : bytes ++ x ∷ more ≡ f.0 ++ (p.1 ++ x ∷ more) =
      ap (λ (z : List ℕ). z ++ x ∷ more) f.2 ∙ append_assoc f.0 p.1 (x ∷ more) in
      let both : op_at (bytes ++ x ∷ more) ≡ Ok (p.0, p.1 ++ x ∷ more) =
      ap op_at whole ∙ reads_op.again f.0 p.0 (p.1 ++ x ∷ more) f.1 in
      let same = ok_is (p.0, p.1 ++ x ∷ more) (i, []) (sym both ∙ op_whole h) in
      absurd (not_nil p.1 x more (ap (λ (q : Op × List ℕ). q.1) same))
  op_front_go i h (Err e) was =
      elim (not_short e) [
        | inl is ↦ was ∙ ap (λ (d : DecodeFault). Err d) is
        | inr ne ↦ absurd (ok_not_err (op_at (bytes ++ x ∷ more)) (
          i,
          [],
        ) NotInSubset (op_whole h) ((reads_op.other bytes e fits was ne).1 (x ∷ more)))
      ]

pub is_short : (bytes : List ℕ) → IsBytes bytes → IsShort bytes → insn_at bytes ≡ Err Short
is_short bytes fits (inl h) = front_go bytes h.0 h.1 fits h.2 h.3 (insn_at bytes) refl
is_short bytes fits (inr h) =
    let fits2 : IsBytes (0xF0 ∷ h.0) = subst IsBytes h.4 fits in
    ap insn_at h.4 ∙ insn_f0 h.0
    ∙ ap (λ (z : Read Op). z >>= lock_at) (op_front_go h.0 h.1 h.2 fits2.1 h.3 h.5 (op_at h.0) refl)

-- what is missing is not nothing
op_missing : (bytes : List ℕ) → op_at bytes ≡ Err Short → (more : List ℕ) (i : Op) → SpellsOp (bytes ++ more) i
    → (x : ℕ) × (rest : List ℕ) × SpellsOp (bytes ++ x ∷ rest) i
op_missing bytes e [] i h = absurd (ok_not_err (op_at bytes) (i, []) Short (op_whole (rw append-nil at h)) e)
op_missing bytes e (x ∷ rest) i h = (x, rest, h)

short_f0 : (bytes : List ℕ) → IsBytes bytes → (z : Read Op) → op_at bytes ≡ z → (z >>= lock_at) ≡ Err Short
    → IsLockedFront (0xF0 ∷ bytes)
short_f0 bytes fits (Err d) was h =
    let no : op_at bytes ≡ Err Short = was ∙ cc h in
    let f = reads_op.short bytes fits no in
    let m = op_missing bytes no f.0 f.1 f.2 in
    (bytes, m.0, m.1, f.1, refl, m.2)
short_f0 bytes fits (Ok p) was h = absurd (cc (lock_err p.0 p.1 Short h).0)

short_plain : (b : ℕ) (bytes : List ℕ) → IsBytes (b ∷ bytes) → (z : Read Op) → op_at (b ∷ bytes) ≡ z
    → (z >>= given plain_insn) ≡ Err Short → IsFront (b ∷ bytes)
short_plain b bytes fits (Err d) was h =
    let no : op_at (b ∷ bytes) ≡ Err Short = was ∙ cc h in
    let f = reads_op.short (b ∷ bytes) fits no in
    let m = op_missing (b ∷ bytes) no f.0 f.1 f.2 in
    (m.0, m.1, plain_insn f.1, unlocked {bytes = b ∷ (bytes ++ m.0 ∷ m.1)} m.2)
short_plain b bytes fits (Ok p) was h = absurd (cc h)

pub short_is : (bytes : List ℕ) → IsBytes bytes → insn_at bytes ≡ Err Short → IsShort bytes
short_is [] fits h = inl (0x90, [], plain_insn op.Nop, unlocked op_nop)
short_is (b ∷ bytes) fits h =
    elim (is_f0 b) [
      | inl is ↦ inr (subst (λ (z : ℕ). IsLockedFront (z ∷ bytes)) (sym is) (short_f0 bytes fits.1 (op_at bytes) refl
          (sym (insn_f0 bytes) ∙ ap (λ (z : ℕ). insn_at (z ∷ bytes)) (sym is) ∙ h)))
      | inr n ↦ inl (short_plain b bytes fits (op_at (b ∷ bytes)) refl (sym (insn_plain b bytes n) ∙ h))
    ]

-- ---- LockNotAllowed is for F0 in front of an instruction that is not lockable

pub is_lock_fault : (bytes : List ℕ) → IsLockFault bytes → insn_at bytes ≡ Err LockNotAllowed
is_lock_fault bytes h = ap insn_at h.5 ∙ insn_f0 (h.0 ++ h.1)
    ∙ ap (λ (z : Read Op). z >>= lock_at) (reads_op.again h.0 h.2 h.1 h.3) ∙ lock_not h.2 h.1 h.4

lock_never : {A : Type 0} (e : DecodeFault) → e ≡ LockNotAllowed → e ≡ NotInSubset → A
lock_never e p q = absurd cc

lock_f0 : (bytes : List ℕ) → IsBytes bytes → (z : Read Op) → op_at bytes ≡ z → (z >>= lock_at) ≡ Err LockNotAllowed
    → IsLockFault (0xF0 ∷ bytes)
lock_f0 bytes fits (Err d) was h =
    let is : d ≡ LockNotAllowed = cc h in
    lock_never d is (reads_op.other bytes d fits was (λ q. cc (q, is))).0
lock_f0 bytes fits (Ok p) was h =
    let f = reads_op.found bytes p.0 p.1 fits was in
    (f.0, p.1, p.0, f.1, (lock_err p.0 p.1 LockNotAllowed h).1, ap (λ (z : List ℕ). 0xF0 ∷ z) f.2)

lock_plain : {A : Type 0} (b : ℕ) (bytes : List ℕ) → IsBytes (b ∷ bytes) → (z : Read Op) → op_at (b ∷ bytes) ≡ z
    → (z >>= given plain_insn) ≡ Err LockNotAllowed → A
lock_plain b bytes fits (Err d) was h =
    let is : d ≡ LockNotAllowed = cc h in
    lock_never d is (reads_op.other (b ∷ bytes) d fits was (λ q. cc (q, is))).0
lock_plain b bytes fits (Ok p) was h = absurd (cc h)

pub lock_fault_is : (bytes : List ℕ) → IsBytes bytes → insn_at bytes ≡ Err LockNotAllowed → IsLockFault bytes
lock_fault_is [] fits h = absurd (cc (h, insn_none))
lock_fault_is (b ∷ bytes) fits h =
    elim (is_f0 b) [
      | inl is ↦ subst (λ (z : ℕ). IsLockFault (z ∷ bytes)) (sym is) (lock_f0 bytes fits.1 (op_at bytes) refl
          (sym (insn_f0 bytes) ∙ ap (λ (z : ℕ). insn_at (z ∷ bytes)) (sym is) ∙ h))
      | inr n ↦ lock_plain b bytes fits (op_at (b ∷ bytes)) refl (sym (insn_plain b bytes n) ∙ h)
    ]

-- ---- laws of the spellings

pub no_front : (s : List ℕ) (i j : Insn) (x : ℕ) (more : List ℕ) → Spells s i → Spells (s ++ x ∷ more) j → ⊥
no_front s i j x more h k =
    let same = ok_is (i, x ∷ more) (j, []) (sym (insn_again h (x ∷ more)) ∙ whole_again k) in
    not_nil [] x more (ap (λ (q : Insn × List ℕ). q.1) same)

pub one_insn : (s : List ℕ) (i j : Insn) → Spells s i → Spells s j → i ≡ j
one_insn s i j h k = ap (λ (q : Insn × List ℕ). q.0) (ok_is (i, []) (j, []) (sym (whole_again h) ∙ whole_again k))
