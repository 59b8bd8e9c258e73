-- Forms are read exactly.
use Rattle.std.proofs.Common.{◌≡◌, ◌≢◌, ℕ, zero, suc, ◌^◌, ◌<◌, Bool, true, false, cond, List, [], ◌∷◌, ◌++◌, Option}
use Rattle.std.proofs.Common.{Some, None, Err, refl, sym, ap, subst, ◌∙◌, arith}
use Rattle.std.specs.Prelude.{◌||◌, ◌==◌, is_some}
use Rattle.std.specs.Int.{w16, w32}
use Rattle.std.proofs.lemmas.Bool.{eqb-true, eqb-false}
use Rattle.ia_word.specs.Bytes.{sign_extended}
use Rattle.ia_insn.specs.declared.fault.DecodeFault.TheVariants.{Short, NotInSubset}
use Rattle.ia_insn.specs.declared.op.Op.{Op}
use Rattle.ia_insn.specs.declared.operand.Mem.{Mem}
use Rattle.ia_insn.specs.declared.operand.Operand.{Operand}
use Rattle.ia_insn.specs.Operands.{Head, head_of, SpellsMem, SpellsOperand}
use Rattle.ia_insn.specs.Form.{Tail, done, ib, ibs, iw, id, Form, none, plain, modrm, group, r_memory, SpellsTail}
use Rattle.ia_insn.specs.Form.{nothing, byte, signed_byte, two_bytes, four_bytes, SpellsForm, alone, operand, chosen}
use Rattle.ia_insn.specs.Form.{place}
use Rattle.ia_insn.specs.Reading.{◌>>=◌, byte_at, word_at, long_at, signed_at, mem_at, operand_at, head_at, modrm_at}
use Rattle.ia_insn.specs.Reading.{tail_at, chosen_at, form_at}
use Rattle.ia_insn.proofs.Exact.{Exact, Exact-same, Then, Exact-then, Made, Exact-made, Exact-nothing, given}
use Rattle.ia_insn.proofs.Parts.{IsByte, exact_byte, IsNumber, exact_word, exact_long}
use Rattle.ia_insn.proofs.Operands.{exact_signed, exact_mem, exact_operand}
use Rattle.ia_insn.proofs.Refusing.{Reads, Reads-exact, Reads-same, Reads-none, Reads-if, Reads-then}

-- ---- immediates

done_from : {op : Op} {s : List ℕ} {i : Op} → SpellsTail (done op) s i → (s ≡ []) × (i ≡ op)
done_from nothing = (refl, refl)

ib_from : {f : ℕ → Op} {s : List ℕ} {i : Op} → SpellsTail (ib f) s i → Made IsByte f s i
ib_from (byte {b = b} h) = record { value = b; spelt = (h, refl); is = refl }

ibs_from : {f : ℕ → Op} {s : List ℕ} {i : Op} → SpellsTail (ibs f) s i → Made (Made IsByte sign_extended) f s i
ibs_from (signed_byte {b = b} h) =
    record { value = sign_extended b; spelt = record { value = b; spelt = (h, refl); is = refl }; is = refl }

iw_from : {f : ℕ → Op} {s : List ℕ} {i : Op} → SpellsTail (iw f) s i → Made (IsNumber w16 (2 ^ 16)) f s i
iw_from (two_bytes {n = n} h) = record { value = n; spelt = (h, refl); is = refl }

id_from : {f : ℕ → Op} {s : List ℕ} {i : Op} → SpellsTail (id f) s i → Made (IsNumber w32 (2 ^ 32)) f s i
id_from (four_bytes {n = n} h) = record { value = n; spelt = (h, refl); is = refl }

pub exact_tail : (t : Tail) → Exact (SpellsTail t) (tail_at t)
exact_tail (done op) = Exact-same (λ s i h. rw (h.0, h.1) nothing) (λ s i h. done_from h) (Exact-nothing op)
exact_tail (ib f) = Exact-same (λ s i h. rw (h.is, h.spelt.1) (byte h.spelt.0)) (λ s i h. ib_from h)
    (Exact-made IsByte f byte_at exact_byte)
exact_tail (ibs f) = Exact-same (λ s i h. rw (h.is, h.spelt.is, h.spelt.spelt.1) (signed_byte h.spelt.spelt.0))
    (λ s i h. ibs_from h) (Exact-made (Made IsByte sign_extended) f signed_at exact_signed)
exact_tail (iw f) = Exact-same (λ s i h. rw (h.is, h.spelt.1) (two_bytes h.spelt.0)) (λ s i h. iw_from h)
    (Exact-made (IsNumber w16 (2 ^ 16)) f word_at exact_word)
exact_tail (id f) = Exact-same (λ s i h. rw (h.is, h.spelt.1) (four_bytes h.spelt.0)) (λ s i h. id_from h)
    (Exact-made (IsNumber w32 (2 ^ 32)) f long_at exact_long)

-- ---- ModRM

abbrev IsHead : List ℕ → Head → Type 0
IsHead = Made IsByte head_of

exact_head : Exact IsHead head_at
unfolding head_at
exact_head = Exact-made IsByte head_of byte_at exact_byte

head_low : {s : List ℕ} {h : Head} → IsHead s h → h.mode < 4
head_low x = let lt : x.value < 256 = x.spelt.0 in subst (λ (h : Head). h.mode < 4) (sym x.is) (omega arith)

abbrev IsOperand : Head → List ℕ → ℕ × Operand → Type 0
IsOperand h = Made (SpellsOperand h) (λ m. (h.reg, m))

exact_modrm : Exact (Then IsHead IsOperand) modrm_at
unfolding modrm_at
exact_modrm = Exact-then IsHead IsOperand head_at (λ h bytes. operand_at h bytes >>= given (λ m. (h.reg, m))) exact_head
    (λ s h x. Exact-made (SpellsOperand h) (λ m. (h.reg, m)) (operand_at h) (exact_operand h (head_low x)))

-- ---- forms

-- some ModRM byte is allowed
abbrev any_below : ℕ → (ℕ → Bool) → Bool
any_below zero p = false
any_below (suc n) p = p n || any_below n p

any_step : (n : ℕ) (p : ℕ → Bool) (t : Bool) → p n ≡ t → (t || any_below n p) ≡ true
    → (any_below n p ≡ true → (b : ℕ) × (b < n) × (p b ≡ true)) → (b : ℕ) × (b < suc n) × (p b ≡ true)
any_step n p true was e below = (n, omega arith, was)
any_step n p false was e below = let f = below e in (f.0, omega (arith, f.1), f.2)

any_below-true : (n : ℕ) (p : ℕ → Bool) → any_below n p ≡ true → (b : ℕ) × (b < n) × (p b ≡ true)
any_below-true zero p e = absurd cc
any_below-true (suc n) p e = any_step n p (p n) refl e (any_below-true n p)

abbrev pub live : Form → Bool
live (group next) = any_below 256 (λ b. is_some (next (head_of b)))
live _ = true

some_of : {A : Type 0} (o : Option A) → is_some o ≡ true → (x : A) × (o ≡ Some x)
some_of (Some x) e = (x, refl)
some_of None e = absurd cc

none_never : (s : List ℕ) (i : Op) → SpellsForm none s i → ⊥
none_never s i h = elim h [ ]

plain_from : {t : Tail} {s : List ℕ} {i : Op} → SpellsForm (plain t) s i → SpellsTail t s i
plain_from (alone h) = h

-- a ModRM operand beside the reg field
abbrev IsModrm : (ℕ → Operand → Tail) → List ℕ → Op → Type 0
IsModrm f = Then (Then IsHead IsOperand) (λ p. SpellsTail (f p.0 p.1))

modrm_from : {f : ℕ → Operand → Tail} {s : List ℕ} {i : Op} → SpellsForm (modrm f) s i → IsModrm f s i
modrm_from (operand {b = b} {m = m} {x = x} {y = y} lt o t) = record {
  value = ((head_of b).reg, m);
  front = b ∷ x;
  back = y;
  first = record {
    value = head_of b;
    front = b ∷ [];
    back = x;
    first = record { value = b; spelt = (lt, refl); is = refl };
    second = record { value = m; spelt = o; is = refl };
    parts = refl;
  };
  second = t;
  parts = refl;
}

modrm_made : (f : ℕ → Operand → Tail) (b : ℕ) (h : Head) (p : ℕ × Operand) (m : Operand) (x y : List ℕ) (i : Op)
    → b < 256 → h ≡ head_of b → SpellsOperand h x m → p ≡ (h.reg, m) → SpellsTail (f p.0 p.1) y i
    → SpellsForm (modrm f) (b ∷ (x ++ y)) i
modrm_made f b h p m x y i lt e o q t =
    let t2 : SpellsTail (f h.reg m) y i = subst (λ (z : ℕ × Operand). SpellsTail (f z.0 z.1) y i) q t in
    operand {f = f} lt (subst (λ (z : Head). SpellsOperand z x m) e o)
    (subst (λ (z : Head). SpellsTail (f z.reg m) y i) e t2)

modrm_to : (f : ℕ → Operand → Tail) (s : List ℕ) (i : Op) → IsModrm f s i → SpellsForm (modrm f) s i
modrm_to f s i h =
    let one = h.first.first in
    let two = h.first.second in
    let whole : s ≡ one.value ∷ (h.first.back ++ h.back) =
    h.parts ∙ ap (λ (z : List ℕ). z ++ h.back) (h.first.parts ∙ ap (λ (z : List ℕ). z ++ h.first.back) one.spelt.1) in
    rw whole
    (modrm_made f one.value h.first.value h.value two.value h.first.back h.back i one.spelt.0 one.is two.spelt
    two.is h.second)

-- a ModRM operand where the ModRM byte is allowed
abbrev IsChosen : Option (Operand → Tail) → Head → List ℕ → Op → Type 0
IsChosen None h s i = ⊥
IsChosen (Some f) h s i = Then (SpellsOperand h) (λ m. SpellsTail (f m)) s i

reads_chosen : (o : Option (Operand → Tail)) (h : Head) → h.mode < 4 → Reads (IsChosen o h) (chosen_at o h)
reads_chosen None h lt = Reads-none (λ s i x. x)
reads_chosen (Some f) h lt = Reads-exact (Exact-then (SpellsOperand h) (λ m. SpellsTail (f m)) (operand_at h)
    (λ m. tail_at (f m)) (exact_operand h lt) (λ s m x. exact_tail (f m)))

abbrev IsGroup : (Head → Option (Operand → Tail)) → List ℕ → Op → Type 0
IsGroup next = Then IsHead (λ h. IsChosen (next h) h)

chosen_some : (o : Option (Operand → Tail)) (f : Operand → Tail) (h : Head) → h.mode < 4 → o ≡ Some f
    → (s : List ℕ) × (i : Op) × IsChosen o h s i
chosen_some o f h lt e =
    let one = (exact_operand h lt).some in
    let two = (exact_tail (f one.1)).some in
    let it : IsChosen (Some f) h (one.0 ++ two.0) two.1 =
    record { value = one.1; front = one.0; back = two.0; first = one.2; second = two.2; parts = refl } in
    (one.0 ++ two.0, two.1, subst (λ (z : Option (Operand → Tail)). IsChosen z h (one.0 ++ two.0) two.1) (sym e) it)

mode_low : (b : ℕ) → b < 256 → (head_of b).mode < 4
mode_low b lt = omega arith

no_head : (bytes : List ℕ) → head_at bytes ≡ Err Short → bytes ≡ []
unfolding head_at
no_head [] e = refl
no_head (b ∷ bytes) e = absurd cc

group_live : (next : Head → Option (Operand → Tail)) → live (group next) ≡ true
    → (bytes : List ℕ) → head_at bytes ≡ Err Short → (more : List ℕ) × (i : Op) × IsGroup next (bytes ++ more) i
group_live next e bytes h =
    let w = any_below-true 256 (λ b. is_some (next (head_of b))) e in
    let f = some_of (next (head_of w.0)) w.2 in
    let c = chosen_some (next (head_of w.0)) f.0 (head_of w.0) (mode_low w.0 w.1) f.1 in (
      w.0 ∷ c.0,
      c.1,
      rw (no_head bytes h) (record {
        value = head_of w.0;
        front = w.0 ∷ [];
        back = c.0;
        first = record { value = w.0; spelt = (w.1, refl); is = refl };
        second = c.2;
        parts = refl;
      }),
    )

group_from : {next : Head → Option (Operand → Tail)} {s : List ℕ} {i : Op} → SpellsForm (group next) s i
    → IsGroup next s i
group_from {next} {i = i} (chosen {f = f} {b = b} {m = m} {x = x} {y = y} lt e o t) =
    let it : IsChosen (Some f) (head_of b) (x ++ y) i =
    record { value = m; front = x; back = y; first = o; second = t; parts = refl } in
    record {
      value = head_of b;
      front = b ∷ [];
      back = x ++ y;
      first = record { value = b; spelt = (lt, refl); is = refl };
      second = subst (λ (z : Option (Operand → Tail)). IsChosen z (head_of b) (x ++ y) i) (sym e) it;
      parts = refl;
    }

group_made : (next : Head → Option (Operand → Tail)) (b : ℕ) (o : Option (Operand → Tail)) (back : List ℕ) (i : Op)
    → b < 256 → next (head_of b) ≡ o → IsChosen o (head_of b) back i → SpellsForm (group next) (b ∷ back) i
group_made next b None back i lt e h = absurd h
group_made next b (Some f) back i lt e h = rw h.parts (chosen lt e h.first h.second)

group_to : (next : Head → Option (Operand → Tail)) (s : List ℕ) (i : Op) → IsGroup next s i
    → SpellsForm (group next) s i
group_to next s i h =
    let one = h.first in
    let whole : s ≡ one.value ∷ h.back = h.parts ∙ ap (λ (z : List ℕ). z ++ h.back) one.spelt.1 in
    rw whole
    (group_made next one.value (next (head_of one.value)) h.back i one.spelt.0 refl
    (subst (λ (z : Head). IsChosen (next z) z h.back i) one.is h.second))

-- a register and a place in memory
abbrev IsPlace : (ℕ → Mem → Op) → Head → List ℕ → Op → Type 0
IsPlace f h s i = (h.mode ≢ 3) × Made (SpellsMem h.mode h.rm) (f h.reg) s i

reads_place : (f : ℕ → Mem → Op) (h : Head) → h.mode < 4
    → Reads (IsPlace f h) (λ bytes. cond (h.mode == 3) (Err NotInSubset) (mem_at h.mode h.rm bytes >>= given (f h.reg)))
reads_place f h lt = Reads-if (h.mode == 3)
    (λ e. Reads-none (λ s i x. x.0 (eqb-true _ _ e)))
    (λ e.
    let ne : h.mode ≢ 3 = eqb-false _ _ e in
    let below : h.mode < 3 = omega arith in
    Reads-same (λ s i x. (ne, x)) (λ s i x. x.1)
    (Reads-exact (Exact-made (SpellsMem h.mode h.rm) (f h.reg) (mem_at h.mode h.rm) (exact_mem h.mode h.rm below))))

abbrev IsRMemory : (ℕ → Mem → Op) → List ℕ → Op → Type 0
IsRMemory f = Then IsHead (IsPlace f)

memory_live : (f : ℕ → Mem → Op) (bytes : List ℕ) → head_at bytes ≡ Err Short
    → (more : List ℕ) × (i : Op) × IsRMemory f (bytes ++ more) i
memory_live f bytes h =
    let m = (exact_mem 0 0 (omega arith)).some in (
      0 ∷ m.0,
      f 0 m.1,
      rw (no_head bytes h) (record {
        value = head_of 0;
        front = 0 ∷ [];
        back = m.0;
        first = record { value = 0; spelt = (omega arith, refl); is = refl };
        second = (omega arith, record { value = m.1; spelt = m.2; is = refl });
        parts = refl;
      }),
    )

memory_from : {f : ℕ → Mem → Op} {s : List ℕ} {i : Op} → SpellsForm (r_memory f) s i → IsRMemory f s i
memory_from (place {b = b} {m = m} {bytes = bytes} lt ne h) = record {
  value = head_of b;
  front = b ∷ [];
  back = bytes;
  first = record { value = b; spelt = (lt, refl); is = refl };
  second = (ne, record { value = m; spelt = h; is = refl });
  parts = refl;
}

memory_to : (f : ℕ → Mem → Op) (s : List ℕ) (i : Op) → IsRMemory f s i → SpellsForm (r_memory f) s i
memory_to f s i h =
    let one = h.first in
    let whole : s ≡ one.value ∷ h.back = h.parts ∙ ap (λ (z : List ℕ). z ++ h.back) one.spelt.1 in
    let it : IsPlace f (head_of one.value) h.back i = subst (λ (z : Head). IsPlace f z h.back i) one.is h.second in
    rw (whole, it.1.is) (place one.spelt.0 it.0 it.1.spelt)

-- ---- each form, if some bytes begin as it does

pub reads_form : (f : Form) → live f ≡ true → Reads (SpellsForm f) (form_at f)
reads_form none l = Reads-none none_never
reads_form (plain t) l = Reads-same (λ s i h. alone h) (λ s i h. plain_from h) (Reads-exact (exact_tail t))
reads_form (modrm f) l = Reads-same (modrm_to f) (λ s i h. modrm_from h)
    (Reads-exact (Exact-then (Then IsHead IsOperand) (λ p. SpellsTail (f p.0 p.1)) modrm_at (λ p. tail_at (f p.0 p.1))
    exact_modrm (λ s p x. exact_tail (f p.0 p.1))))
reads_form (group next) l = Reads-same (group_to next) (λ s i h. group_from h)
    (Reads-then IsHead (λ h. IsChosen (next h) h) head_at (λ h. chosen_at (next h) h) exact_head
    (λ s h x. reads_chosen (next h) h (head_low x)) (group_live next l))
reads_form (r_memory f) l = Reads-same (memory_to f) (λ s i h. memory_from h)
    (Reads-then IsHead (IsPlace f) head_at
    (λ h bytes. cond (h.mode == 3) (Err NotInSubset) (mem_at h.mode h.rm bytes >>= given (f h.reg))) exact_head
    (λ s h x. reads_place f h (head_low x)) (memory_live f))
