-- What is written behind an opcode spells its form.
use Rattle.std.proofs.Common.{◌≡◌, ◌≢◌, ℕ, zero, suc, ◌<◌, Bool, true, List, [], ◌∷◌, ◌++◌, Option, Some, sym, ap}
use Rattle.std.proofs.Common.{subst, arith}
use Rattle.std.proofs.lemmas.List.{append-nil}
use Rattle.ia_insn.specs.declared.op.Op.{Op}
use Rattle.ia_insn.specs.declared.operand.Mem.{Mem}
use Rattle.ia_insn.specs.declared.operand.Operand.{Operand}
use Rattle.ia_insn.specs.declared.operand.Operand.TheVariants.{Mem as Memory}
use Rattle.ia_insn.specs.Operands.{Head, head_of, SpellsMem, SpellsOperand, memory}
use Rattle.ia_insn.specs.Form.{Tail, modrm, group, r_memory, SpellsTail, SpellsForm, operand, chosen, place}
use Rattle.ia_insn.specs.Writing.{fits_mem, fits_operand, operand_bytes}
use Rattle.ia_insn.proofs.Written.{operand_spelt}

pub form_m : {f : ℕ → Operand → Tail} {y : List ℕ} {i : Op} (wide : Bool) (reg : ℕ) (m : Operand) → reg < 8
    → fits_operand m ≡ true → SpellsTail (f reg m) y i → SpellsForm (modrm f) (operand_bytes wide reg m ++ y) i
form_m {f} {y} {i} wide reg m lr fm t =
    let w = operand_spelt wide reg m lr fm in
    let whole : operand_bytes wide reg m ++ y ≡ w.head ∷ (w.rest ++ y) = ap (λ (z : List ℕ). z ++ y) w.parts in
    subst (λ (z : List ℕ). SpellsForm (modrm f) z i) (sym whole)
    (operand {f = f} w.low w.spelt (subst (λ (r : ℕ). SpellsTail (f r m) y i) (sym w.reg_is) t))

pub form_m0 : {f : ℕ → Operand → Tail} {i : Op} (wide : Bool) (reg : ℕ) (m : Operand) → reg < 8 → fits_operand m ≡ true
    → SpellsTail (f reg m) [] i → SpellsForm (modrm f) (operand_bytes wide reg m) i
form_m0 {f} {i} wide reg m lr fm t =
    subst (λ (z : List ℕ). SpellsForm (modrm f) z i) (append-nil (operand_bytes wide reg m)) (form_m wide reg m lr fm t)

pub form_g : {next : Head → Option (Operand → Tail)} {y : List ℕ} {i : Op} (wide : Bool) (reg : ℕ) (m : Operand)
    (g : Operand → Tail) → ((h : Head) → h.reg ≡ reg → next h ≡ Some g) → reg < 8 → fits_operand m ≡ true
    → SpellsTail (g m) y i → SpellsForm (group next) (operand_bytes wide reg m ++ y) i
form_g {next} {y} {i} wide reg m g all lr fm t =
    let w = operand_spelt wide reg m lr fm in
    let whole : operand_bytes wide reg m ++ y ≡ w.head ∷ (w.rest ++ y) = ap (λ (z : List ℕ). z ++ y) w.parts in
    subst (λ (z : List ℕ). SpellsForm (group next) z i) (sym whole)
    (chosen {next = next} {f = g} w.low (all (head_of w.head) w.reg_is) w.spelt t)

pub form_g0 : {next : Head → Option (Operand → Tail)} {i : Op} (wide : Bool) (reg : ℕ) (m : Operand)
    (g : Operand → Tail) → ((h : Head) → h.reg ≡ reg → next h ≡ Some g) → reg < 8 → fits_operand m ≡ true
    → SpellsTail (g m) [] i → SpellsForm (group next) (operand_bytes wide reg m) i
form_g0 {next} {i} wide reg m g all lr fm t = subst (λ (z : List ℕ). SpellsForm (group next) z i)
    (append-nil (operand_bytes wide reg m)) (form_g wide reg m g all lr fm t)

-- a register and a place in memory
place_from : {h : Head} {s : List ℕ} {m : Mem} → SpellsOperand h s (Memory m) → (h.mode ≢ 3) × SpellsMem h.mode h.rm s m
place_from (memory ne x) = (ne, x)

pub form_p : {f : ℕ → Mem → Op} (wide : Bool) (reg : ℕ) (m : Mem) → reg < 8 → fits_mem m ≡ true
    → SpellsForm (r_memory f) (operand_bytes wide reg (Memory m)) (f reg m)
form_p {f} wide reg m lr fm =
    let w = operand_spelt wide reg (Memory m) lr fm in
    let p = place_from w.spelt in
    let it : SpellsForm (r_memory f) (w.head ∷ w.rest) (f (head_of w.head).reg m) = place w.low p.0 p.1 in
    subst (λ (z : List ℕ). SpellsForm (r_memory f) z (f reg m)) (sym w.parts)
    (subst (λ (r : ℕ). SpellsForm (r_memory f) (w.head ∷ w.rest) (f r m)) w.reg_is it)

-- a fact for each number below 8
pub below8 : (P : ℕ → Type 0) → P 0 × P 1 × P 2 × P 3 × P 4 × P 5 × P 6 × P 7 → (n : ℕ) → n < 8 → P n
below8 P p zero lt = p.0
below8 P p (suc zero) lt = p.1
below8 P p (suc (suc zero)) lt = p.2
below8 P p (suc (suc (suc zero))) lt = p.3
below8 P p (suc (suc (suc (suc zero)))) lt = p.4
below8 P p (suc (suc (suc (suc (suc zero))))) lt = p.5
below8 P p (suc (suc (suc (suc (suc (suc zero)))))) lt = p.6
below8 P p (suc (suc (suc (suc (suc (suc (suc zero))))))) lt = p.7
below8 P p (suc (suc (suc (suc (suc (suc (suc (suc n)))))))) lt = absurd (omega arith)
