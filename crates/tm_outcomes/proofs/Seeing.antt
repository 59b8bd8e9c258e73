-- What a check looks at of a machine is what it looks at of each state that the machine stands for.
use Rattle.std.proofs.Common.{◌≡◌, ℕ, Bool, true, false, cond, ◌&&◌, Some, None, length, refl, sym, ap, ◌∙◌, subst}
use Rattle.std.specs.Prelude.{nat_lt, slice_index}
use Rattle.std.proofs.lemmas.Bool.{ltb-true}
use Rattle.std.proofs.lemmas.List.Elements.{All-weaker}
use Rattle.ia_regs.specs.declared.Regs.{Regs}
use Rattle.tm_condition.specs.Conditions.{Compares, Holds, StandsAt, Violates, doubleword_of, seen_of, value_of}
use Rattle.tm_condition.specs.declared.check.Check.{Check}
use Rattle.tm_condition.specs.declared.check.Check.TheVariants.{Demanded, Forbidden}
use Rattle.tm_condition.specs.declared.clause.Clause.{Clause}
use Rattle.tm_condition.specs.declared.clause.Clause.TheVariants.{Compare, Bytes}
use Rattle.tm_condition.specs.declared.item.Item.{Item}
use Rattle.tm_condition.specs.declared.item.Item.TheVariants.{Register, Memory, Number}
use Rattle.tm_core.specs.Theorem.{ShownMachine, StandsFor, machine_setting, view_at}
use Rattle.tm_model.specs.State.{seen_by}
use Rattle.tm_outcomes.specs.Outcomes.{regs_of}
use Rattle.tm_outcomes.specs.Schedules.{Situation}
use Rattle.tm_outcomes.specs.Verdicts.{seen_at}
use Rattle.tm_outcomes.proofs.Shown.{base_is}

-- a register of a core that is there
register_by : (is_core is_register : Bool) (a b : Regs) (register : ℕ) → (is_core ≡ true → a ≡ b) →
    cond (is_core && is_register) (Some (slice_index a.gpr register)) None
    ≡ cond (is_core && is_register) (Some (slice_index b.gpr register)) None
register_by true is_register a b register same =
    ap (λ (r : Regs). cond (true && is_register) (Some (slice_index r.gpr register)) None) (same refl)
register_by false is_register a b register same = refl

module _ (machine : ShownMachine) (now : Situation) (stands : StandsFor machine now.state now.doomed) where
  same_base : (core : ℕ) → nat_lt core (length machine.views) ≡ true
      → (view_at machine core).base ≡ regs_of (now.state.cores core)
  same_base core is =
      base_is (machine_setting machine) (seen_by now.state core) (now.state.cores core) (now.doomed core)
      (view_at machine core)
      (stands.each core (ltb-true core (length machine.views) is))

  same_value : (item : Item) → value_of (seen_of machine) item ≡ value_of (seen_at now.state) item
  same_value (Register core register) =
      register_by (nat_lt core (length machine.views)) (nat_lt register 8) (view_at machine core).base
      (regs_of (now.state.cores core)) register (same_base core)
      ∙ ap (λ n. cond (nat_lt core n && nat_lt register 8)
      (Some (slice_index (regs_of (now.state.cores core)).gpr register)) None) stands.same_count
  same_value (Memory address) = ap (λ memory. doubleword_of memory address) stands.same_memory
  same_value (Number number) = refl

  holds_at : (clause : Clause) → Holds (seen_of machine) clause → Holds (seen_at now.state) clause
  holds_at (Compare left comparison right) holds =
      subst (λ v. Compares comparison v (value_of (seen_at now.state) right)) (same_value left)
      (subst (λ v. Compares comparison (value_of (seen_of machine) left) v) (same_value right) holds)
  holds_at (Bytes address bytes) holds =
      subst (λ memory. StandsAt memory address bytes.items) stands.same_memory holds

  holds_of : (clause : Clause) → Holds (seen_at now.state) clause → Holds (seen_of machine) clause
  holds_of (Compare left comparison right) holds =
      subst (λ v. Compares comparison v (value_of (seen_of machine) right)) (sym (same_value left))
      (subst (λ v. Compares comparison (value_of (seen_at now.state) left) v) (sym (same_value right)) holds)
  holds_of (Bytes address bytes) holds =
      subst (λ memory. StandsAt memory address bytes.items) (sym stands.same_memory) holds

  pub violates_at : (check : Check) → Violates (seen_of machine) check → Violates (seen_at now.state) check
  violates_at (Demanded clauses) fails = λ all.
      fails (All-weaker (Holds (seen_at now.state)) (Holds (seen_of machine)) holds_of clauses.items all)
  violates_at (Forbidden clauses) all =
      All-weaker (Holds (seen_of machine)) (Holds (seen_at now.state)) holds_at clauses.items all

  pub violates_of : (check : Check) → Violates (seen_at now.state) check → Violates (seen_of machine) check
  violates_of (Demanded clauses) fails = λ all.
      fails (All-weaker (Holds (seen_of machine)) (Holds (seen_at now.state)) holds_at clauses.items all)
  violates_of (Forbidden clauses) all =
      All-weaker (Holds (seen_at now.state)) (Holds (seen_of machine)) holds_of clauses.items all
