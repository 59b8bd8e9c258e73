-- A machine that is taken back before its first step.
use Rattle.std.proofs.Common.{◌≡◌, ℕ, ◌<◌, ◌≤◌, ◌*◌, ◌^◌, ◌++◌, Bool, false, List, length, take, drop, None, sym, ap}
use Rattle.std.proofs.Common.{◌∙◌, subst}
use Rattle.std.specs.FinSet as finset
use Rattle.std.specs.Prelude.{Result}
use Rattle.ia_insn.specs.declared.fault.DecodeFault.{DecodeFault}
use Rattle.ia_insn.specs.declared.op.Insn.{Insn}
use Rattle.ia_flat.specs.declared.flat.FlatAt.{FlatAt}
use Rattle.ia_image.specs.Program.{ProgramValue as Program, opening_memory}
use Rattle.tm_model.specs.Setting.{setting_of}
use Rattle.tm_model.specs.State.{opening_state}
use Rattle.tm_sets.specs.Content.{Content, Fixed}
use Rattle.tm_core.specs.declared.cpu.Cpu.{Cpu}
use Rattle.tm_core.specs.Machine.{IsMachine, IsStart, shown_by}
use Rattle.tm_core.specs.Representation.{cpu_at}
use Rattle.tm_core.specs.Theorem.{SameMachine, ShownMachine, StandsFor}
use Rattle.tm_core.specs.Types.{Kind, Read, Write}
use Rattle.tm_core.proofs.MachineLemmas.{length-views_list, opening_machine, opening_stands, written_back}

-- the machine was shown as old; its cores were lent, and so many bytes and cores were written back
module _ (p : Program) (old : ShownMachine) (a b : Content) (code : List ℕ) (base : ℕ) (m m2 : List ℕ)
    (cpus lent cpus2 : List Cpu) (size count : ℕ)
    (shown : shown_by a code base m cpus ≡ old) (cores : length old.views ≡ length p.entries)
    (all_bytes : size ≡ length m) (same_size : length m2 ≡ length m) (memory : m2 ≡ opening_memory p)
    (all_cores : count ≡ length cpus) (lent_is : lent ≡ cpus) (same_cores : length cpus2 ≡ length lent)
    (fixed : b.fixed ≡ a.fixed)
    (starts : (i : ℕ) → i < length lent → IsStart p (cpu_at lent i).buffer.room i (cpu_at cpus2 i))
    (empty : (i : ℕ) (kind : Kind) → i < length lent → b.lines i kind ≡ finset.empty) where
  abbrev bytes_back : List ℕ
  bytes_back = take size (m2 ++ drop (length m2) m)

  abbrev cores_back : List Cpu
  cores_back = take count (cpus2 ++ drop (length cpus2) cpus)

  written : bytes_back ≡ m2
  written = written_back m m2 size same_size all_bytes

  as_many : length cpus2 ≡ length cpus
  as_many = same_cores ∙ ap length lent_is

  in_place : cores_back ≡ cpus2
  in_place = written_back cpus cpus2 count as_many all_cores

  of_program : length cpus ≡ length p.entries
  of_program = sym (length-views_list a 0 cpus) ∙ ap (λ (s : ShownMachine). length s.views) shown ∙ cores

  among_lent : (i : ℕ) → i < length p.entries → i < length lent
  among_lent i h = subst (λ n. i < n) (sym (ap length lent_is ∙ of_program)) h

  no_lines : (i : ℕ) (kind : Kind) → i < length p.entries → b.lines i kind ≡ finset.empty
  no_lines i kind h = empty i kind (among_lent i h)

  module _ (rooms : (i : ℕ) → i < length cpus → (cpu_at cpus i).buffer.room ≡ a.fixed.room Write) where
    started : (i : ℕ) → i < length p.entries → IsStart p (b.fixed.room Write) i (cpu_at cpus2 i)
    started i h =
        let room : (cpu_at lent i).buffer.room ≡ b.fixed.room Write =
        ap (λ xs. (cpu_at xs i).buffer.room) lent_is ∙ rooms i (subst (λ n. i < n) (sym of_program) h)
        ∙ ap (λ (x : Fixed). x.room Write) (sym fixed) in
        subst (λ n. IsStart p n i (cpu_at cpus2 i)) room (starts i (among_lent i h))

    pub stands_reopened : StandsFor (shown_by b code base bytes_back cores_back) (opening_state p) (λ _. None)
    stands_reopened =
        subst (λ x. StandsFor (shown_by b code base x cores_back) (opening_state p) (λ _. None)) (sym written)
        (subst (λ x. StandsFor (shown_by b code base m2 x) (opening_state p) (λ _. None)) (sym in_place)
        (opening_stands p b code base m2 cpus2 no_lines memory (as_many ∙ of_program) started))

  pub reopened : (rows : List (Result (Insn × ℕ) DecodeFault)) (lines : List FlatAt) (busy : Bool) →
      IsMachine a code base rows lines m cpus busy → IsMachine b code base rows lines bytes_back cores_back false
  reopened rows lines busy is =
      let known : length p.entries ≤ b.fixed.cores =
      subst (λ (x : Fixed). length p.entries ≤ x.cores) (sym fixed)
      (subst (λ n. n ≤ a.fixed.cores) of_program is.known) in
      let within : length m2 ≤ b.fixed.line_count * 64 =
      subst (λ (x : Fixed). length m2 ≤ x.line_count * 64) (sym fixed)
      (subst (λ n. n ≤ a.fixed.line_count * 64) (sym same_size) is.within) in
      let small : length m2 < 2 ^ 32 = subst (λ n. n < 2 ^ 32) (sym same_size) is.small in
      let some : 1 ≤ length p.entries = subst (λ n. 1 ≤ n) of_program is.some in
      let few : length p.entries ≤ 64 = subst (λ n. n ≤ 64) of_program is.few in
      subst (λ x. IsMachine b code base rows lines x cores_back false) (sym written)
      (subst (λ x. IsMachine b code base rows lines m2 x false) (sym in_place)
      (opening_machine p b code base m2 cpus2 no_lines memory (as_many ∙ of_program)
      (started (λ i h. (is.sound.held i h).same_room)) rows lines is.decoded is.lined is.told is.line_count some few
      small known within))

  pub same_reopened : SameMachine old (shown_by b code base bytes_back cores_back)
  same_reopened =
      subst (λ x. SameMachine x (shown_by b code base bytes_back cores_back)) shown
      (subst (λ x. SameMachine (shown_by a code base m cpus) (shown_by b code base x cores_back)) (sym written)
      (subst (λ x. SameMachine (shown_by a code base m cpus) (shown_by b code base m2 x)) (sym in_place)
      (record {
        rules = ap (λ n. setting_of code base n (b.fixed.room Read) (b.fixed.room Write) 0) same_size
            ∙ ap (λ (x : Fixed). setting_of code base (length m) (x.room Read) (x.room Write) 0) fixed;
        cores = length-views_list b 0 cpus2 ∙ as_many ∙ sym (length-views_list a 0 cpus);
      })))
