-- What a board's invariant gives: its history is a run with owed outcomes, and it replays to what the machine shows.
use Rattle.std.proofs.Common.{◌≡◌, ℕ, ◌<◌, ◌⊎◌, inl, inr, Bool, true, false, cond, eqb, List, length, map, ltb, [], ◌≤◌}
use Rattle.std.proofs.Common.{◌||◌, ◌+◌, Option, Some, None, refl, sym, ap, ◌∙◌, subst, arith}
use Rattle.std.proofs.lemmas.Bool.{ltb-false}
use Rattle.std.proofs.lemmas.Option.{option_and_then_some, same_Some}
use Rattle.ia_image.specs.Program.{ProgramValue as Program, code_of}
use Rattle.ia_regs.specs.declared.Regs.{Regs}
use Rattle.tm_core.specs.declared.limits.Limits.{Limits}
use Rattle.tm_model.specs.Isolated.{Body, isolated_body}
use Rattle.tm_model.specs.Runs.{AreOwed, doomed_at_end}
use Rattle.tm_model.specs.Setting.{Setting, program_setting}
use Rattle.tm_model.specs.Shown.{View, view_between, view_inside, view_midway, view_of, view_of_body, view_outside}
use Rattle.tm_model.specs.State.{Closed, Core, Halted, Midway, Opened, State, opening_state, seen_by}
use Rattle.tm_model.specs.Steps.{run}
use Rattle.tm_core.specs.Theorem.{SameMachine, ShownMachine as Machine, StandsFor, machine_setting as machine_setting}
use Rattle.tm_core.specs.Theorem.{view_at}
use Rattle.tm_hist.specs.Board.{IsBoard, IsHistory, ShownBoard, bad_limit, board_setting, stop_shown}
use Rattle.tm_hist.specs.History.{pair_of}
use Rattle.tm_hist.specs.Replay.{IsRefused, IsReplay, Replays, cores_of}
use Rattle.tm_hist.specs.Serial.{IsStuck, base_of, core_at, stop_of}
use Rattle.tm_hist.proofs.RunFronts.{none_pending, run_front, same_run}
use Rattle.tm_hist.proofs.StopsDrained.{stopped_drained}
use Rattle.tm_model.specs.declared.outcome.Outcome.{Outcome}
use Rattle.tm_model.specs.declared.outcome.CoreState.{CoreState}
use Rattle.tm_model.specs.declared.outcome.CoreState.TheVariants.{Running, Condemned, Stopped as AtStop}
use Rattle.tm_rule.specs.declared.kinds.Stop.{Stop}
use Rattle.tm_rule.specs.declared.kinds.OutsideResult.{OutsideResult}
use Rattle.tm_rule.specs.declared.kinds.OutsideResult.TheVariants.{Goes, Begins, Stops}
use Rattle.tm_hist.specs.declared.pair.Pair.{Pair}
use Rattle.tm_hist.specs.declared.replay.Serial.{Serial}
use Rattle.tm_hist.specs.declared.replay.SerialFault.{SerialFault}
use Rattle.tm_hist.specs.declared.replay.SerialFault.TheVariants.{NotARun, NoMemory}

pub is_history : (b : ShownBoard) (capacity : ℕ) → IsBoard b capacity → IsHistory b
is_history b capacity h =
    let same : machine_setting h.start ≡ board_setting b = h.rules in
    record {
      rules = h.is_run.same.rules ∙ h.rules;
      cores = h.is_run.same.cores ∙ h.cores;
      end = h.is_run.takes.last;
      is_run = subst (λ (k : Setting). run k (opening_state b.program) b.history ≡ Some h.is_run.takes.last) same
          h.is_run.takes.is_run;
      are_owed = subst (λ (k : Setting). AreOwed k (opening_state b.program) (λ _. None) b.history) same
          h.is_run.takes.are_owed;
      stands = subst (λ (k : Setting). StandsFor b.machine h.is_run.takes.last
          (doomed_at_end k (opening_state b.program) (λ _. None) b.history)) same h.is_run.takes.stands;
    }

-- where none may be pending, none is
pub none_now : (b : ShownBoard) (capacity : ℕ) → (h : IsBoard b capacity) → b.machine.store_buffer ≡ 0 → (j : ℕ)
    → [] ≡ h.is_run.takes.last.pending j
none_now b capacity h off =
    none_pending (machine_setting h.start) b.program b.history h.is_run.takes.last
    (sym (ap (λ (k : Setting). k.store_buffer) h.is_run.same.rules) ∙ off) h.is_run.takes.is_run

-- a core that has stopped has none pending
pub drained_now : (b : ShownBoard) (capacity : ℕ) → (h : IsBoard b capacity) → (j : ℕ) (why : Stop)
    → stop_of (h.is_run.takes.last.cores j) ≡ Some why → h.is_run.takes.last.pending j ≡ []
drained_now b capacity h =
    stopped_drained (machine_setting h.start) b.program b.history h.is_run.takes.last h.is_run.takes.is_run

or_false : (a b : Bool) → (a || b) ≡ false → b ≡ false
or_false true b e = cc
or_false false b e = e

-- a board before its first step
pub new_board : (p q : Program) (l : Limits) (limit : ℕ) (made : List Pair) (capacity : ℕ) (machine : Machine)
    → q ≡ p → made ≡ [] →
    StandsFor machine (opening_state p) (λ _. None)
    → machine_setting machine ≡ program_setting p l.read_lines l.write_lines l.stores
    → length machine.views ≡ length p.entries
    → bad_limit limit ≡ false → limit ≤ capacity →
    IsBoard (record { program = q; limits = l; limit = limit; history = map pair_of made; machine = machine }) capacity
new_board p q l limit made capacity machine same none stands rules cores good room =
    subst (λ (x : Program).
    IsBoard (record { program = x; limits = l; limit = limit; history = map pair_of made; machine = machine }) capacity)
    (sym same)
    (subst (λ (x : List Pair).
    IsBoard (record { program = p; limits = l; limit = limit; history = map pair_of x; machine = machine }) capacity)
    (sym none) (record {
      start = machine;
      rules = rules;
      cores = cores;
      is_run = record {
        same = record { rules = refl; cores = refl };
        takes = record { are_owed = tt; last = opening_state p; is_run = refl; stands = stands };
      };
      few = omega arith;
      limited = ltb-false 16777216 limit (or_false (ltb limit 1) (ltb 16777216 limit) good);
      room = room;
    }))

-- the same of one that was taken back there
pub restarted : (p : Program) (l : Limits) (limit before after : ℕ) (history : List (ℕ × Outcome)) (old new : Machine)
    (made : List Pair) →
    IsBoard (record { program = p; limits = l; limit = limit; history = history; machine = old }) before →
    after ≡ before → made ≡ [] → SameMachine old new → StandsFor new (opening_state p) (λ _. None) →
    IsBoard (record { program = p; limits = l; limit = limit; history = map pair_of made; machine = new }) after
restarted p l limit before after history old new made h room none same stands =
    subst (λ (x : List Pair).
    IsBoard (record { program = p; limits = l; limit = limit; history = map pair_of x; machine = new }) after)
    (sym none) (record {
      start = new;
      rules = same.rules ∙ h.is_run.same.rules ∙ h.rules;
      cores = same.cores ∙ h.is_run.same.cores ∙ h.cores;
      is_run = record {
        same = record { rules = refl; cores = refl };
        takes = record { are_owed = tt; last = opening_state p; is_run = refl; stands = stands };
      };
      few = omega arith;
      limited = h.limited;
      room = subst (λ n. limit ≤ n) (sym room) h.room;
    })

-- the run by the rules that ask for no limits
free_run : (b : ShownBoard)
    → (h : IsHistory b)
    → run (program_setting b.program 0 0 b.limits.stores) (opening_state b.program) b.history ≡ Some h.end
free_run b h = sym (same_run (code_of b.program) b.program.base b.program.mem_size b.limits.read_lines
    b.limits.write_lines b.limits.stores b.history (opening_state b.program)) ∙ h.is_run

-- what a core shows of its registers before a transaction, and of its stop
record Shows (x : Core) (v : View) : Type 0 where
  pub base : base_of x ≡ v.base
  pub stop : stop_of x ≡ stop_shown v.mode

plain : (x : Core) (mode : CoreState) (s : Regs) (v : View) → base_of x ≡ s → stop_of x ≡ stop_shown mode
    → view_outside mode s ≡ v → Shows x v
plain x mode s v base stop e =
    record { base = base ∙ ap (λ (u : View). u.base) e; stop = stop ∙ ap (λ (u : View). stop_shown u.mode) e }

opened : (s : Regs) (n : ℕ) (b : Body) (v : View) → view_inside s b ≡ Some v → Shows (Opened s n) v
opened s n b v =
    elim (eqb b.depth 0) as (λ t. cond t None (Some (view_of_body s b)) ≡ Some v → Shows (Opened s n) v) [
      | true ↦ λ e. cc
      | false ↦ λ e. let same : view_of_body s b ≡ v = same_Some (view_of_body s b) v e in
          record { base = ap (λ (u : View). u.base) same; stop = ap (λ (u : View). stop_shown u.mode) same }
    ]

midway : (s : Regs) (value : ℕ) (o : OutsideResult) (v : View) → view_midway s value o ≡ Some v
    → Shows (Midway s value) v
midway s value (Goes t w) v e = let same : view_between s value ≡ v = same_Some (view_between s value) v e in
    record { base = ap (λ (u : View). u.base) same; stop = ap (λ (u : View). stop_shown u.mode) same }
midway s value (Begins t) v e = cc
midway s value (Stops x) v e = cc

shows : (k : Setting) (m : List ℕ) (x : Core) (dx : Option ℕ) (v : View) → view_of k m x dx ≡ Some v → Shows x v
shows k m (Closed s) None v e = plain (Closed s) Running s v refl refl (same_Some (view_outside Running s) v e)
shows k m (Closed s) (Some depth) v e = cc
shows k m (Midway s value) None v e = midway s value (k.outside s value) v e
shows k m (Midway s value) (Some depth) v e = cc
shows k m (Halted s y) None v e =
    plain (Halted s y) (AtStop y) s v refl refl (same_Some (view_outside (AtStop y) s) v e)
shows k m (Halted s y) (Some depth) v e = cc
shows k m (Opened s n) (Some depth) v e =
    plain (Opened s n) (Condemned depth) s v refl refl (same_Some (view_outside (Condemned depth) s) v e)
shows k m (Opened s n) None v e =
    option_and_then_some (view_inside s) (isolated_body k s m n) v e (λ b is e2. opened s n b v e2)

pub replays : (b : ShownBoard) (s : Serial) → IsHistory b → IsReplay b.program b.limits.stores b.history s → Replays b s
replays b s h r =
    let same : r.end ≡ h.end = same_Some r.end h.end (sym r.ran ∙ free_run b h) in
    let size : length (cores_of s) ≡ length b.machine.views =
    r.holds.count ∙ ap (λ (x : State). x.count) same ∙ sym h.stands.same_count in
    let each : (j : ℕ) → j < length b.machine.views → Shows (core_at (cores_of s) j) (view_at b.machine j) = λ j below.
    let within : j < length (cores_of s) = omega arith in
    let core : core_at (cores_of s) j ≡ h.end.cores j = r.holds.each j within ∙ ap (λ (x : State). x.cores j) same in
    subst (λ (x : Core). Shows x (view_at b.machine j)) (sym core)
    (shows (machine_setting b.machine) (seen_by h.end j) (h.end.cores j)
    (doomed_at_end (board_setting b) (opening_state b.program) (λ _. None) b.history j) (view_at b.machine j)
    (h.stands.each j below)) in
    record {
      memory = r.holds.memory ∙ ap (λ (x : State). x.memory) same ∙ sym h.stands.same_memory;
      count = size;
      regs = λ j below. (each j below).base;
      stops = λ j below. (each j below).stop;
      pending = λ j below.
          let within : j < length (cores_of s) = omega arith in
          r.holds.pending j within ∙ ap (λ (x : State). x.pending j) same ∙ sym (h.stands.same_pending j below);
    }

never_stuck : (b : ShownBoard) (i : ℕ) → IsHistory b
    → IsStuck (program_setting b.program 0 0 b.limits.stores) (opening_state b.program) b.history i → ⊥
never_stuck b i h stuck =
    run_front (program_setting b.program 0 0 b.limits.stores) b.history (i + 1) (opening_state b.program) h.end
    (free_run b h) stuck.stuck

pub never_refused : (b : ShownBoard) (fault : SerialFault) → IsHistory b
    → (fault ≡ NoMemory) ⊎ IsRefused b.program b.limits.stores b.history fault → fault ≡ NoMemory
never_refused b fault h (inl same) = same
never_refused b (NotARun i) h (inr refused) = absurd (never_stuck b i h refused)
never_refused b NoMemory h (inr refused) = refl

-- the same of a program, limits and a history that are the board's
pub replays_at : (b : ShownBoard) (p : Program) (l : Limits) (history : List (ℕ × Outcome)) (s : Serial) → IsHistory b
    → p ≡ b.program → l ≡ b.limits → history ≡ b.history → IsReplay p l.stores history s → Replays b s
replays_at b p l history s h same_program same_limits same_history r =
    replays b s h
    (subst (λ (x : Program). IsReplay x b.limits.stores b.history s) same_program
    (subst (λ (x : Limits). IsReplay p x.stores b.history s) same_limits
    (subst (λ (x : List (ℕ × Outcome)). IsReplay p l.stores x s) same_history r)))

pub never_refused_at : (b : ShownBoard) (p : Program) (l : Limits) (history : List (ℕ × Outcome)) (fault : SerialFault)
    → IsHistory b → p ≡ b.program → l ≡ b.limits → history ≡ b.history →
    (fault ≡ NoMemory) ⊎ IsRefused p l.stores history fault → fault ≡ NoMemory
never_refused_at b p l history fault h same_program same_limits same_history r =
    never_refused b fault h
    (subst (λ (x : Program). (fault ≡ NoMemory) ⊎ IsRefused x b.limits.stores b.history fault) same_program
    (subst (λ (x : Limits). (fault ≡ NoMemory) ⊎ IsRefused p x.stores b.history fault) same_limits
    (subst (λ (x : List (ℕ × Outcome)). (fault ≡ NoMemory) ⊎ IsRefused p l.stores x fault) same_history r)))
