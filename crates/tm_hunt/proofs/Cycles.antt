-- A machine that comes back to what it showed does so for ever.
use Rattle.std.proofs.Common.{◌≡◌, ℕ, zero, suc, ◌+◌, ◌<◌, ◌≤◌, List, [], ◌∷◌, ◌++◌, take, drop, length, refl, sym, ap}
use Rattle.std.proofs.Common.{◌∙◌, subst, append_assoc, append-nil, arith, Option, Some, None}
use Rattle.std.proofs.lemmas.List.{map-append, take-append-drop}
use Rattle.tm_core.specs.Theorem.{IsRun, SameMachine, ShownMachine as Machine, StandsFor, machine_setting, view_at}
use Rattle.tm_hist.specs.Board.{ShownBoard as Board}
use Rattle.tm_model.specs.Runs.{AreOwed, doomed_at_end, event_told, pick_of, picks_of}
use Rattle.tm_model.specs.Steps.{run}
use Rattle.tm_model.specs.Conflicts.{Doomed}
use Rattle.tm_model.specs.Setting.{Setting}
use Rattle.tm_model.specs.Shown.{view_of}
use Rattle.tm_model.specs.State.{State, opening_state, seen_by}
use Rattle.tm_model.specs.declared.outcome.Event.{Event}
use Rattle.tm_model.specs.declared.outcome.Outcome.{Outcome}
use Rattle.tm_model.specs.declared.outcome.Pick.{Pick}
use Rattle.tm_hunt.specs.Cycle.{AreAlike, AreRounds, CameBy, GoesRound, IsMachineOf, LeadsTo, Makes}
use Rattle.tm_hunt.specs.Chase.{IsChaseOf, SameChase}
use Rattle.tm_hunt.specs.Cycle.{again, before_loop, loop_of, trial_setting}
use Rattle.tm_hunt.specs.declared.chase.Chase.{Chase}
use Rattle.tm_hunt.specs.declared.cycle.Cycle.{Cycle}
use Rattle.tm_hunt.specs.declared.trial.Trial.{Trial}

-- ---- machines that are shown alike

pub alike_back : (shown a b : Machine) → AreAlike shown a → AreAlike shown b → AreAlike a b
alike_back shown a b one other = record {
  memory = sym one.memory ∙ other.memory;
  count = sym one.count ∙ other.count;
  each = λ core below.
      let here : core < length shown.views = (let e = one.count in omega arith) in
      sym (one.each core here) ∙ other.each core here;
  pending = λ core below.
      let here : core < length shown.views = (let e = one.count in omega arith) in
      sym (one.pending core here) ∙ other.pending core here;
}

-- they stand for the same states
stands_alike : (a b : Machine) (state : State) (doomed : Doomed) → machine_setting b ≡ machine_setting a
    → AreAlike a b →
    StandsFor b state doomed → StandsFor a state doomed
stands_alike a b state doomed rules alike stands = record {
  same_memory = alike.memory ∙ stands.same_memory;
  same_count = alike.count ∙ stands.same_count;
  each = λ core below.
      subst (λ (s : Setting). view_of s (seen_by state core) (state.cores core) (doomed core) ≡ Some (view_at a core))
      rules
      (stands.each core (let e = alike.count in omega arith) ∙ ap Some (sym (alike.each core below)));
  same_pending = λ core below.
      alike.pending core below ∙ stands.same_pending core (let e = alike.count in omega arith);
}

run_alike : (start a b : Machine) (state : State) (doomed : Doomed) (history : List (ℕ × Outcome)) → SameMachine a b →
    AreAlike a b → IsRun start b state doomed history → IsRun start a state doomed history
run_alike start a b state doomed history same alike is_run = record {
  same = record {
    rules = sym same.rules ∙ is_run.same.rules;
    cores = sym same.cores ∙ is_run.same.cores;
  };
  takes = record {
    are_owed = is_run.takes.are_owed;
    last = is_run.takes.last;
    is_run = is_run.takes.is_run;
    stands = stands_alike a b _ _ same.rules alike is_run.takes.stands;
  };
}

-- ---- a loop, so many times

histories : ℕ → List (ℕ × Outcome) → List (ℕ × Outcome)
histories zero history = []
histories (suc times) history = history ++ histories times history

picks_again : (times : ℕ) (history : List (ℕ × Outcome)) (picks : List Pick) → picks_of history ≡ picks →
    picks_of (histories times history) ≡ again times picks
unfolding histories
picks_again zero history picks told = refl
picks_again (suc times) history picks told =
    map-append pick_of history (histories times history)
    ∙ (ap (λ (l : List Pick). l ++ picks_of (histories times history)) told
    ∙ ap (λ (l : List Pick). picks ++ l) (picks_again times history picks told))

runs_again : (times : ℕ) (start a b : Machine) (state : State) (doomed : Doomed) (before picks : List Pick)
    (earlier : List (ℕ × Outcome)) → SameMachine a b → AreAlike a b → (made : Makes a b picks) →
    IsRun start a state doomed earlier → IsRun start a state doomed (earlier ++ histories times made.history)
unfolding histories
runs_again zero start a b state doomed before picks earlier same alike made is_run =
    subst (IsRun start a state doomed) (sym (append-nil earlier)) is_run
runs_again (suc times) start a b state doomed before picks earlier same alike made is_run =
    subst (IsRun start a state doomed) (append_assoc earlier made.history (histories times made.history))
    (runs_again times start a b state doomed before picks (earlier ++ made.history) same alike made
    (run_alike start a b state doomed (earlier ++ made.history) same alike
    (made.runs start state doomed earlier is_run)))

-- a run of the trial's machine is one of a board
leads : (trial : Trial) (start machine : Machine) (history : List (ℕ × Outcome)) (picks : List Pick) →
    IsMachineOf trial start → picks_of history ≡ picks →
    IsRun start machine (opening_state trial.program.now) (λ _. None) history → LeadsTo trial picks machine
leads trial start machine history picks of_trial told is_run =
    let board : Board = record {
      program = trial.program.now;
      limits = trial.limits;
      limit = trial.most;
      history = history;
      machine = machine;
    } in
    let opening : State = opening_state trial.program.now in
    let rules : machine_setting start ≡ trial_setting trial = of_trial.rules in
    let takes = is_run.takes in (
      board,
      record {
        of_trial = record { program = refl; limits = refl; most = refl };
        steps = told;
        is_run = record {
          rules = is_run.same.rules ∙ rules;
          cores = is_run.same.cores ∙ of_trial.cores;
          end = takes.last;
          is_run = subst (λ (s : Setting). run s opening history ≡ Some takes.last) rules takes.is_run;
          are_owed = subst (λ (s : Setting). AreOwed s opening (λ _. None) history) rules takes.are_owed;
          stands = subst (λ (s : Setting). StandsFor machine takes.last (doomed_at_end s opening (λ _. None) history))
              rules takes.stands;
        };
      },
      refl,
    )

pub round_and_round : (trial : Trial) (a b : Machine) (before picks : List Pick) → CameBy trial a before
    → SameMachine a b → AreAlike a b →
    Makes a b picks → (times : ℕ) → LeadsTo trial (before ++ again times picks) a
round_and_round trial a b before picks came same alike made times =
    let history : List (ℕ × Outcome) = came.history ++ histories times made.history in
    let told : picks_of history ≡ before ++ again times picks =
    map-append pick_of came.history (histories times made.history)
    ∙ (ap (λ (l : List Pick). l ++ picks_of (histories times made.history)) came.told
    ∙ ap (λ (l : List Pick). before ++ l) (picks_again times made.history picks made.told)) in
    leads trial came.start a history (before ++ again times picks) came.of_trial told
    (runs_again times came.start a b (opening_state trial.program.now) (λ _. None) before picks came.history same alike
    made came.is_run)

-- steps that lead to what a machine shows, and a loop that leads back to it
pub goes_round : (trial : Trial) (picks before steps : List Pick) (cycle : Cycle) (shown a b : Machine) →
    cycle.start + cycle.steps ≤ length picks → 0 < cycle.steps → before ≡ before_loop picks cycle
    → steps ≡ loop_of picks cycle →
    CameBy trial a before → AreAlike shown a → AreRounds a steps → Makes a b steps → SameMachine a b
    → AreAlike shown b →
    GoesRound trial picks cycle
goes_round trial picks before steps cycle shown a b within some first loop came there rounds made same back = record {
  within = within;
  some = some;
  machine = a;
  for_ever =
      subst (λ (l : List Pick). (times : ℕ) → LeadsTo trial (l ++ again times (loop_of picks cycle)) a) first
      (subst (λ (l : List Pick). (times : ℕ) → LeadsTo trial (before ++ again times l) a) loop
      (round_and_round trial a b before steps came same (alike_back shown a b there back) made));
  rounds = subst (AreRounds a) loop rounds;
}

-- ---- steps that are made

pub makes_none : (machine : Machine) → Makes machine machine []
makes_none machine = record {
  history = [];
  told = refl;
  runs = λ start state doomed earlier is_run.
      subst (IsRun start machine state doomed) (sym (append-nil earlier)) is_run;
}

pub makes_more : (first middle last : Machine) (picks more all : List Pick) → all ≡ picks ++ more
    → Makes first middle picks →
    Makes middle last more → Makes first last all
makes_more first middle last picks more all is one other = record {
  history = one.history ++ other.history;
  told =
      map-append pick_of one.history other.history
      ∙ (ap (λ (l : List Pick). l ++ picks_of other.history) one.told
      ∙ (ap (λ (l : List Pick). picks ++ l) other.told ∙ sym is));
  runs = λ start state doomed earlier is_run.
      subst (IsRun start last state doomed) (append_assoc earlier one.history other.history)
      (other.runs start state doomed (earlier ++ one.history) (one.runs start state doomed earlier is_run));
}

-- one step, by what it comes to
pub makes_one : (before after : Machine) (pick : Pick) (outcome : Outcome) → pick_of (pick.core, outcome) ≡ pick →
    ((start : Machine) (state : State) (doomed : Doomed) (earlier : List (ℕ × Outcome))
    → IsRun start before state doomed earlier →
    IsRun start after state doomed (earlier ++ (pick.core, outcome) ∷ [])) →
    Makes before after (pick ∷ [])
makes_one before after pick outcome told runs = record {
  history = (pick.core, outcome) ∷ [];
  told = ap (λ (p : Pick). p ∷ []) told;
  runs = runs;
}

pub pick_told : (pick : Pick) (outcome : Outcome) → event_told outcome ≡ pick.event
    → pick_of (pick.core, outcome) ≡ pick
pick_told pick outcome told = ap (λ (event : Option Event). record { core = pick.core; event = event }) told

-- all steps of a machine that was opened
pub came_by : (trial : Trial) (start machine : Machine) (picks : List Pick) → IsMachineOf trial start →
    StandsFor start (opening_state trial.program.now) (λ _. None) → Makes start machine picks
    → CameBy trial machine picks
came_by trial start machine picks of_trial stands made = record {
  start = start;
  of_trial = of_trial;
  history = made.history;
  told = made.told;
  is_run = made.runs start (opening_state trial.program.now) (λ _. None) [] (record {
    same = record { rules = refl; cores = refl };
    takes = record { are_owed = tt; last = opening_state trial.program.now; is_run = refl; stands = stands };
  });
}

-- ---- rounds

again_behind : (times : ℕ) (round : List Pick) → again times round ++ round ≡ round ++ again times round
again_behind zero round = sym (append-nil round)
again_behind (suc times) round =
    append_assoc round (again times round) round ∙ ap (λ (l : List Pick). round ++ l) (again_behind times round)

pub cut_again : (left front rest : List Pick) (count : ℕ) → front ≡ take count left → rest ≡ drop count left
    → front ++ rest ≡ left
cut_again left front rest count first last =
    ap (λ (l : List Pick). l ++ rest) first
    ∙ (ap (λ (l : List Pick). take count left ++ l) last ∙ take-append-drop count left)

-- one round more
pub again_more : (times : ℕ) (picks round left front rest : List Pick) → picks ≡ again times round ++ left
    → front ++ rest ≡ left →
    front ≡ round → (more : ℕ) × (picks ≡ again more round ++ rest)
again_more times picks round left front rest e split same = (
  suc times,
  e
      ∙ (ap (λ (l : List Pick). again times round ++ l) (sym split ∙ ap (λ (l : List Pick). l ++ rest) same)
      ∙ (sym (append_assoc (again times round) round rest)
      ∙ ap (λ (l : List Pick). l ++ rest) (again_behind times round))),
)

-- ---- machines of a trial

pub same_more : (a b c : Machine) → SameMachine a b → SameMachine b c → SameMachine a c
same_more a b c one other =
    record { rules = other.rules ∙ one.rules; cores = other.cores ∙ one.cores }

pub same_self : (a : Machine) → SameMachine a a
same_self a = record { rules = refl; cores = refl }

pub of_same : (trial : Trial) (a b : Machine) → IsMachineOf trial a → SameMachine a b → IsMachineOf trial b
of_same trial a b of_trial same =
    record { rules = same.rules ∙ of_trial.rules; cores = same.cores ∙ of_trial.cores }

pub chase_self : (a : Chase) → SameChase a a
chase_self a = record { slow = same_self a.slow.machine; fast = same_self a.fast.machine }

pub chase_more : (a b c : Chase) → SameChase a b → SameChase b c → SameChase a c
chase_more a b c one other = record {
  slow = same_more a.slow.machine b.slow.machine c.slow.machine one.slow other.slow;
  fast = same_more a.fast.machine b.fast.machine c.fast.machine one.fast other.fast;
}

pub chase_of : (trial : Trial) (a b : Chase) → IsChaseOf trial a → SameChase a b → IsChaseOf trial b
chase_of trial a b of_trial same = record {
  slow = of_same trial a.slow.machine b.slow.machine of_trial.slow same.slow;
  fast = of_same trial a.fast.machine b.fast.machine of_trial.fast same.fast;
}

-- for steps behind steps, and for walks of both machines
pub ruleset sames = (same_self, same_more)

pub ruleset chases = (chase_self, chase_more)
