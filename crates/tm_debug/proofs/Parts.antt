-- Texts that are written in parts, and runs that grow by a step.
use Rattle.std.proofs.Common.{◌≡◌, ℕ, zero, suc, ◌+◌, ◌-◌, ◌%◌, ◌^◌, ◌<◌, ◌==◌, List, ◌++◌, drop, refl, sym, ap, ◌∙◌}
use Rattle.std.proofs.Common.{arith, inr, subst}
use Rattle.std.specs.Prelude.{Result, Ok, Err, IsErr, OnErr, OnOk}
use Rattle.ia_text.specs.Listing.{shown_bytes}
use Rattle.debug_command.specs.Places.{labelled_line}
use Rattle.symbols.specs.declared.symbol.Symbol.{Symbol}
use Rattle.text_out.specs.Writing.{Device, Stopped, Writes, Wrote}
use Rattle.text_out.proofs.Writing.{writes_stopped, writes_then, wrote_none, wrote_then}
use Rattle.tm_model.specs.declared.outcome.Pick.{Pick}
use Rattle.tm_debug.specs.declared.state.RunCheck.{RunCheck}
use Rattle.tm_debug.specs.declared.state.RunCheck.TheVariants.{AllStopped, AtBreakpoint, Full, Go, NoCore, PlanEnded}
use Rattle.tm_debug.specs.declared.state.Way.{Way}
use Rattle.tm_debug.specs.Session.{GoAnswer, IsRunOf, NextLine, RunBroken, RunWhole, SessionValue, run_check}
use Rattle.tm_debug.specs.Session.{run_ending, some_lines}

pub no_lines : (d : Device) (labels : List Symbol) (n : ℕ) (code : List ℕ) (at : ℕ) → n ≡ 0
    → Wrote d d (some_lines labels n code at)
unfolding some_lines
no_lines d labels zero code at e = wrote_none d
no_lines d labels (suc n) code at e = absurd (omega arith)

lines_more : (labels : List Symbol) (n : ℕ) (code : List ℕ) (at : ℕ) → 0 < n
    → labelled_line labels code at
    ++ some_lines labels (n - 1) (drop (shown_bytes code) code) ((at + shown_bytes code) % 2 ^ 32)
    ≡ some_lines labels n code at
unfolding some_lines
lines_more labels zero code at h = absurd (omega arith)
lines_more labels (suc n) code at h =
    let same : suc n - 1 ≡ n = omega arith in
    ap (λ m. labelled_line labels code at
    ++ some_lines labels m (drop (shown_bytes code) code) ((at + shown_bytes code) % 2 ^ 32)) same

pub lines_stopped : {T E : Type 0} {a b : Device} (labels : List Symbol) (n : ℕ) (code : List ℕ) (at : ℕ)
    (r : Result T E) → 0 < n → IsErr r → Stopped a b (labelled_line labels code at)
    → Writes a b (some_lines labels n code at) r
lines_stopped {T} {E} {a} {b} labels n code at r h failed stopped =
    subst (λ (text : List ℕ). Writes a b text r) (lines_more labels n code at h)
    (writes_stopped (some_lines labels (n - 1) (drop (shown_bytes code) code) ((at + shown_bytes code) % 2 ^ 32))
    r failed stopped)

pub lines_then : {T E : Type 0} {a b : Device} (c : Device) (labels : List Symbol) (n m shown : ℕ) (code rest : List ℕ)
    (at next : ℕ) (r : Result T E) → 0 < n → m ≡ n - 1 → shown ≡ shown_bytes code →
    rest ≡ drop shown code → next ≡ (at + shown) % 2 ^ 32 → Wrote a b (labelled_line labels code at)
    → Writes b c (some_lines labels m rest next) r → Writes a c (some_lines labels n code at) r
lines_then {T} {E} {a} {b} c labels n m shown code rest at next r h em es er en wrote writes =
    let same :
    some_lines labels m rest next
    ≡ some_lines labels (n - 1) (drop (shown_bytes code) code) ((at + shown_bytes code) % 2 ^ 32) =
    ap (λ k. some_lines labels k rest next) em
    ∙ ap (λ l. some_lines labels (n - 1) l next) (er ∙ ap (λ k. drop k code) es)
    ∙ ap (λ k. some_lines labels (n - 1) (drop (shown_bytes code) code) k) (en ∙ ap (λ k. (at + k) % 2 ^ 32) es) in
    subst (λ (text : List ℕ). Writes a c text r)
    (ap (λ l. labelled_line labels code at ++ l) same ∙ lines_more labels n code at h)
    (writes_then c (some_lines labels m rest next) r wrote writes)

-- ---- runs

abbrev pub SoFar : Way → ℕ → SessionValue → SessionValue → Device → Device → Type 0
SoFar way n p q a b = (text : List ℕ) × IsRunOf way n p text q × Wrote a b text

ran_more : (way : Way) (n : ℕ) (p q s : SessionValue) (pick : Pick) (text line : List ℕ)
    → run_check way q (n == 0) ≡ Go pick → IsRunOf way n p text q → GoAnswer q pick line s
    → IsRunOf way (n + 1) p (text ++ line) s
ran_more way n p q s pick text line turn ran go =
    let more : IsRunOf way (suc n) p (text ++ line) s = record {
      before = q;
      lines = text;
      pick = pick;
      outcome = go.0;
      steps_before = ran;
      goes_on = turn;
      step = go.1;
      line = line;
      tells = go.2;
      whole = refl;
    } in
    let same : suc n ≡ n + 1 = omega arith in
    subst (λ (k : ℕ). IsRunOf way k p (text ++ line) s) same more

pub steps_more : {a b c : Device} (way : Way) (n : ℕ) (p q s : SessionValue) (pick : Pick)
    → run_check way q (n == 0) ≡ Go pick → SoFar way n p q a b
    → (line : List ℕ) × GoAnswer q pick line s × Wrote b c line → SoFar way (n + 1) p s a c
steps_more way n p q s pick turn so_far told =
    (so_far.0 ++ told.0, ran_more way n p q s pick so_far.0 told.0 turn so_far.1 told.1, wrote_then so_far.2 told.2)

pub on_err : {T E : Type 0} (r : Result T E) (P : Type 0) → P → OnErr r P
on_err (Ok x) P h = tt
on_err (Err e) P h = h

-- the next line was not written whole
next_broken : {a b c : Device} (way : Way) (count n : ℕ) (p q s : SessionValue) (turn : RunCheck) (line : List ℕ)
    → n < count → turn ≡ run_check way q (n == 0) → NextLine turn q line s → SoFar way n p q a b → Stopped b c line
    → RunBroken way count p a c s
next_broken {a} {b} {c} way count n p q s turn line below same next so_far stopped = record {
  count = n;
  below = below;
  lines = so_far.0;
  before = q;
  ran = so_far.1;
  between = b;
  wrote = so_far.2;
  last = line;
  next_line = subst (λ (t : RunCheck). NextLine t q line s) same next;
  stopped = stopped;
}

-- the line of a step was not written whole
pub step_broken : {a b c : Device} (way : Way) (count n : ℕ) (p q s : SessionValue) (pick : Pick) → n < count
    → run_check way q (n == 0) ≡ Go pick → SoFar way n p q a b
    → (line : List ℕ) × GoAnswer q pick line s × Stopped b c line → RunBroken way count p a c s
step_broken way count n p q s pick below turn so_far told =
    next_broken way count n p q s (Go pick) told.0 below (sym turn) told.1 so_far told.2

ending_line : (turn : RunCheck) (q : SessionValue) → ((pick : Pick) → turn ≡ Go pick → ⊥)
    → NextLine turn q (run_ending q turn) q
ending_line AllStopped q ends = (refl, refl)
ending_line PlanEnded q ends = (refl, refl)
ending_line (NoCore number) q ends = (refl, refl)
ending_line Full q ends = (refl, refl)
ending_line (AtBreakpoint core address) q ends = (refl, refl)
ending_line (Go pick) q ends = absurd (ends pick refl)

-- a test ends the run
pub run_ended : {E : Type 0} (a b c : Device) (way : Way) (count n : ℕ) (p q : SessionValue) (turn : RunCheck)
    (r : Result (Unit {0}) E) → n < count → turn ≡ run_check way q (n == 0) → ((pick : Pick) → turn ≡ Go pick → ⊥)
    → SoFar way n p q a b → Writes b c (run_ending q turn) r →
    OnOk r ((text : List ℕ) × RunWhole way count p text q × Wrote a c text) × OnErr r (RunBroken way count p a c q)
run_ended a b c way count n p q turn (Ok done) below same ends so_far writes = (
  (
    so_far.0 ++ run_ending q turn,
    record {
      count = n;
      lines = so_far.0;
      tail = run_ending q turn;
      ran = so_far.1;
      end = inr (below, ap (λ t. run_ending q t) same, λ pick e. ends pick (same ∙ e));
      whole = refl;
    },
    wrote_then so_far.2 writes,
  ),
  tt,
)
run_ended a b c way count n p q turn (Err fault) below same ends so_far writes = (
  tt,
  next_broken way count n p q q turn (run_ending q turn) below same (ending_line turn q ends) so_far writes,
)
