-- A run asks nothing of how many lines a transaction may touch, and the beginnings of a run are runs.
use Rattle.std.proofs.Common.{◌≡◌, ℕ, zero, suc, cond, ltb, List, [], ◌∷◌, take, Option, Some, None, refl, sym, ap, ◌∙◌}
use Rattle.std.proofs.Common.{if◌then◌else◌}
use Rattle.std.specs.Option.{option_and_then, option_map}
use Rattle.std.proofs.lemmas.Option.{same_Some}
use Rattle.ia_regs.specs.declared.Regs.{Regs}
use Rattle.tm_model.specs.Isolated.{isolated_body, longer_body}
use Rattle.tm_model.specs.Setting.{Setting, setting_of}
use Rattle.ia_image.specs.Program.{ProgramValue as Program}
use Rattle.tm_model.specs.State.{Closed, Core, Halted, Midway, Opened, Pending, State, opening_state, seen_memory}
use Rattle.tm_model.specs.Steps.{after_commit, after_step, after_step_of, must_wait, run, settled, state_with, step}
use Rattle.tm_model.specs.Steps.{store_buffered}
use Rattle.tm_model.proofs.WithoutBuffer as without
use Rattle.tm_model.proofs.WithoutBuffer.{FlatState, flat_run, of_flat}
use Rattle.tm_hist.proofs.QueueSteps.{by_rule}
use Rattle.tm_model.specs.declared.outcome.Outcome.{Outcome}
use Rattle.tm_model.specs.declared.outcome.Outcome.TheVariants.{Plain, Loaded, Stopped, Idle, Begun, Inside, Committed}
use Rattle.tm_model.specs.declared.outcome.Outcome.TheVariants.{Aborted, AbortedBy, Drained}

module _ (code : List ℕ) (base size reads writes stores : ℕ) where
  abbrev limited : Setting
  limited = setting_of code base size reads writes stores

  abbrev free : Setting
  free = setting_of code base size 0 0 stores

  same_body : (s : Regs) (m : List ℕ) (n : ℕ) → isolated_body limited s m n ≡ isolated_body free s m n
  same_body s m zero = refl
  same_body s m (suc zero) = refl
  same_body s m (suc (suc n)) = ap (option_and_then (longer_body limited m)) (same_body s m (suc n))

  same_moved : (m : List ℕ) (x : Core) (o : Outcome) → after_step_of limited m x o ≡ after_step_of free m x o
  same_moved m (Closed s) Plain = refl
  same_moved m (Closed s) Loaded = refl
  same_moved m (Midway s value) Plain = refl
  same_moved m (Midway s value) Loaded = refl
  same_moved m (Midway s value) (Stopped why) = refl
  same_moved m (Midway s value) Idle = refl
  same_moved m (Midway s value) Begun = refl
  same_moved m (Midway s value) Inside = refl
  same_moved m (Midway s value) Committed = refl
  same_moved m (Midway s value) (Aborted status) = refl
  same_moved m (Midway s value) (AbortedBy by status) = refl
  same_moved m (Midway s value) Drained = refl
  same_moved m (Closed s) (Stopped why) = refl
  same_moved m (Closed s) Idle = refl
  same_moved m (Closed s) Begun = refl
  same_moved m (Closed s) Inside = refl
  same_moved m (Closed s) Committed = refl
  same_moved m (Closed s) (Aborted status) = refl
  same_moved m (Closed s) (AbortedBy by status) = refl
  same_moved m (Closed s) Drained = refl
  same_moved m (Halted s x) Plain = refl
  same_moved m (Halted s x) Loaded = refl
  same_moved m (Halted s x) (Stopped why) = refl
  same_moved m (Halted s x) Idle = refl
  same_moved m (Halted s x) Begun = refl
  same_moved m (Halted s x) Inside = refl
  same_moved m (Halted s x) Committed = refl
  same_moved m (Halted s x) (Aborted status) = refl
  same_moved m (Halted s x) (AbortedBy by status) = refl
  same_moved m (Halted s x) Drained = refl
  same_moved m (Opened s n) Plain = refl
  same_moved m (Opened s n) Loaded = refl
  same_moved m (Opened s n) (Stopped why) = refl
  same_moved m (Opened s n) Idle = refl
  same_moved m (Opened s n) Begun = refl
  same_moved m (Opened s n) Inside = refl
  same_moved m (Opened s n) Committed = ap (option_and_then (after_commit m)) (same_body s m (suc n))
  same_moved m (Opened s n) (Aborted status) = refl
  same_moved m (Opened s n) (AbortedBy by status) = refl
  same_moved m (Opened s n) Drained = refl

  same_rule : (m : List ℕ) (p : Pending) (x : Core) (o : Outcome) → by_rule limited m p x o ≡ by_rule free m p x o
  same_rule m p x o =
      ap (λ change. if must_wait free (seen_memory m p) p x o then None
      else option_map (settled m p (store_buffered free (seen_memory m p) x o)) change)
      (same_moved (seen_memory m p) x o)

  -- with stores pending
  same_after : (m : List ℕ) (p : Pending) (x : Core) (o : Outcome) →
      after_step limited m p x o ≡ after_step free m p x o
  same_after m p x Drained = refl
  same_after m p x Plain = same_rule m p x Plain
  same_after m p x Loaded = same_rule m p x Loaded
  same_after m p x (Stopped why) = same_rule m p x (Stopped why)
  same_after m p x Idle = same_rule m p x Idle
  same_after m p x Begun = same_rule m p x Begun
  same_after m p x Inside = same_rule m p x Inside
  same_after m p x Committed = same_rule m p x Committed
  same_after m p x (Aborted status) = same_rule m p x (Aborted status)
  same_after m p x (AbortedBy by status) = same_rule m p x (AbortedBy by status)

  same_step : (a : State) (c : ℕ) (o : Outcome) → step limited a c o ≡ step free a c o
  same_step a c o =
      ap (λ x. cond (ltb c a.count) (option_map (state_with a c) x) None)
      (same_after a.memory (a.pending c) (a.cores c) o)

  same_then : (ps : List (ℕ × Outcome)) → ((a : State) → run limited a ps ≡ run free a ps) → (x : Option State) →
      option_and_then (λ b. run limited b ps) x ≡ option_and_then (λ b. run free b ps) x
  same_then ps f None = refl
  same_then ps f (Some b) = f b

  pub same_run : (ps : List (ℕ × Outcome)) (a : State) → run limited a ps ≡ run free a ps
  same_run [] a = refl
  same_run (p ∷ ps) a = same_then ps (same_run ps) (step limited a p.0 p.1)
      ∙ ap (option_and_then (λ b. run free b ps)) (same_step a p.0 p.1)

-- before the first step nothing is pending
abbrev flat_opening : Program → FlatState
flat_opening p =
    record { memory = (opening_state p).memory; count = (opening_state p).count; cores = (opening_state p).cores }

-- and so it is behind each run
none_left : (a : Option FlatState) (end : State) → option_map of_flat a ≡ Some end → (j : ℕ) → [] ≡ end.pending j
none_left None end e j = cc
none_left (Some a) end e j = ap (λ (s : State). s.pending j) (same_Some (of_flat a) end e)

pub none_pending : (k : Setting) (p : Program) (history : List (ℕ × Outcome)) (end : State) → k.store_buffer ≡ 0
    → run k (opening_state p) history ≡ Some end → (j : ℕ) → [] ≡ end.pending j
none_pending k p history end off is =
    none_left (flat_run k (flat_opening p) history) end
    (sym (without.same_run k (flat_opening p) history off) ∙ is)

front_then : (k : Setting) (ps : List (ℕ × Outcome)) (i : ℕ)
    → ((a end : State) → run k a ps ≡ Some end → run k a (take i ps) ≡ None → ⊥) →
    (x : Option State) (end : State) → option_and_then (λ b. run k b ps) x ≡ Some end
    → option_and_then (λ b. run k b (take i ps)) x ≡ None → ⊥
front_then k ps i f None end h g = cc
front_then k ps i f (Some b) end h g = f b end h g

pub run_front : (k : Setting) (ps : List (ℕ × Outcome)) (i : ℕ) (a end : State) → run k a ps ≡ Some end
    → run k a (take i ps) ≡ None → ⊥
run_front k [] zero a end h g = cc
run_front k [] (suc i) a end h g = cc
run_front k (p ∷ ps) zero a end h g = cc
run_front k (p ∷ ps) (suc i) a end h g = front_then k ps i (run_front k ps i) (step k a p.0 p.1) end h g
