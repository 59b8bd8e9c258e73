-- What is told of a step of a core of which stores may be pending: from what is told of its instruction on memory as
-- the core sees it, and from what is foreseen of the step.
use Rattle.std.proofs.Common.{◌≡◌, ℕ, ◌+◌, ◌<◌, ◌≤◌, true, List, [], ◌∷◌, length, Some, None, refl}
use Rattle.std.proofs.Common.{sym, ap, ◌∙◌, drop, get_or, subst, arith}
use Rattle.std.specs.Prelude.{All, IfSome, if◌then◌else◌}
use Rattle.std.proofs.lemmas.Bool.{eq-eqb}
use Rattle.std.proofs.lemmas.List.{append-nil, nil_from_length}
use Rattle.ia_word.specs.Width.{bytes_of}
use Rattle.tm_sets.specs.Content.{Content}
use Rattle.tm_model.specs.Access.{loaded_addresses}
use Rattle.tm_model.specs.Setting.{Setting}
use Rattle.tm_model.specs.Shown.{View}
use Rattle.tm_model.specs.State.{Core, Pending, seen_memory}
use Rattle.tm_model.specs.Steps.{must_wait, store_outside}
use Rattle.tm_core.specs.declared.ahead.Ahead.{Ahead}
use Rattle.tm_core.specs.declared.ahead.Ahead.TheVariants as ahead
use Rattle.tm_core.specs.declared.ahead.Pends.{Pends}
use Rattle.tm_core.specs.declared.cpu.Cpu.{Cpu}
use Rattle.tm_core.specs.declared.foretell.Foretold.{Foretold}
use Rattle.tm_core.specs.declared.foretell.Touches.{Touches}
use Rattle.tm_core.specs.declared.foretell.Touches.TheVariants.{Accesses, WriteSet}
use Rattle.tm_core.specs.Buffered.{setting_at}
use Rattle.tm_core.specs.ExplainedViews.{AreWithin, reach_shown, reach_told, reason_shown, touched_told}
use Rattle.tm_core.specs.Machine.{shown_by}
use Rattle.tm_core.specs.PendingStep.{PendingResult, core_like, drains, stepped_pending}
use Rattle.tm_core.specs.Previewed.{IsForetold}
use Rattle.tm_core.specs.Representation.{AreLines, cpu_at, cpu_views, parts_setting, setting_with}
use Rattle.tm_core.specs.StepRefinement.{StepResult, addresses_touched, stepped}
use Rattle.tm_core.specs.StoreBuffers.{IsAhead, IsForeseen, IsStorable}
use Rattle.tm_core.specs.Stepping.{IsSteppable}
use Rattle.tm_core.specs.Theorem.{view_at}
use Rattle.tm_core.specs.Types.{Read, Store}
use Rattle.tm_core.proofs.Aheads.{stepped_same}
use Rattle.tm_core.proofs.ExplainReach.{reach_same}
use Rattle.tm_core.proofs.ExplainReasons.{reason_same}
use Rattle.tm_core.proofs.MachineLemmas.{view_at_is}
use Rattle.tm_core.proofs.OtherCores.{length-seen}
use Rattle.tm_core.proofs.StoreBuffers.{foreseen_at, goes_is, none_buffered, oldest_of, one_buffered, waits_is}

module _ (code : List ℕ) (base most : ℕ) (m : List ℕ) (a : Content) (cpus : List Cpu) (p : Pending) (c : ℕ)
    (parts : IsSteppable code base m a cpus) (below : c < length cpus) where
  abbrev k : Setting
  k = setting_with code base (length m) a most

  abbrev own : View
  own = cpu_views a cpus c

  abbrev sees : List ℕ
  sees = seen_memory m p

  abbrev r : StepResult
  r = stepped k sees own own.mode

  abbrev core : Core
  core = core_like own own.mode

  -- of its instruction, on memory as the core sees it
  pub record TellsThere (told : Foretold) : Type 0 where
    pub touches : touched_told own.writes told.touched ≡ r.touched
    pub within : AreWithin (length m) told.touched
    pub written : told.touched ≡ WriteSet → AreLines own.writes (length m)
    pub reach : reach_told told.reach ≡ reach_shown k sees own own.mode
    pub reason : told.reason ≡ reason_shown k sees own own.mode

  same_size : length sees ≡ length m
  same_size = length-seen m p

  -- as `foretell` tells it of that memory
  pub there : (n : List ℕ) (told : Foretold) → n ≡ sees
      → touched_told own.writes told.touched ≡ (stepped (parts_setting code base (length n) a) n own own.mode).touched
      → AreWithin (length n) told.touched → (told.touched ≡ WriteSet → AreLines own.writes (length n))
      → reach_told told.reach ≡ reach_shown (parts_setting code base (length n) a) n own own.mode
      → told.reason ≡ reason_shown (parts_setting code base (length n) a) n own own.mode → TellsThere told
  there n told is touches within written reach reason =
      let size : length n ≡ length m = ap length is ∙ same_size in
      record {
        touches = touches
            ∙ (λ i. (stepped (parts_setting code base (size i) a) (is i) own own.mode).touched)
            ∙ ap (λ (x : StepResult). x.touched) (sym (stepped_same code base (length m) a most sees own own.mode));
        within = subst (λ z. AreWithin z told.touched) size within;
        written = λ all. subst (AreLines own.writes) size (written all);
        reach = reach
            ∙ (λ i. reach_shown (parts_setting code base (size i) a) (is i) own own.mode)
            ∙ sym (reach_same code base (length m) a most sees own own.mode);
        reason = reason
            ∙ (λ i. reason_shown (parts_setting code base (size i) a) (is i) own own.mode)
            ∙ sym (reason_same code base (length m) a most sees own own.mode);
      }

  module _ (told : Foretold) (tells : TellsThere told) where
    -- it is made there
    pub goes_told : IsForeseen k sees p core r ahead.Goes → IsForetold k m p own told
    goes_told foreseen = record {
      touches = tells.touches
          ∙ ap (λ (q : PendingResult). q.touched)
          (sym (goes_is k m p own None foreseen.0 (none_buffered k m p own foreseen.1)));
      within = tells.within;
      written = tells.written;
      reach = tells.reach;
      reason = tells.reason;
    }

    -- what others see of it is this
    other_touches : (touched : Touches) → touched_told own.writes touched ≡ (stepped_pending None k m p own).touched
        → AreWithin (length m) touched → (touched ≡ WriteSet → ⊥)
        → IsForetold k m p own (record { touched = touched; reach = told.reach; reason = told.reason })
    other_touches touched touches within apart = record {
      touches = touches;
      within = within;
      written = λ all. absurd (apart all);
      reach = tells.reach;
      reason = tells.reason;
    }

    -- its store is pending then
    pub stores_told : (pends : Pends) → 0 < most → IsForeseen k sees p core r (ahead.Stores pends)
        → IsForetold k m p own
        (record { touched = Accesses pends.access None; reach = told.reach; reason = told.reason })
    stores_told pends some will =
        let loads : List ℕ = loaded_addresses pends.access in
        other_touches (Accesses pends.access None)
        (append-nil (addresses_touched Read loads) ∙ ap (addresses_touched Read) (sym will.loads)
        ∙ ap (λ (q : PendingResult). q.touched)
        (sym (goes_is k m p own (Some pends.store) will.goes (one_buffered k m p own pends.store some will.store))))
        (subst (λ z. IfSome pends.access (λ load. load.addr + bytes_of load.width ≤ z)) same_size will.within, tt)
        (λ e. cc)

    -- the oldest store reaches memory in its place
    pub waits_told : (oldest : Store) → oldest ≡ get_or p 0 oldest → All (IsStorable (length m)) p → 0 < length p
        → must_wait k sees p core r.outcome ≡ true
        → IsForetold k m p own
        (record { touched = Accesses None (Some oldest); reach = told.reach; reason = told.reason })
    waits_told oldest first storable some waits =
        let was : p ≡ oldest ∷ drop 1 p = oldest_of p (drop 1 p) oldest some first refl in
        other_touches (Accesses None (Some oldest))
        (sym (ap (λ (q : PendingResult). q.touched) (waits_is k m p own waits ∙ ap (λ q. drains m q own) was)))
        (tt, (subst (IsStorable (length m)) (sym first) (storable 0 oldest some)).0) (λ e. cc)

    -- none may be pending at all
    pub direct_told : most ≡ 0 → length p ≤ most → IsForetold k m p own told
    direct_told off few =
        let none : p ≡ [] = nil_from_length p (omega (arith, off, few)) in
        record {
          touches = tells.touches
              ∙ ap (λ (q : PendingResult). q.touched)
              (sym (goes_is k m p own None (ap (λ q. must_wait k sees q core r.outcome) none)
              (ap (λ t. if t then None else store_outside k sees core r.outcome) (eq-eqb most 0 off))));
          within = tells.within;
          written = tells.written;
          reach = tells.reach;
          reason = tells.reason;
        }

  -- what is foreseen on a memory that is as the core sees it
  pub foreseen_there : (n : List ℕ) (x : Ahead) → n ≡ sees
      → IsAhead (setting_with code base (length n) a most) n p own (cpu_at cpus c).state x
      → IsForeseen k sees p core r x
  foreseen_there n x is ahead_is = foreseen_at code base most m a a cpus cpus p c parts below n x is ahead_is

-- of equal parts, as the machine shows them
pub foretold_shown : (a : Content) (code code1 : List ℕ) (base : ℕ) (m m1 : List ℕ) (cpus cpus1 : List Cpu) (most : ℕ)
    (p : Pending) (c : ℕ) (told : Foretold) → code1 ≡ code → m1 ≡ m → cpus1 ≡ cpus → c < length cpus
    → IsForetold (setting_with code1 base (length m1) a most) m1 p (cpu_views a cpus1 c) told
    → IsForetold (setting_at (shown_by a code base m cpus) most) m p (view_at (shown_by a code base m cpus) c) told
foretold_shown a code code1 base m m1 cpus cpus1 most p c told same_code same_m same_cpus below is =
    subst (λ (v : View). IsForetold (setting_with code base (length m) a most) m p v told)
    (sym (view_at_is a code base m cpus c below))
    (subst (λ l. IsForetold (setting_with l base (length m) a most) m p (cpu_views a cpus c) told) same_code
    (subst (λ l. IsForetold (setting_with code1 base (length l) a most) l p (cpu_views a cpus c) told) same_m
    (subst (λ xs. IsForetold (setting_with code1 base (length m1) a most) m1 p (cpu_views a xs c) told) same_cpus is)))
