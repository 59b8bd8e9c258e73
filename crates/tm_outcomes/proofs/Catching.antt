-- A schedule from a situation, and one that is no longer from where unseen steps lead from there: they meet again.
use Rattle.std.proofs.Common.{◌≡◌, ◌⊎◌, inl, inr, ℕ, ◌<◌, ◌≤◌, Bool, true, false, cond, List, [], ◌∷◌, ◌++◌, Option}
use Rattle.std.proofs.Common.{Some, None, length, refl, sym, ap, ◌∙◌, subst, arith}
use Rattle.std.specs.Prelude.{All, nat_eq, option_and_then}
use Rattle.std.proofs.lemmas.Bool.{eq-eqb, eqb-true, false≢true}
use Rattle.std.proofs.lemmas.List.Elements.{All-cons, All-head, All-nil, All-tail}
use Rattle.tm_model.specs.Setting.{Setting}
use Rattle.tm_model.specs.State.{Core, Pending}
use Rattle.tm_model.specs.declared.outcome.Event.{Event}
use Rattle.tm_model.specs.declared.outcome.Pick.{Pick}
use Rattle.tm_rule.specs.declared.kinds.Stop.{Stop}
use Rattle.tm_outcomes.specs.Schedules.{HasEnded, Situation, after_pick, after_schedule}
use Rattle.tm_outcomes.specs.Unseen.{IsUnseen, LeadUnseen, drains, is_unseen}
use Rattle.tm_outcomes.specs.Verdicts.{HasStoppedBy, StopsBy}
use Rattle.tm_outcomes.proofs.Crossing.{Crosses, drain_first, picked, same_under_any, unseen_first, unseen_leads}
use Rattle.tm_outcomes.proofs.NonePending.{core_within}
use Rattle.tm_outcomes.proofs.Somes.{same_in}

pub split : (o : Option Situation) (f : Situation → Option Situation) (end : Situation)
    → option_and_then f o ≡ Some end →
    (middle : Situation) × ((o ≡ Some middle) × (f middle ≡ Some end))
split (Some middle) f end e = (middle, (refl, e))
split None f end e = absurd (cc)

module _ (setting : Setting) (allowed : Option Event → Type 0) where
  -- ---- unseen steps as a schedule

  pub then_lead : (picks more : List Pick) (now middle end : Situation) → LeadUnseen setting allowed now picks middle →
      LeadUnseen setting allowed middle more end → LeadUnseen setting allowed now (picks ++ more) end
  then_lead [] more now middle end one other =
      subst (λ (x : Situation). LeadUnseen setting allowed x more end) (sym one) other
  then_lead (pick ∷ picks) more now middle end one other =
      (one.0, one.1, (one.2.0, (one.2.1.0, then_lead picks more one.2.0 middle end one.2.1.1 other)))

  pub lead_runs : (picks : List Pick) (now end : Situation) → LeadUnseen setting allowed now picks end
      → after_schedule setting now picks ≡ Some end
  lead_runs [] now end lead = ap Some lead
  lead_runs (pick ∷ picks) now end lead =
      ap (option_and_then (λ next. after_schedule setting next picks)) lead.2.1.0
      ∙ lead_runs picks lead.2.0 end lead.2.1.1

  pub lead_allowed : (picks : List Pick) (now end : Situation) → LeadUnseen setting allowed now picks end
      → All (λ (pick : Pick). allowed pick.event) picks
  lead_allowed [] now end lead = All-nil (λ (pick : Pick). allowed pick.event)
  lead_allowed (pick ∷ picks) now end lead =
      All-cons (λ (pick : Pick). allowed pick.event) pick picks lead.1 (lead_allowed picks lead.2.0 end lead.2.1.1)

  -- which leave memory
  pub lead_memory : (picks : List Pick) (now end : Situation) → LeadUnseen setting allowed now picks end
      → end.state.memory ≡ now.state.memory
  lead_memory [] now end lead = ap (λ (x : Situation). x.state.memory) (sym lead)
  lead_memory (pick ∷ picks) now end lead =
      lead_memory picks lead.2.0 end lead.2.1.1
      ∙ ap (λ (x : Situation). x.state.memory) (sym (unseen_leads setting now lead.2.0 pick lead.0 lead.2.1.0))

  -- ---- where cores have stopped

  halted_sees : (memory : List ℕ) (pending : Pending) (core : Core) (doom : Option ℕ) (why : Stop)
      → HasStoppedBy core why → is_unseen setting memory pending core doom ≡ false
  halted_sees memory pending core doom why (regs, is) =
      ap (λ (x : Core). is_unseen setting memory pending x doom) is

  -- from where each has stopped there is none
  pub ended_rests : (picks : List Pick) (now end : Situation) → HasEnded now.state
      → LeadUnseen setting allowed now picks end → now ≡ end
  ended_rests [] now end ended lead = lead
  ended_rests (pick ∷ picks) now end ended lead =
      let halted = ended pick.core (core_within setting now lead.2.0 pick lead.2.1.0) in
      absurd (false≢true (sym (halted_sees now.state.memory (now.state.pending pick.core) (now.state.cores pick.core)
      (now.doomed pick.core) halted.1.0 (halted.0, halted.1.1)) ∙ lead.0.1))

  stays : (now next : Situation) (pick : Pick) (why : Stop) → IsUnseen setting now pick
      → after_pick setting now pick ≡ Some next →
      StopsBy now.state why → StopsBy next.state why
  stays now next pick why unseen goes stopped =
      let step = picked setting now next pick goes in
      let core : ℕ = stopped.0 in
      let other : nat_eq core pick.core ≡ false =
      not_same core pick.core
      (λ same.
      absurd (false≢true (sym (halted_sees now.state.memory (now.state.pending pick.core) (now.state.cores pick.core)
      (now.doomed pick.core) why (subst (λ n. HasStoppedBy (now.state.cores n) why) same stopped.2)) ∙ unseen.1))) in (
        core,
        subst (λ (x : Situation). core < x.state.count) (sym step.is_next) stopped.1,
        subst (λ (x : Situation). HasStoppedBy (x.state.cores core) why) (sym step.is_next)
            (subst (λ t. HasStoppedBy (cond t step.to.1.1 (now.state.cores core)) why) (sym other) stopped.2),
      )
    where
      by_test : (a b : ℕ) (test : Bool) → nat_eq a b ≡ test → (a ≡ b → ⊥) → nat_eq a b ≡ false
      by_test a b true e differs = absurd (differs (eqb-true a b e))
      by_test a b false e differs = e

      not_same : (a b : ℕ) → (a ≡ b → ⊥) → nat_eq a b ≡ false
      not_same a b differs = by_test a b (nat_eq a b) refl differs

  -- one that has stopped stays so
  pub stays_stopped : (picks : List Pick) (now end : Situation) (why : Stop)
      → LeadUnseen setting allowed now picks end →
      StopsBy now.state why → StopsBy end.state why
  stays_stopped [] now end why lead stopped = subst (λ (x : Situation). StopsBy x.state why) lead stopped
  stays_stopped (pick ∷ picks) now end why lead stopped =
      stays_stopped picks lead.2.0 end why lead.2.1.1
      (stays now lead.2.0 pick why lead.0 lead.2.1.0 stopped)

  -- ---- one step beside unseen ones

  -- it was the first unseen step of its core
  pub record IsAmong (next end : Situation) : Type 0 where
    pub picks : List Pick
    pub leads : LeadUnseen setting allowed next picks end

  -- or it comes behind all of them, and before all of them
  pub record IsBeside (next end : Situation) (pick : Pick) : Type 0 where
    pub after : Situation
    pub is_after : after_pick setting end pick ≡ Some after
    pub picks : List Pick
    pub leads : LeadUnseen setting allowed next picks after

  differs : (a b : ℕ) (test : Bool) → nat_eq a b ≡ test → (a ≡ b) ⊎ ((nat_eq a b ≡ false) × (nat_eq b a ≡ false))
  differs a b true e = inl (eqb-true a b e)
  differs a b false e = inr (e, turned (nat_eq b a) refl)
    where
      turned : (test : Bool) → nat_eq b a ≡ test → nat_eq b a ≡ false
      turned true is = absurd (false≢true (sym e ∙ eq-eqb a b (sym (eqb-true b a is))))
      turned false is = is

  -- where the first of them and a pick cross, and the pick is so beside the others
  first_too : (picks : List Pick) (now middle end next : Situation) (first pick : Pick)
      → (cross : Crosses setting first pick middle next) → allowed first.event →
      IsAmong cross.end end ⊎ IsBeside cross.end end pick → IsAmong next end ⊎ IsBeside next end pick
  first_too picks now middle end next first pick cross is_allowed (inl among) = inl (record {
    picks = first ∷ among.picks;
    leads = (cross.still, is_allowed, (cross.end, (cross.one_last, among.leads)));
  })
  first_too picks now middle end next first pick cross is_allowed (inr beside) = inr (record {
    after = beside.after;
    is_after = beside.is_after;
    picks = first ∷ beside.picks;
    leads = (cross.still, is_allowed, (cross.end, (cross.one_last, beside.leads)));
  })

  -- so it is with a pick of another core, or a drain; any other pick of the core is the first of them
  first_beside : (picks : List Pick) (now middle end next : Situation) (first pick : Pick)
      → IsUnseen setting now first → allowed first.event → after_pick setting now first ≡ Some middle
      → LeadUnseen setting allowed middle picks end → after_pick setting now pick ≡ Some next →
      ((behind : Situation) → after_pick setting middle pick ≡ Some behind
      → IsAmong behind end ⊎ IsBeside behind end pick) →
      IsAmong next end ⊎ IsBeside next end pick
  first_beside picks now middle end next first pick unseen is_allowed is_first lead goes others =
      elim (differs pick.core first.core (nat_eq pick.core first.core) refl) [
        | inl same ↦ its_own (drains pick.event (now.state.pending first.core)) refl (sym same)
        | inr apart ↦ across (unseen_first setting now middle next first pick unseen apart.0 apart.1 is_first goes)
      ]
    where
      across : Crosses setting first pick middle next → IsAmong next end ⊎ IsBeside next end pick
      across cross =
          first_too picks now middle end next first pick cross is_allowed (others cross.end cross.other_last)

      its_own : (drain : Bool) → drains pick.event (now.state.pending first.core) ≡ drain → first.core ≡ pick.core →
          IsAmong next end ⊎ IsBeside next end pick
      its_own true is same = across (drain_first setting now middle next first pick unseen same is is_first goes)
      its_own false is same =
          let there : middle ≡ next =
          same_in (sym (same_under_any setting now middle first pick unseen same is is_first) ∙ goes) in
          inl (record {
            picks = picks;
            leads = subst (λ (x : Situation). LeadUnseen setting allowed x picks end) there lead;
          })

  pub one_beside : (picks : List Pick) (now end next : Situation) (pick : Pick)
      → LeadUnseen setting allowed now picks end →
      after_pick setting now pick ≡ Some next → IsAmong next end ⊎ IsBeside next end pick
  one_beside [] now end next pick lead goes = inr (record {
    after = next;
    is_after = subst (λ (x : Situation). after_pick setting x pick ≡ Some next) lead goes;
    picks = [];
    leads = refl;
  })
  one_beside (first ∷ picks) now end next pick lead goes =
      first_beside picks now lead.2.0 end next first pick lead.0 lead.1 lead.2.1.0 lead.2.1.1 goes
      (λ behind is_behind. one_beside picks lead.2.0 end behind pick lead.2.1.1 is_behind)

  -- ---- a schedule beside unseen steps

  pub record CatchesUp (schedule : List Pick) (end rest : Situation) : Type 0 where
    pub picks : List Pick
    pub few : length picks ≤ length schedule
    pub are_allowed : All (λ (pick : Pick). allowed pick.event) picks
    pub last : Situation
    pub is_run : after_schedule setting rest picks ≡ Some last
    pub steps : List Pick
    pub leads : LeadUnseen setting allowed end steps last

  pub catches_up : (schedule steps : List Pick) (now rest end : Situation) → LeadUnseen setting allowed now steps rest →
      All (λ (pick : Pick). allowed pick.event) schedule → after_schedule setting now schedule ≡ Some end
      → CatchesUp schedule end rest
  catches_up [] steps now rest end lead all run = record {
    picks = [];
    few = omega arith;
    are_allowed = All-nil (λ (pick : Pick). allowed pick.event);
    last = rest;
    is_run = refl;
    steps = steps;
    leads = subst (λ (x : Situation). LeadUnseen setting allowed x steps rest) (same_in run) lead;
  }
  catches_up (pick ∷ schedule) steps now rest end lead all run =
      let parts = split (after_pick setting now pick) (λ next. after_schedule setting next schedule) end run in
      let behind = All-tail (λ (pick : Pick). allowed pick.event) pick schedule all in
      elim (one_beside steps now rest parts.0 pick lead parts.1.0) [
        | inl among ↦
            let up = catches_up schedule among.picks parts.0 rest end among.leads behind parts.1.1 in
            record {
              picks = up.picks;
              few = (let few = up.few in omega arith);
              are_allowed = up.are_allowed;
              last = up.last;
              is_run = up.is_run;
              steps = up.steps;
              leads = up.leads;
            }
        | inr beside ↦
            let up =
            catches_up schedule beside.picks parts.0 beside.after end beside.leads behind parts.1.1 in
            record {
              picks = pick ∷ up.picks;
              few = (let few = up.few in omega arith);
              are_allowed = All-cons (λ (pick : Pick). allowed pick.event) pick up.picks
                  (All-head (λ (pick : Pick). allowed pick.event) pick schedule all) up.are_allowed;
              last = up.last;
              is_run = ap (option_and_then (λ next. after_schedule setting next up.picks)) beside.is_after ∙ up.is_run;
              steps = up.steps;
              leads = up.leads;
            }
      ]
