use Rattle.std.proofs.Common.{◌≡◌, ◌≤◌, [], ◌∷◌, ◌++◌, List, arith, inl, length, refl, rules, subst, sym}
use Rattle.std.proofs.lemmas.Result.{err_from_is_err_and}
use Rattle.tm_model.specs.declared.outcome.Outcome.{Outcome}
use Rattle.tm_model.specs.declared.outcome.Pick.{Pick}
use Rattle.elide_setup.proofs.Rounds.{at_end, at_limit, begun, more_under_way, no_seed}
use Rattle.std.specs.Prelude.{is_some, not}
use Rattle.elide_setup.proofs.Walks.{leads_more, picks_on}
use Rattle.elide_setup.specs.Drawing.{ComeAs}
use Rattle.elide_setup.proofs.walk.walk_picked.Goals as goal

pub loop-number-preserved : goal.loop-number-preserved
loop-number-preserved g c =
    let made = c.loop-number.invariant in
    let drawn = c.args.drawn in
    let pick : Pick = c.next_pick-pick.result in
    let outcome : Outcome = c.in_ok-outcome.outcome in
    let others : List (Pick × Outcome) = (pick, outcome) ∷ [] in
    let next = c.next_pick-pick.ensures in
    let picks = sym (picks_on made.0 others) in (
      made.0 ++ others,
      subst (λ (l : List Pick). ComeAs drawn l) picks (next.come drawn _ made.5),
      leads_more g.S.StepMaker.takes made.0 others c.args.maker.now c.loop-number.maker c.make_step.new.self made.2
          c.in_ok-outcome.ensures.made,
      leads_more g.K.Keeper.keeps made.0 others c.args.keeper.now c.loop-number.keeper c.keep.new.self made.3
          c.in_ok-keep.ensures.kept,
      more_under_way (not (is_some drawn.seed)) c.args.cores c.loop-number.number c.loop-number.going
          c.settle.new.going (g.Q.PickSource.turn c.loop-number.source)
          (g.Q.PickSource.turn c.next_pick-pick.new.self) made.0 pick outcome made.4 next.core next.turn next.goes_on
          (c.settle.ensures c.args.cores made.0 made.4.left),
      subst (λ (l : List Pick). g.Q.PickSource.is_behind drawn l c.next_pick-pick.new.self) picks
          (next.behind drawn _ made.5),
    )

pub loop-number-init : goal.loop-number-init
loop-number-init g c = (
  [],
  c.requires.none,
  ([], refl, refl),
  ([], refl, refl),
  begun (not (is_some c.args.drawn.seed)) c.args.cores c.all-going.result (g.Q.PickSource.turn c.args.source)
      c.all-going.ensures.below c.all-going.ensures.each (λ e. c.requires.turn (no_seed c.args.drawn.seed e)),
  c.requires.begun,
)

-- all cores have stopped
pub returns-then-is_empty-clause-walked : goal.returns-then-is_empty-clause-walked
returns-then-is_empty-clause-walked g c =
    let made = c.loop-number.invariant in
    let none : length c.loop-number.going ≡ 0 = search rules in
    let few : c.loop-number.number ≤ c.args.drawn.most = omega arith in (
      made.0,
      made.1,
      made.2,
      made.3,
      at_end (not (is_some c.args.drawn.seed)) c.args.cores c.args.drawn.most c.loop-number.number c.loop-number.going
          (g.Q.PickSource.turn c.loop-number.source) made.0 made.4 few none,
    )

-- there are as many steps as there may be
pub returns-clause-walked : goal.returns-clause-walked
returns-clause-walked g c =
    let made = c.loop-number.invariant in
    let all : c.loop-number.number ≡ c.args.drawn.most = omega arith in (
      made.0,
      made.1,
      made.2,
      made.3,
      at_limit (not (is_some c.args.drawn.seed)) c.args.cores c.args.drawn.most c.loop-number.number c.loop-number.going
          (g.Q.PickSource.turn c.loop-number.source) made.0 made.4 all,
    )

-- a step that is due is refused
pub returns-in_err-outcome-clause-refused : goal.returns-in_err-outcome-clause-refused
returns-in_err-outcome-clause-refused g c =
    let made = c.loop-number.invariant in
    let pick : Pick = c.next_pick-pick.result in
    let among = (made.4.left pick.core).0 c.next_pick-pick.ensures.core in
    let count = made.4.count in
    let p = err_from_is_err_and c.from_residual.result c.from_residual.ensures.1 in
    rw (p.1, p.2)
    (inl (record {
      made = made.0;
      after = c.loop-number.maker;
      lead = made.2;
      pick = pick;
      due = record {
        few = omega (arith, count);
        core = among.0;
        going = among.1;
        come = c.next_pick-pick.ensures.come c.args.drawn _ made.5;
      };
      refused = c.in_err-outcome.ensures.refused;
    }))
