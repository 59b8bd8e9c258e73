use Rattle.std.proofs.Common.{◌≡◌, ◌<◌, ◌+◌, ◌∙◌, ℕ, length, sym, ap, subst, arith}
use Rattle.tm_hist.specs.Board.{AreSteps, IsStopped, ShownBoard}
use Rattle.tm_hist.proofs.Pushes.{more_made, none_made, one_made}
use Rattle.tm_hist.proofs.board.Board.steps.Goals as goal

pub loop-made-init : goal.loop-made-init
loop-made-init c = record { made = none_made _ _; exists = c.requires; most = omega arith }

pub loop-made-preserved-in-Ok : goal.loop-made-preserved-in-Ok
loop-made-preserved-in-Ok c =
    let i = c.loop-made.invariant in
    let g = c.go_on-made.ensures in
    let s = c.in-Ok.ensures in
    let unmoved : c.transact.new.self ≡ c.go_on-made.new.self = c.transact.ensures.none c.in-0.is in
    let before =
    subst (λ (b : ShownBoard). AreSteps c.args.self.now b c.args.core (c.loop-made.made + c.go_on-made.result))
    (sym unmoved) (more_made _ _ _ _ _ _ i.made g.made) in
    let going : ¬ (IsStopped c.transact.new.self c.args.core) =
    λ h. let t = c.is_stopped.ensures.1 (subst (λ (b : ShownBoard). IsStopped b c.args.core) unmoved h) in cc in
    record {
      made = more_made _ _ _ _ _ 1 before
          (one_made _ _ _ c.in-Ok._outcome s.same s.ok s.no_abort s.next s.stops s.idle.0 going);
      exists = subst (λ (n : ℕ). c.args.core < n)
          (sym (ap (λ p. length p.entries) s.same.program ∙ ap (λ (b : ShownBoard). length b.program.entries) unmoved
          ∙ ap (λ p. length p.entries) g.made.same.program)) i.exists;
      most = omega arith;
    }

pub loop-made-preserved : goal.loop-made-preserved
loop-made-preserved c =
    let i = c.loop-made.invariant in
    let g = c.go_on-made.ensures in
    let t = c.transact.ensures in
    record {
      made = more_made _ _ _ _ _ _ (more_made _ _ _ _ _ _ i.made g.made) t.made;
      exists = subst (λ (n : ℕ). c.args.core < n)
          (sym (ap (λ p. length p.entries) t.made.same.program ∙ ap (λ p. length p.entries) g.made.same.program))
          i.exists;
      most = omega arith;
    }

pub returns-then-made-most-clause-made : goal.returns-then-made-most-clause-made
returns-then-made-most-clause-made c = more_made _ _ _ _ _ _ c.loop-made.invariant.made c.go_on-made.ensures.made

pub returns-in-Err-LimitReached-clause-made : goal.returns-in-Err-LimitReached-clause-made
returns-in-Err-LimitReached-clause-made c =
    subst (λ (b : ShownBoard). AreSteps c.args.self.now b c.args.core (c.loop-made.made + c.go_on-made.result))
    (sym (c.transact.ensures.none c.in-0.is) ∙ sym c.in-Err-LimitReached.ensures.err)
    (more_made _ _ _ _ _ _ c.loop-made.invariant.made c.go_on-made.ensures.made)
