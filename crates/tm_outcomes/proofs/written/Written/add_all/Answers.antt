use Rattle.std.proofs.Common.{List, ℕ, inl, inr, take, sym, subst, arith}
use Rattle.std.specs.Prelude.{Contains}
use Rattle.std.proofs.lemmas.List.{take_all, take_more}
use Rattle.std.proofs.lemmas.List.Elements.{Contains-push_cases}
use Rattle.tm_outcomes.proofs.Digests.{more_then, no_more}
use Rattle.tm_outcomes.proofs.Noting.{keeps_all, keeps_more}
use Rattle.tm_outcomes.proofs.written.Written.add_all.Goals as goal

pub loop-line-init : goal.loop-line-init
loop-line-init c = record {
  keeps = keeps_all c.args.self.now;
  grown = no_more c.args.self.now.lines.items;
  all = λ line (k, below, is). absurd (omega arith);
}

pub loop-line-preserved : goal.loop-line-preserved
loop-line-preserved c =
    let lines = c.args.lines.now in
    let at = c.loop-line.line-index in
    let before = c.loop-line.invariant in
    record {
      keeps = keeps_more c.args.self.now c.loop-line.self c.add.new.self before.keeps c.in_ok-add.ensures.keeps;
      grown = more_then c.args.self.now.lines.items c.loop-line.self.lines.items c.add.new.self.lines.items before.grown
          c.in_ok-add.ensures.grown;
      all = λ line among.
          elim (Contains-push_cases (take at lines) _ line
          (subst (λ (xs : List ℕ). Contains xs line) (take_more lines at _ c.loop-line-test.true) among)) [
            | inl earlier ↦ c.in_ok-add.ensures.keeps.kept line (before.all line earlier)
            | inr here ↦ subst (λ n. Contains c.add.new.self.lines.items n) here c.in_ok-add.ensures.here
          ];
    }

pub returns-clause-all : goal.returns-clause-all
returns-clause-all c = λ line among.
    c.loop-line.invariant.all line
    (subst (λ (xs : List ℕ). Contains xs line)
    (sym (take_all c.loop-line.line-index c.args.lines.now c.loop-line-test.false)) among)
