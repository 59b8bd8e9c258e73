use Rattle.std.proofs.Common.{List, rules, subst, sym}
use Rattle.std.proofs.lemmas.List.Elements.{All-push}
use Rattle.std.specs.Prelude.{All}
use Rattle.tm_hunt.proofs.Loads.{loading, stored}
use Rattle.tm_hunt.specs.Delays.{IsStored}
use Rattle.tm_hunt.proofs.delays.Course.look.Goals as goal

pub pass-requires-clause-load : goal.pass-requires-clause-load
pass-requires-clause-load c = λ loads.
    loading c.args.self c.args.pick c.args.seen c.args.place c.requires.made (search rules) loads

pub returns-in_ok-push-in-Some-clause-waiting : goal.returns-in_ok-push-in-Some-clause-waiting
returns-in_ok-push-in-Some-clause-waiting c =
    subst (All (IsStored c.args.self)) (sym c.in_ok-push-in-Some.ensures.items)
    (All-push (IsStored c.args.self) c.pass.new.waiting.items _ c.in_ok-pass.ensures.waiting
    (stored c.args.self c.args.pick c.args.seen c.args.place c.in-Some.older c.requires.made (search rules)
    c.in-Some.is))
