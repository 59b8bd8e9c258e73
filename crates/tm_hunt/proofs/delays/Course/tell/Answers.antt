use Rattle.std.proofs.Common.{List, ◌∷◌, ◌++◌, arith, subst, sym}
use Rattle.std.proofs.lemmas.List.Elements.{All-push}
use Rattle.std.specs.Prelude.{All}
use Rattle.tm_hunt.specs.Delays.{IsDelayed}
use Rattle.tm_hunt.specs.declared.delays.Delayed.{Delayed}
use Rattle.tm_hunt.proofs.delays.Course.tell.Goals as goal

pub returns-in_ok-push-in-Some : goal.returns-in_ok-push-in-Some
returns-in_ok-push-in-Some c =
    let course = c.args.self in
    let is_delayed = IsDelayed course.trial course.picks.now in
    let found : List Delayed = c.args.found.now.items in
    record {
      delayed = subst (All is_delayed) (sym c.in_ok-push-in-Some.ensures.items)
          (All-push is_delayed found c.in-Some.delayed c.requires.found.delayed c.in-Some.ensures);
      few = (let len = c.in_ok-push-in-Some.ensures.len in let same = c.as_slice.ensures.len in omega arith);
    }
