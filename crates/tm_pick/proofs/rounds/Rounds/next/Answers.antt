use Rattle.std.proofs.Common.{rules, ◌≡◌, [], length, refl, sym, arith, true≢false}
use Rattle.std.proofs.lemmas.List.Sorted.{length_permutation}
use Rattle.tm_pick.specs.Chances.{words_of}
use Rattle.tm_pick.proofs.InRound.{last_of, last_there, next_of, of_new, without_last}
use Rattle.tm_pick.proofs.rounds.Rounds.next.Goals as goal

pub returns-then-contains-clause-drawn : goal.returns-then-contains-clause-drawn
returns-then-contains-clause-drawn c =
    c.left.invariant.drawn c.in-Some.core c.pop.new.self.items (words_of c.args.chance.now)
    (next_of c.args.going.now (words_of c.args.chance.now) c.left.self.left.items c.pop.new.self.items c.in-Some.core
    c.in-Some.ensures.items (c.if-contains.ensures.0 refl))

pub left-preserved : goal.left-preserved
left-preserved c = record {
  some = c.left.invariant.some;
  drawn = λ core after behind of.
      c.left.invariant.drawn core after behind
      (without_last c.args.going.now (words_of c.args.chance.now) c.left.self.left.items
      c.pop.new.self.items c.in-Some.core
      c.in-Some.ensures.items (λ there. true≢false (sym (c.if-contains.ensures.1 there))) core after behind of);
}

pub unwrap-requires : goal.unwrap-requires
unwrap-requires c =
    let long : length c.shuffled-self.result.items ≡ length c.args.going.now =
    length_permutation c.args.going.now c.shuffled-self.result.items c.shuffled-self.ensures.same in
    let some = c.requires in
    c.pop-2.ensures.variant.1 (omega arith)

pub returns-clause-among : goal.returns-clause-among
returns-clause-among c =
    last_there c.args.going.now c.shuffled-self.result.items c.pop-2.new.self.items c.unwrap.result
    c.shuffled-self.ensures.same
    (last_of c.pop-2.new.self.items c.shuffled-self.result.items c.pop-2.result c.unwrap.result c.pop-2.ensures.items
    c.unwrap.ensures)

pub returns-clause-drawn : goal.returns-clause-drawn
returns-clause-drawn c =
    let none : c.left.self.left.items ≡ [] = search rules in
    c.left.invariant.drawn c.unwrap.result c.pop-2.new.self.items (words_of c.shuffled-self.new.chance)
    (of_new c.args.going.now (words_of c.args.chance.now) c.left.self.left.items c.shuffled-self.result.items
    c.pop-2.new.self.items
    c.unwrap.result (words_of c.shuffled-self.new.chance) none
    (last_of c.pop-2.new.self.items c.shuffled-self.result.items c.pop-2.result c.unwrap.result c.pop-2.ensures.items
    c.unwrap.ensures)
    c.shuffled-self.ensures.drawn)
