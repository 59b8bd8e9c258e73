use Rattle.std.proofs.Common.{◌≡◌, ◌<◌, ◌∙◌, ℕ, List, Option, Some, None, refl, sym, subst}
use Rattle.std.specs.Prelude.{slice_index_or}
use Rattle.std.proofs.lemmas.List.{get_or-map}
use Rattle.tm_outcomes.specs.Kept.{IsNewest, IsOther, digest_at, older_at}
use Rattle.tm_outcomes.specs.declared.nodes.Node.{Node}
use Rattle.tm_outcomes.specs.declared.place.Place.{Place}
use Rattle.tm_outcomes.proofs.Kept.{IsLooking, all_others, fewer_left, index_within, left_of, looks, looks_on}
use Rattle.tm_outcomes.proofs.bench.Bench.find.Goals as goal

pub nodes-init : goal.nodes-init
nodes-init c = record {
  bench = c.requires.bench;
  here = refl;
  noted = refl;
  looking = looks c.args.task.now.trial c.args.nodes.now c.args.self.now.noted c.args.self.now.here c.args.newest
      c.requires.newest;
}

pub nodes-smaller : goal.nodes-smaller
nodes-smaller c =
    let trial = c.args.task.now.trial in
    let nodes : List Node = c.args.nodes.now in
    let before = c.args.self.now in
    let index = c.in-Some.index in
    let node : Node = c.index-nodes-index.result in
    let next : Option ℕ = (slice_index_or nodes index node).older in
    let looking : IsLooking trial nodes before.noted before.here (Some index) =
    subst (λ (o : Option ℕ). IsLooking trial nodes before.noted before.here o) c.in-Some.is c.nodes.invariant.looking in
    let within = index_within trial nodes before.noted before.here index looking in
    let older : next ≡ older_at nodes index = sym (get_or-map (λ (n : Node). n.older) nodes index node None within) in
    let newest : IsNewest nodes (digest_at nodes index) index next =
    subst (λ (o : Option ℕ). IsNewest nodes (digest_at nodes index) index o) (sym older)
    (c.requires.apart.older index within) in
    subst (λ (o : Option ℕ). left_of next < left_of o) (sym c.in-Some.is)
    (fewer_left nodes (digest_at nodes index) index next newest)

pub nodes-preserved : goal.nodes-preserved
nodes-preserved c =
    let trial = c.args.task.now.trial in
    let nodes : List Node = c.args.nodes.now in
    let before = c.args.self.now in
    let index = c.in-Some.index in
    let node : Node = c.index-nodes-index.result in
    let next : Option ℕ = (slice_index_or nodes index node).older in
    let looking : IsLooking trial nodes before.noted before.here (Some index) =
    subst (λ (o : Option ℕ). IsLooking trial nodes before.noted before.here o) c.in-Some.is c.nodes.invariant.looking in
    let within = index_within trial nodes before.noted before.here index looking in
    let is_there = c.in_ok-is_there.ensures in
    record {
      bench = is_there.bench;
      here = is_there.here ∙ c.nodes.invariant.here;
      noted = is_there.noted ∙ c.nodes.invariant.noted;
      looking = looks_on trial nodes before.noted before.here index next c.requires.apart
          (subst (λ (p : Place). IsOther trial nodes p index) c.nodes.invariant.here (is_there.other c.if-branch.false))
          (sym (get_or-map (λ (n : Node). n.older) nodes index node None within)) looking;
    }

pub returns-clause-none : goal.returns-clause-none
returns-clause-none c = λ _.
    let trial = c.args.task.now.trial in
    let nodes : List Node = c.args.nodes.now in
    let before = c.args.self.now in
    all_others trial nodes before.noted before.here c.requires.apart
    (subst (λ (o : Option ℕ). IsLooking trial nodes before.noted before.here o) c.in_default.is
    c.nodes.invariant.looking)
