use Rattle.std.proofs.Common.{◌≡◌, ◌<◌, ◌+◌, ℕ, List, Option, [], ◌∷◌, ◌++◌, length, refl, sym, ap, ◌∙◌, subst, arith}
use Rattle.std.proofs.Common.{length-append}
use Rattle.std.specs.Prelude.{IfSome}
use Rattle.tm_core.specs.Theorem.{machine_setting}
use Rattle.tm_model.specs.declared.outcome.Pick.{Pick}
use Rattle.tm_outcomes.specs.Digests.{digest_by}
use Rattle.tm_outcomes.specs.Kept.{AreApart, IsNewest, IsOther}
use Rattle.tm_outcomes.specs.Nodes.{AreNodesOf, IsFound, IsTree, schedule_at}
use Rattle.tm_outcomes.specs.Places.{IsAt}
use Rattle.tm_outcomes.specs.Written.{HasMore, IsBenchOf, IsPlaceIn, IsWithin, StoresOn}
use Rattle.tm_outcomes.specs.declared.bench.Bench.{Bench}
use Rattle.tm_outcomes.specs.declared.nodes.Node.{Node}
use Rattle.tm_outcomes.specs.declared.trial.Trial.{Trial}
use Rattle.tm_outcomes.specs.declared.written.Written.{Written}
use Rattle.tm_outcomes.proofs.Benches.{bench_advanced, bench_grown, place_at, within_more, within_advanced}
use Rattle.tm_outcomes.proofs.Follows.{follows}
use Rattle.tm_outcomes.proofs.Kept.{apart_grown, apart_noted, kept_same, newest_added, newest_same}
use Rattle.tm_outcomes.proofs.Joined.{to_known, to_new}
use Rattle.tm_outcomes.proofs.Leads.{alike_stands, known_at}
use Rattle.tm_outcomes.proofs.Sparing.{sparing_advanced}
use Rattle.tm_outcomes.proofs.Trees.{schedule_new, schedule_old}
use Rattle.tm_outcomes.proofs.searching.Searching.follow_here.Goals as goal

pub is_open-was_open-requires : goal.is_open-was_open-requires
is_open-was_open-requires c =
    let trial = c.args.task.now.trial in
    let schedules = c.requires.from.tree.0 in
    let at : IsAt trial c.args.bench.now.here (schedule_at schedules c.args.index) =
    c.requires.here schedules c.requires.from.tree.1 in
    let count = at.count in
    let is_core = c.requires.is_pick.is_core in
    omega arith

pub drains_apart-drains_apart-requires : goal.drains_apart-drains_apart-requires
drains_apart-drains_apart-requires c =
    let trial = c.args.task.now.trial in
    let schedules = c.requires.from.tree.0 in
    let at : IsAt trial c.args.bench.now.here (schedule_at schedules c.args.index) =
    c.requires.here schedules c.requires.from.tree.1 in
    let count = at.count in
    let is_core = c.requires.is_pick.is_core in
    omega arith

-- what is known of each event
pub returns-in-Some-clause-known : goal.returns-in-Some-clause-known
returns-in-Some-clause-known c =
    known_at c.args.task.now.trial c.args.self.now.nodes.items c.args.index c.args.pick.core c.args.bench.now.here _
    c.requires.is_pick.is_core c.requires.here c.is_open-was_open.ensures c.drains_apart-drains_apart.ensures.pending
    c.drains_apart-drains_apart.ensures.same

pub returns-then-len-most-clause-known : goal.returns-then-len-most-clause-known
returns-then-len-most-clause-known c =
    known_at c.args.task.now.trial c.args.self.now.nodes.items c.args.index c.args.pick.core c.args.bench.now.here _
    c.requires.is_pick.is_core c.requires.here c.is_open-was_open.ensures c.drains_apart-drains_apart.ensures.pending
    c.drains_apart-drains_apart.ensures.same

pub returns-clause-known : goal.returns-clause-known
returns-clause-known c =
    known_at c.args.task.now.trial c.args.self.now.nodes.items c.args.index c.args.pick.core c.args.bench.now.here _
    c.requires.is_pick.is_core c.requires.here c.is_open-was_open.ensures c.drains_apart-drains_apart.ensures.pending
    c.drains_apart-drains_apart.ensures.same

pub advance-requires-clause-place : goal.advance-requires-clause-place
advance-requires-clause-place c = c.requires.from.has_bench.bench.here.place

pub note-requires : goal.note-requires
note-requires c =
    let trial = c.args.task.now.trial in
    let schedules = c.requires.from.tree.0 in
    let at : IsAt trial c.args.bench.now.here (schedule_at schedules c.args.index) =
    c.requires.here schedules c.requires.from.tree.1 in
    let count = at.count in
    let is_core = c.requires.is_pick.is_core in
    omega arith

pub find-requires-clause-bench : goal.find-requires-clause-bench
find-requires-clause-bench c =
    let trial = c.args.task.now.trial in
    let bench : Bench = c.args.bench.now in
    let noted = c.note.new.self in
    let written = c.requires.from.has_bench.bench.written in
    let schedule : List Pick = schedule_at written.schedules c.args.index in
    let at : IsAt trial bench.here schedule = c.requires.here written.schedules written.tree in
    let within : IsWithin trial noted.lines.items (schedule ++ c.in_ok-steps.steps.items) =
    within_advanced trial noted.lines.items schedule bench.here c.advance.new.self c.args.pick c.in_ok-steps.steps.items
    at c.in_ok-steps.ensures
    (within_more trial bench.noted.lines.items noted.lines.items schedule c.in_ok-note.ensures.keeps.kept
    (written.within c.args.index c.requires.from.within)) c.in_ok-note.ensures.noted in
    let here : IsPlaceIn trial noted c.advance.new.self =
    place_at trial noted c.advance.new.self (schedule ++ c.in_ok-steps.steps.items)
    (ap (λ v. v.items) c.in_ok-note.ensures.keeps.opening ∙ written.opening) c.in_ok-steps.ensures.is_place
    (c.in_ok-steps.ensures.at schedule at) within in
    subst (λ (ns : List Node). IsBenchOf trial ns (record bench { here = c.advance.new.self; noted = noted }))
    (sym c.as_slice.ensures.value)
    (bench_advanced trial c.args.self.now.nodes.items bench c.advance.new.self noted c.in_ok-note.ensures.keeps here
    c.requires.from.has_bench.bench)

-- ---- nodes that are pairwise different

-- the nodes with the lines that were noted
noted_apart : (trial : Trial) (nodes : List Node) (bench : Bench) (noted : Written) → IsBenchOf trial nodes bench →
    AreApart trial nodes bench.noted → noted.opening ≡ bench.noted.opening
    → HasMore bench.noted.lines.items noted.lines.items →
    AreApart trial nodes noted
noted_apart trial nodes bench noted is apart opening grown =
    apart_noted trial nodes bench.noted noted opening grown is.written apart

pub find-requires-clause-nodes : goal.find-requires-clause-nodes
find-requires-clause-nodes c =
    subst (λ (ns : List Node). AreNodesOf c.args.task.now.trial ns) (sym c.as_slice.ensures.value)
    (record {
      few = (let few = c.requires.from.few in let small = c.args.task.now.small in omega arith);
      tree = c.requires.from.tree;
    })

pub find-requires-clause-apart : goal.find-requires-clause-apart
find-requires-clause-apart c =
    let trial = c.args.task.now.trial in
    let noted = c.note.new.self in
    subst (λ (ns : List Node). AreApart trial ns noted) (sym c.as_slice.ensures.value)
    (noted_apart trial c.args.self.now.nodes.items c.args.bench.now noted
    c.requires.from.has_bench.bench c.requires.from.has_bench.kept.apart
    c.in_ok-note.ensures.keeps.opening c.in_ok-note.ensures.grown)

pub find-requires-clause-newest : goal.find-requires-clause-newest
find-requires-clause-newest c =
    let nodes : List Node = c.args.self.now.nodes.items in
    let place = c.advance.new.self in
    let digest = c.digest-digest.result in
    subst (λ (ns : List Node). IsNewest ns (digest_by c.note.new.self place) (length ns) c.copied-old.result)
    (sym c.as_slice.ensures.value)
    (subst (λ d. IsNewest nodes d (length nodes) c.copied-old.result) c.digest-digest.ensures
    (subst (λ (o : Option ℕ). IsNewest nodes digest (length nodes) o) (sym (c.copied-old.ensures ∙ c.get.ensures.value))
    (c.requires.from.has_bench.kept.newest digest)))

-- what following leaves

pub returns-in-Some-clause-followed : goal.returns-in-Some-clause-followed
returns-in-Some-clause-followed c = record {
  followed = λ _.
      let trial = c.args.task.now.trial in
      let index = c.args.index in
      let pick = c.args.pick in
      let old = c.args.self.now in
      let nodes = old.nodes.items in
      let found =
      subst (λ (o : Option ℕ). IfSome o (IsFound trial c.as_slice.result.now c.advance.new.self))
      c.in-Some.is c.in_ok-known.ensures.ok in
      let there : c.in-Some.known < length nodes =
      (let f = found.within in let e = ap (λ (ns : List Node). length ns) c.as_slice.ensures.value in omega arith) in
      to_known trial c.args.task.now.most index c.in-Some.known pick old c.join.new.self
      (ap (λ v. v.items) c.in_ok-join.ensures.nodes)
      c.in_ok-join.ensures.links c.requires.from.few c.requires.from.within there c.requires.is_pick
      (λ schedules tree.
      let before = c.args.bench.now.here in
      let after = c.advance.new.self in
      let at : IsAt trial before (schedule_at schedules index) =
      c.requires.here schedules tree in
      let other =
      found.alike schedules
      (subst (λ (ns : List Node). IsTree trial ns schedules) (sym c.as_slice.ensures.value) tree) in
      follows trial schedules index pick c.in_ok-steps.steps.items before after other.0 c.in-Some.known at
      c.in_ok-steps.ensures
      (let t = tree.counted in omega arith) other.1.0
      (λ now stands. alike_stands trial after other.0 (schedule_at schedules index ++ c.in_ok-steps.steps.items) _ now
      (c.in_ok-steps.ensures.at (schedule_at schedules index) at) other.1.0 other.1.1 stands));
  cut = λ cut. cc;
  has_bench = record {
    bench =
        subst (λ (ns : List Node). IsBenchOf c.args.task.now.trial ns c.find.new.self)
        (c.as_slice.ensures.value ∙ ap (λ v. v.items) (sym c.in_ok-join.ensures.nodes)) c.in_ok-known.ensures.bench;
    kept =
        let trial = c.args.task.now.trial in
        let noted = c.note.new.self in
        kept_same trial c.args.self.now c.join.new.self noted c.find.new.self.noted c.in_ok-join.ensures.nodes
        c.in_ok-join.ensures.newest c.in_ok-known.ensures.noted
        (record {
          apart =
              noted_apart trial c.args.self.now.nodes.items c.args.bench.now noted
              c.requires.from.has_bench.bench c.requires.from.has_bench.kept.apart
              c.in_ok-note.ensures.keeps.opening c.in_ok-note.ensures.grown;
          newest = c.requires.from.has_bench.kept.newest;
        });
  };
}

pub returns-then-len-most-clause-followed : goal.returns-then-len-most-clause-followed
returns-then-len-most-clause-followed c = record {
  followed = λ on. cc;
  cut = λ _. let few = c.requires.from.few in omega arith;
  has_bench = record {
    bench =
        subst (λ (ns : List Node). IsBenchOf c.args.task.now.trial ns c.find.new.self) c.as_slice.ensures.value
        c.in_ok-known.ensures.bench;
    kept =
        let trial = c.args.task.now.trial in
        let noted = c.note.new.self in
        kept_same trial c.args.self.now c.args.self.now noted c.find.new.self.noted refl refl
        c.in_ok-known.ensures.noted
        (record {
          apart =
              noted_apart trial c.args.self.now.nodes.items c.args.bench.now noted
              c.requires.from.has_bench.bench c.requires.from.has_bench.kept.apart
              c.in_ok-note.ensures.keeps.opening c.in_ok-note.ensures.grown;
          newest = c.requires.from.has_bench.kept.newest;
        });
  };
}

pub returns-clause-followed : goal.returns-clause-followed
returns-clause-followed c = record {
  followed = λ _.
      let trial = c.args.task.now.trial in
      let index = c.args.index in
      let pick = c.args.pick in
      let old = c.args.self.now in
      let node : Node = record {
        parent = index;
        steps = c.in_ok-steps.steps;
        digest = c.digest-digest.result;
        older = c.copied-old.result;
      } in
      let joined = c.in_ok-join-2.ensures in
      let place = c.args.bench.now.here in
      to_new trial c.args.task.now.most index pick c.in_ok-steps.steps.items node old c.add.new.self refl refl
      c.in_ok-steps.ensures.are_picks
      (c.in_ok-add.ensures.nodes ∙ ap (λ v. v.items ++ node ∷ []) joined.nodes)
      (ap (λ v. v.items) c.in_ok-add.ensures.links ∙ joined.links
      ∙ ap (λ (n : ℕ). old.links.items ++ record { from = index; to = n } ∷ [])
      (let e : c.len-number.result ≡ length old.nodes.items = omega arith in e)) (omega arith) c.requires.from.within
      c.requires.is_pick
      (λ schedules tree.
      let at : IsAt trial place (schedule_at schedules index) =
      c.requires.here schedules tree in
      let after = c.in_ok-steps.ensures.at (schedule_at schedules index) at in (
        after.now,
        after.is_run,
        sym after.stands.same_count ∙ after.count,
        sparing_advanced trial (schedule_at schedules index) place c.advance.new.self pick c.in_ok-steps.steps.items at
            c.in_ok-steps.ensures
            (tree.runs index c.requires.from.within).3 (c.requires.needed schedules tree),
      ))
      (λ schedules tree.
      let after = c.advance.new.self in
      let at : IsAt trial place (schedule_at schedules index) =
      c.requires.here schedules tree in
      let added : List Pick = schedule_at schedules index ++ c.in_ok-steps.steps.items in
      let grown : List (List Pick) = schedules ++ added ∷ [] in
      let counted = tree.counted in
      let longer : length grown ≡ length schedules + 1 = length-append schedules (added ∷ []) in
      let here : schedule_at grown index ≡ schedule_at schedules index =
      schedule_old schedules (added ∷ []) index (let w = c.requires.from.within in omega arith) in
      let new : schedule_at grown (length schedules) ≡ added = schedule_new schedules added (length schedules) refl in
      follows trial grown index pick c.in_ok-steps.steps.items place after after (length schedules)
      (subst (λ (s : List Pick). IsAt trial place s) (sym here) at) c.in_ok-steps.ensures (omega arith)
      (subst (λ (s : List Pick). IsAt trial after s) (sym new)
      (c.in_ok-steps.ensures.at (schedule_at schedules index) at))
      (λ now stands. stands));
  cut = λ cut. cc;
  has_bench = record {
    bench =
        let trial = c.args.task.now.trial in
        let before = c.args.bench.now.here in
        let bench : Bench = c.find.new.self in
        let nodes : List Node = c.args.self.now.nodes.items in
        let node : Node = record {
          parent = c.args.index;
          steps = c.in_ok-steps.steps;
          digest = c.digest-digest.result;
          older = c.copied-old.result;
        } in
        let is : IsBenchOf trial nodes bench =
        subst (λ (ns : List Node). IsBenchOf trial ns bench) c.as_slice.ensures.value c.in_ok-known.ensures.bench in
        let schedule : List Pick = schedule_at is.written.schedules c.args.index in
        let at : IsAt trial before schedule = c.requires.here is.written.schedules is.written.tree in
        let after = c.in_ok-steps.ensures.at schedule at in
        let noted : bench.noted ≡ c.note.new.self = c.in_ok-known.ensures.noted in
        bench_grown trial nodes c.add.new.self.nodes.items node bench is
        (c.in_ok-add.ensures.nodes ∙ ap (λ v. v.items ++ node ∷ []) c.in_ok-join-2.ensures.nodes) c.requires.from.within
        c.in_ok-steps.ensures.are_picks (
          after.now,
          after.is_run,
          sym after.stands.same_count ∙ after.count,
          sparing_advanced trial schedule before c.advance.new.self c.args.pick c.in_ok-steps.steps.items at
              c.in_ok-steps.ensures
              (is.written.tree.runs c.args.index c.requires.from.within).3
              (c.requires.needed is.written.schedules is.written.tree),
        )
        (within_advanced trial bench.noted.lines.items schedule before c.advance.new.self c.args.pick
        c.in_ok-steps.steps.items at c.in_ok-steps.ensures
        (is.written.within c.args.index c.requires.from.within)
        (λ now stands.
        subst (λ (w : Written). StoresOn (machine_setting before.machine) w.lines.items now c.args.pick.core)
        (sym noted)
        (c.in_ok-note.ensures.noted now stands)));
    kept =
        let trial = c.args.task.now.trial in
        let noted = c.note.new.self in
        let before = c.args.bench.now.here in
        let place = c.advance.new.self in
        let old = c.args.self.now in
        let joined = c.join-2.new.self in
        let added = c.add.new.self in
        let nodes : List Node = old.nodes.items in
        let digest = c.digest-digest.result in
        let node : Node =
        record { parent = c.args.index; steps = c.in_ok-steps.steps; digest = digest; older = c.copied-old.result } in
        let schedules = c.requires.from.tree.0 in
        let tree = c.requires.from.tree.1 in
        let schedule : List Pick = schedule_at schedules c.args.index in
        let at : IsAt trial before schedule = c.requires.here schedules tree in
        let after = c.in_ok-steps.ensures.at schedule at in
        let others : (index : ℕ) → index < length nodes → IsOther trial nodes place index =
        subst (λ (ns : List Node). (index : ℕ) → index < length ns → IsOther trial ns place index)
        c.as_slice.ensures.value (c.in_ok-known.ensures.none c.in_default.is) in
        kept_same trial added added noted c.find.new.self.noted refl refl c.in_ok-known.ensures.noted
        (record {
          apart = apart_grown trial nodes added.nodes.items node noted schedules place tree
              (c.in_ok-add.ensures.nodes ∙ ap (λ v. v.items ++ node ∷ []) c.in_ok-join-2.ensures.nodes)
              c.requires.from.within
              c.in_ok-steps.ensures.are_picks (
                after.now,
                after.is_run,
                sym after.stands.same_count ∙ after.count,
                sparing_advanced trial schedule before place c.args.pick c.in_ok-steps.steps.items at
                    c.in_ok-steps.ensures
                    (tree.runs c.args.index c.requires.from.within).3 (c.requires.needed schedules tree),
              ) after c.digest-digest.ensures
              (subst (λ (o : Option ℕ). IsNewest nodes digest (length nodes) o)
              (sym (c.copied-old.ensures ∙ c.get.ensures.value))
              (c.requires.from.has_bench.kept.newest digest)) others
              (noted_apart trial nodes c.args.bench.now noted c.requires.from.has_bench.bench
              c.requires.from.has_bench.kept.apart
              c.in_ok-note.ensures.keeps.opening
              c.in_ok-note.ensures.grown);
          newest = newest_added joined added node c.in_ok-add.ensures.nodes c.in_ok-add.ensures.newest
              (newest_same old joined c.in_ok-join-2.ensures.nodes c.in_ok-join-2.ensures.newest
              c.requires.from.has_bench.kept.newest);
        });
  };
}
