-- Marks that are passed on from the ends.
use Rattle.std.proofs.Common.{◌≡◌, inl, inr, ℕ, zero, suc, ◌+◌, ◌<◌, ◌≤◌, Bool, true, false, List, [], ◌∷◌, ◌++◌}
use Rattle.std.proofs.Common.{length, get_or, set}
use Rattle.std.proofs.Common.{append_assoc, refl, sym, ap, ◌∙◌, subst, arith, length-append}
use Rattle.std.specs.Prelude.{Contains}
use Rattle.std.proofs.Math.ListN.{length-set}
use Rattle.std.proofs.lemmas.Bool.{cases_eq, cases_lt, false≢true}
use Rattle.std.proofs.lemmas.List.{append-nil, get_or-set_other, get_or-set_same, get_or_append_left, get_or_default}
use Rattle.std.proofs.lemmas.List.{get_or_past}
use Rattle.std.proofs.lemmas.List.Elements.{Contains-append_cases, Contains-append_left, Contains-append_right}
use Rattle.std.proofs.lemmas.List.Elements.{Contains-get_or, Contains-push, Contains-push_cases}
use Rattle.tm_outcomes.specs.Links.{IsLink}
use Rattle.tm_outcomes.specs.Marks.{AreEnds, AreMarks, HasGrown, HasMarked, HasPassed, IsMarked, IsPassing, unmarked}
use Rattle.tm_outcomes.specs.declared.links.Link.{Link}
use Rattle.tm_outcomes.specs.declared.marks.Marks.{Marks}

-- a node that is marked is there
pub marked_below : (marked : List Bool) (node : ℕ) → IsMarked marked node → node < length marked
marked_below marked node is = elim (cases_lt node (length marked)) [
  | inl less ↦ less
  | inr past ↦ absurd (false≢true (sym (get_or_past marked node false (omega arith)) ∙ is))
]

-- none is in an empty list
none_in : (node : ℕ) → Contains [] node → ⊥
none_in node is = (let below = is.1 in omega arith)

pub nothing_grown : (among : ℕ → Type 0) (marks : Marks) → HasGrown among marks marks
nothing_grown among marks = record {
  count = refl;
  kept = λ node is. is;
  more = [];
  queue = sym (append-nil marks.queue.items);
  marked = λ node is. absurd (none_in node is);
  only = λ node is. inl is;
  left = omega arith;
}

pub then_grown : (among then : ℕ → Type 0) (before middle after : Marks) → ((node : ℕ) → then node → among node) →
    HasGrown among before middle → HasGrown then middle after → HasGrown among before after
then_grown among then before middle after weaker first second =
    let long : length (first.more ++ second.more) ≡ length first.more + length second.more =
    length-append first.more second.more in
    record {
      count = second.count ∙ first.count;
      kept = λ node is. second.kept node (first.kept node is);
      more = first.more ++ second.more;
      queue = second.queue
          ∙ (ap (λ (q : List ℕ). q ++ second.more) first.queue
          ∙ append_assoc before.queue.items first.more second.more);
      marked = λ node is. elim (Contains-append_cases first.more second.more node is) [
        | inl earlier ↦ second.kept node (first.marked node earlier)
        | inr later ↦ second.marked node later
      ];
      only = λ node is. elim (second.only node is) [
        | inl was ↦ elim (first.only node was) [
          | inl before_both ↦ inl before_both
          | inr new ↦ inr (Contains-append_left first.more second.more node new.0, new.1)
        ]
        | inr new ↦ inr (Contains-append_right first.more second.more node new.0, weaker node new.1)
      ];
      left = (let f = first.left in let s = second.left in omega arith);
    }

unmarked-set : (marked : List Bool) (node : ℕ) → node < length marked → get_or marked node false ≡ false →
    unmarked (set marked node true) + 1 ≡ unmarked marked
unmarked-set [] node below is = absurd (omega arith)
unmarked-set (true ∷ marked) zero below is = absurd (false≢true (sym is))
unmarked-set (false ∷ marked) zero below is = omega arith
unmarked-set (true ∷ marked) (suc node) below is = unmarked-set marked node (omega arith) is
unmarked-set (false ∷ marked) (suc node) below is =
    (let fewer = unmarked-set marked node (omega arith) is in omega arith)

-- a node that was not marked is marked
pub marks_one : (before after : Marks) (node : ℕ) → node < length before.marked.items →
    get_or before.marked.items node false ≡ false → after.marked.items ≡ set before.marked.items node true →
    after.queue.items ≡ before.queue.items ++ node ∷ [] → HasMarked before after node
marks_one before after node below new marked queue =
    let old : List Bool = before.marked.items in
    let here : IsMarked after.marked.items node =
    ap (λ (m : List Bool). get_or m node false) marked ∙ get_or-set_same old node true false below in
    record {
      grown = record {
        count = ap (λ (m : List Bool). length m) marked ∙ length-set old node true;
        kept = λ other is. elim (cases_eq other node) [
          | inl same ↦ subst (λ n. IsMarked after.marked.items n) (sym same) here
          | inr differs ↦ ap (λ (m : List Bool). get_or m other false) marked
              ∙ (get_or-set_other old node other true false differs ∙ is)
        ];
        more = node ∷ [];
        queue = queue;
        marked = λ other is. elim (Contains-push_cases [] node other is) [
          | inl none ↦ absurd (none_in other none)
          | inr same ↦ subst (λ n. IsMarked after.marked.items n) same here
        ];
        only = λ other is. elim (cases_eq other node) [
          | inl same ↦ inr (subst (λ n. Contains (node ∷ []) n) (sym same) (Contains-push [] node), same)
          | inr differs ↦ inl (sym (ap (λ (m : List Bool). get_or m other false) marked
              ∙ get_or-set_other old node other true false differs) ∙ is)
        ];
        left = (let fewer = unmarked-set old node below new in let e = ap unmarked marked in omega arith);
      };
      here = here;
    }

-- ---- the ends

abbrev pub AreFirst : List ℕ → Marks → Marks → ℕ → Type 0
AreFirst ends fresh marks done =
    HasGrown (λ node. Contains ends node) fresh marks
    × ((index : ℕ) → index < done → IsMarked marks.marked.items (get_or ends index 0))

pub next_end : (ends : List ℕ) (fresh before after : Marks) (done node : ℕ) → done < length ends
    → node ≡ get_or ends done 0 →
    HasMarked before after node → AreFirst ends fresh before done → AreFirst ends fresh after (done + 1)
next_end ends fresh before after done node below is marked so_far =
    let contained : Contains ends node = subst (λ n. Contains ends n) (sym is) (Contains-get_or ends done 0 below) in (
      then_grown (λ n. Contains ends n) (λ n. n ≡ node) fresh before after
          (λ other same. subst (λ n. Contains ends n) (sym same) contained) so_far.0 marked.grown,
      λ index within. elim (cases_lt index done) [
        | inl less ↦ marked.grown.kept _ (so_far.1 index less)
        | inr more ↦
            let same : done ≡ index = omega arith in
            subst (λ n. IsMarked after.marked.items (get_or ends n 0)) same
            (subst (λ n. IsMarked after.marked.items n) is marked.here)
      ],
    )

pub are_ends : (ends : List ℕ) (nodes : ℕ) (fresh marks : Marks) (done : ℕ) → length ends ≤ done
    → length fresh.marked.items ≡ nodes →
    ((node : ℕ) → IsMarked fresh.marked.items node → ⊥) → fresh.queue.items ≡ [] → AreFirst ends fresh marks done
    → AreEnds ends nodes marks
are_ends ends nodes fresh marks done all count none empty first =
    let queue : marks.queue.items ≡ first.0.more = first.0.queue ∙ ap (λ (q : List ℕ). q ++ first.0.more) empty in
    record {
      count = first.0.count ∙ count;
      ended = λ node is. subst (λ n. IsMarked marks.marked.items n) (get_or_default ends is.0 0 node is.1 ∙ is.2)
          (first.1 is.0 (let within = is.1 in omega arith));
      only = λ node is. elim (first.0.only node is) [
        | inl was ↦ absurd (none node was)
        | inr new ↦ new.1
      ];
      queued = λ node is. elim (first.0.only node is) [
        | inl was ↦ absurd (none node was)
        | inr new ↦ subst (λ (q : List ℕ). Contains q node) (sym queue) new.0
      ];
      marked = λ node is. first.0.marked node (subst (λ (q : List ℕ). Contains q node) queue is);
    }

-- ---- the nodes of the queue, one after another

pub begins_passing : (links : List Link) (ends : List ℕ) (nodes : ℕ) (marks : Marks) → AreEnds ends nodes marks
    → IsPassing links ends nodes marks 0
begins_passing links ends nodes marks first = record {
  count = first.count;
  ended = first.ended;
  ways = λ node is. ([], first.only node is);
  queued = first.queued;
  marked = first.marked;
  passed = λ index below. absurd (omega arith);
}

pub passes_on : (links : List Link) (ends : List ℕ) (nodes : ℕ) (before after : Marks) (done node : ℕ)
    → done < length before.queue.items →
    node ≡ get_or before.queue.items done 0 → HasPassed links before after node → IsPassing links ends nodes before done
    → IsPassing links ends nodes after (done + 1)
passes_on links ends nodes before after done node below is passed so_far =
    let grown = passed.grown in
    let queue : List ℕ = before.queue.items in
    let here : IsMarked before.marked.items node =
    so_far.marked node (subst (λ n. Contains queue n) (sym is) (Contains-get_or queue done 0 below)) in
    record {
      count = grown.count ∙ so_far.count;
      ended = λ other end. grown.kept other (so_far.ended other end);
      ways = λ other marked. elim (grown.only other marked) [
        | inl was ↦ so_far.ways other was
        | inr new ↦ let way = so_far.ways node here in (node ∷ way.0, (new.1, way.1))
      ];
      queued =
          λ other marked. subst (λ (q : List ℕ). Contains q other) (sym grown.queue) (elim (grown.only other marked) [
            | inl was ↦ Contains-append_left queue grown.more other (so_far.queued other was)
            | inr new ↦ Contains-append_right queue grown.more other new.0
          ]);
      marked = λ other contained. elim (Contains-append_cases queue grown.more other
          (subst (λ (q : List ℕ). Contains q other) grown.queue contained)) [
            | inl was ↦ grown.kept other (so_far.marked other was)
            | inr new ↦ grown.marked other new
          ];
      passed = λ index within. elim (cases_lt index done) [
        | inl less ↦ λ from link. grown.kept from (so_far.passed index less from
            (subst (λ n. IsLink links from n)
            (ap (λ (q : List ℕ). get_or q index 0) grown.queue
            ∙ get_or_append_left queue grown.more 0 index (omega arith)) link))
        | inr more ↦ λ from link. passed.passed from
            (subst (λ n. IsLink links from n) (ap (λ (q : List ℕ). get_or q index 0) grown.queue
            ∙ (get_or_append_left queue grown.more 0 index (omega arith)
            ∙ (let same : index ≡ done = omega arith in ap (λ n. get_or queue n 0) same ∙ sym is))) link)
      ];
    }

pub ends_passing : (links : List Link) (ends : List ℕ) (nodes : ℕ) (marks : Marks) (done : ℕ)
    → length marks.queue.items ≤ done →
    IsPassing links ends nodes marks done → AreMarks links ends nodes marks.marked.items
ends_passing links ends nodes marks done all so_far = record {
  count = so_far.count;
  ended = so_far.ended;
  passed = λ from to link marked.
      let at = so_far.queued to marked in
      so_far.passed at.0 (let within = at.1 in omega arith) from
      (subst (λ n. IsLink links from n) (sym (get_or_default marks.queue.items at.0 0 to at.1 ∙ at.2)) link);
  ways = so_far.ways;
}
