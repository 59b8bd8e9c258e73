-- The nodes of a search are pairwise different.
use Rattle.std.proofs.Common.{◌≡◌, ◌≢◌, inl, inr, ℕ, ◌+◌, ◌<◌, ◌≤◌, Bool, true, false, cond, List, [], ◌∷◌, ◌++◌}
use Rattle.std.proofs.Common.{Option, Some, None, length, refl, sym, ap, ◌∙◌, subst, arith, length-append}
use Rattle.std.specs.Prelude.{All, nat_eq}
use Rattle.std.specs.HashMap.{Updates, get}
use Rattle.std.specs.Map.{lookup}
use Rattle.std.proofs.lemmas.Bool.{cases_lt, eq-eqb, eqb-true, false≢true}
use Rattle.std.proofs.lemmas.List.Elements.{All-weaker}
use Rattle.tm_model.specs.declared.outcome.Pick.{Pick}
use Rattle.tm_outcomes.specs.Digests.{digest_by}
use Rattle.tm_outcomes.specs.Kept.{AreApart, AreKept, AreNewest, AreOlder, HasDigest, IsNewest, IsOther, digest_at}
use Rattle.tm_outcomes.specs.Kept.{older_at}
use Rattle.tm_outcomes.specs.Nodes.{HasRun, IsPickOf, IsTree, schedule_at}
use Rattle.tm_outcomes.specs.Outcomes.{IsAllowed, trial_setting}
use Rattle.tm_outcomes.specs.Places.{AreAlike, IsAt}
use Rattle.tm_outcomes.specs.Schedules.{Situation}
use Rattle.tm_outcomes.specs.Verdicts.{AreDifferent, AreSame, HasFound}
use Rattle.tm_outcomes.specs.Written.{HasMore, IsAtNode, IsWrittenOf}
use Rattle.tm_outcomes.specs.declared.nodes.Node.{Node}
use Rattle.tm_outcomes.specs.declared.place.Place.{Place}
use Rattle.tm_outcomes.specs.declared.searching.Search.{Search}
use Rattle.tm_outcomes.specs.declared.searching.Searching.{Searching}
use Rattle.tm_outcomes.specs.declared.trial.Trial.{Trial}
use Rattle.tm_outcomes.specs.declared.written.Written.{Written}
use Rattle.tm_outcomes.proofs.Benches.{at_grown, one_schedule, place_at}
use Rattle.tm_outcomes.proofs.Digests.{noted_later, same_digest}
use Rattle.tm_outcomes.proofs.Leads.{shows}
use Rattle.tm_outcomes.proofs.Somes.{same_in}
use Rattle.tm_outcomes.proofs.Trees.{grows, part_new, part_old, schedule_new, schedule_old}

-- ---- places that are alike

pub alike_then : (a b c : Place) → AreAlike a b → AreAlike b c → AreAlike a c
alike_then a b c one other = record {
  memory = one.memory ∙ other.memory;
  count = one.count ∙ other.count;
  each = λ core below. one.each core below ∙ other.each core (let same = one.count in omega arith);
  pending = λ core below. one.pending core below ∙ other.pending core (let same = one.count in omega arith);
}

pub alike_back : (a b : Place) → AreAlike a b → AreAlike b a
alike_back a b alike = record {
  memory = sym alike.memory;
  count = sym alike.count;
  each = λ core below. sym (alike.each core (let same = alike.count in omega arith));
  pending = λ core below. sym (alike.pending core (let same = alike.count in omega arith));
}

-- machines at situations that are the same
pub same_alike : (trial : Trial) (a b : Place) (s t : List Pick) (here : IsAt trial a s) (there : IsAt trial b t) →
    AreSame trial here.now there.now → AreAlike a b
same_alike trial a b s t here there same = record {
  memory = here.stands.same_memory ∙ (same.memory ∙ sym there.stands.same_memory);
  count = here.stands.same_count ∙ (same.count ∙ sym there.stands.same_count);
  each = λ core below.
      let first = here.stands.same_count in
      let second = there.stands.same_count in
      let count = same.count in
      same_in
      (sym (shows a.machine (trial_setting trial) here.now here.rules here.stands core below)
      ∙ (same.each core (omega arith)
      ∙ shows b.machine (trial_setting trial) there.now there.rules there.stands core (omega arith)));
  pending = λ core below.
      let first = here.stands.same_count in
      let second = there.stands.same_count in
      let count = same.count in
      here.stands.same_pending core below
      ∙ (same.pending core (omega arith) ∙ sym (there.stands.same_pending core (omega arith)));
}

-- machines at the end of one schedule
pub at_alike : (trial : Trial) (a b : Place) (schedule : List Pick) → IsAt trial a schedule
    → IsAt trial b schedule → AreAlike a b
at_alike trial a b schedule here there =
    let now : here.now ≡ there.now = same_in (sym here.is_run ∙ there.is_run) in
    same_alike trial a b schedule schedule here there
    (subst (λ (x : Situation). AreSame trial here.now x) now
    (record { memory = refl; count = refl; each = λ core below. refl; pending = λ core below. refl }))

-- ---- nodes that are others

pub other_by : (trial : Trial) (nodes : List Node) (place there : Place) (index : ℕ)
    → IsAtNode trial nodes there (Some index) →
    ¬ AreAlike place there → IsOther trial nodes place index
other_by trial nodes place there index at apart = λ schedules tree other is alike.
    apart (alike_then place other there alike
    (at_alike trial other there (schedule_at schedules index) is (at.1 schedules tree)))

pub other_digest : (trial : Trial) (nodes : List Node) (written : Written) (place : Place) (index : ℕ) →
    HasDigest trial nodes written index → digest_at nodes index ≢ digest_by written place
    → IsOther trial nodes place index
other_digest trial nodes written place index has differs = λ schedules tree other is alike.
    differs (has.digest
    ∙ (same_digest written has.place other
    (at_alike trial has.place other (schedule_at schedules index) (has.at.1 schedules tree) is)
    ∙ sym (same_digest written place other alike)))

-- ---- the nodes that a digest leads to, from the last one on

-- those from an end on are others
pub record IsLooking (trial : Trial) (nodes : List Node) (written : Written) (place : Place)
    (next : Option ℕ) : Type 0 where
  pub end : ℕ
  pub within : end ≤ length nodes
  pub last : IsNewest nodes (digest_by written place) end next
  pub done : (index : ℕ) → end ≤ index → index < length nodes → IsOther trial nodes place index

pub looks : (trial : Trial) (nodes : List Node) (written : Written) (place : Place) (next : Option ℕ) →
    IsNewest nodes (digest_by written place) (length nodes) next → IsLooking trial nodes written place next
looks trial nodes written place next is = record {
  end = length nodes;
  within = omega arith;
  last = is;
  done = λ index above below. absurd (omega arith);
}

pub index_within : (trial : Trial) (nodes : List Node) (written : Written) (place : Place) (index : ℕ) →
    IsLooking trial nodes written place (Some index) → index < length nodes
index_within trial nodes written place index so_far =
    (let within = so_far.within in let below = so_far.last.0 in omega arith)

pub looks_on : (trial : Trial) (nodes : List Node) (written : Written) (place : Place) (index : ℕ) (next : Option ℕ) →
    AreApart trial nodes written → IsOther trial nodes place index → next ≡ older_at nodes index →
    IsLooking trial nodes written place (Some index) → IsLooking trial nodes written place next
looks_on trial nodes written place index next apart here older so_far =
    let below : index < length nodes = index_within trial nodes written place index so_far in
    record {
      end = index;
      within = omega arith;
      last = subst (λ (o : Option ℕ). IsNewest nodes (digest_by written place) index o) (sym older)
          (subst (λ d. IsNewest nodes d index (older_at nodes index)) so_far.last.1 (apart.older index below));
      done = λ other above within. elim (cases_lt other so_far.end) [
        | inl less ↦ elim (cases_lt index other) [
          | inl between ↦
              other_digest trial nodes written place other (apart.digests other within)
              (so_far.last.2 other between less)
          | inr same ↦
              let is : index ≡ other = omega arith in
              subst (λ n. IsOther trial nodes place n) is here
        ]
        | inr behind ↦ so_far.done other behind within
      ];
    }

pub all_others : (trial : Trial) (nodes : List Node) (written : Written) (place : Place)
    → AreApart trial nodes written →
    IsLooking trial nodes written place None → (index : ℕ) → index < length nodes → IsOther trial nodes place index
all_others trial nodes written place apart whole index within = elim (cases_lt index whole.end) [
  | inl less ↦ other_digest trial nodes written place index (apart.digests index within) (whole.last index less)
  | inr behind ↦ whole.done index behind within
]

-- the measure
abbrev pub left_of : Option ℕ → ℕ
left_of None = 0
left_of (Some index) = index + 1

pub fewer_left : (nodes : List Node) (digest index : ℕ) (next : Option ℕ) → IsNewest nodes digest index next
    → left_of next < index + 1
fewer_left nodes digest index None is = omega arith
fewer_left nodes digest index (Some other) is = (let below = is.0 in omega arith)

-- ---- where nothing changes

pub newest_same : (before after : Searching) → after.nodes ≡ before.nodes → after.newest ≡ before.newest
    → AreNewest before → AreNewest after
newest_same before after nodes newest was = λ digest.
    subst (λ m. IsNewest after.nodes.items digest (length after.nodes.items) (get nat_eq m digest)) (sym newest)
    (subst (λ v. IsNewest v.items digest (length v.items) (get nat_eq before.newest digest)) (sym nodes) (was digest))

pub kept_same : (trial : Trial) (before after : Searching) (old new : Written) → after.nodes ≡ before.nodes →
    after.newest ≡ before.newest → new ≡ old → AreKept trial before old → AreKept trial after new
kept_same trial before after old new nodes newest same kept = record {
  apart = subst (λ (w : Written). AreApart trial after.nodes.items w) (sym same)
      (subst (λ v. AreApart trial v.items old) (sym nodes) kept.apart);
  newest = newest_same before after nodes newest kept.newest;
}

-- ---- with more lines

pub apart_noted : (trial : Trial) (nodes : List Node) (before after : Written) → after.opening ≡ before.opening →
    HasMore before.lines.items after.lines.items → IsWrittenOf trial nodes before → AreApart trial nodes before →
    AreApart trial nodes after
apart_noted trial nodes before after same more written apart = record {
  digests = λ index below.
      let has = apart.digests index below in
      let schedule : List Pick = schedule_at written.schedules index in
      let at : IsAt trial has.place schedule = has.at.1 written.schedules written.tree in
      let elsewhere =
      place_at trial before has.place schedule written.opening (record { rules = at.rules; count = at.count }) at
      (written.within index below) in
      record {
        place = has.place;
        at = has.at;
        digest = has.digest ∙ sym (noted_later before after has.place same more elsewhere.memory);
      };
  older = apart.older;
  apart = apart.apart;
}

-- ---- with a node more

newest_grown : (nodes : List Node) (node : Node) (digest end : ℕ) (found : Option ℕ) → end ≤ length nodes →
    IsNewest nodes digest end found → IsNewest (nodes ++ node ∷ []) digest end found
newest_grown nodes node digest end None within is = λ other below same.
    is other below (sym (part_old (λ (n : Node). n.digest) 0 nodes node other (omega arith)) ∙ same)
newest_grown nodes node digest end (Some index) within is =
    let below = is.0 in (
      below,
      part_old (λ (n : Node). n.digest) 0 nodes node index (omega arith) ∙ is.1,
      λ other above less same. is.2 other above less
          (sym (part_old (λ (n : Node). n.digest) 0 nodes node other (omega arith)) ∙ same),
    )

newest_other : (nodes : List Node) (digest end : ℕ) (found : Option ℕ) → digest_at nodes end ≢ digest →
    IsNewest nodes digest end found → IsNewest nodes digest (end + 1) found
newest_other nodes digest end None elsewhere is = λ other below. elim (cases_lt other end) [
  | inl less ↦ is other less
  | inr more ↦
      let same : end ≡ other = omega arith in
      subst (λ n. digest_at nodes n ≢ digest) same elsewhere
]
newest_other nodes digest end (Some index) elsewhere is = (
  (let below = is.0 in omega arith),
  is.1,
  λ other above below. elim (cases_lt other end) [
    | inl less ↦ is.2 other above less
    | inr more ↦
        let same : end ≡ other = omega arith in
        subst (λ n. digest_at nodes n ≢ digest) same elsewhere
  ],
)

newest_here : (nodes : List Node) (digest end : ℕ) → digest_at nodes end ≡ digest
    → IsNewest nodes digest (end + 1) (Some end)
newest_here nodes digest end here = (omega arith, here, λ other above below. absurd (omega arith))

newest_by : (nodes : List Node) (node : Node) (digest : ℕ) (found now : Option ℕ) (is : Bool)
    → nat_eq node.digest digest ≡ is →
    now ≡ cond is (Some (length nodes)) found → IsNewest nodes digest (length nodes) found →
    IsNewest (nodes ++ node ∷ []) digest (length nodes + 1) now
newest_by nodes node digest found now true is same was =
    subst (λ (o : Option ℕ). IsNewest (nodes ++ node ∷ []) digest (length nodes + 1) o) (sym same)
    (newest_here (nodes ++ node ∷ []) digest (length nodes)
    (part_new (λ (n : Node). n.digest) 0 nodes node (length nodes) refl ∙ eqb-true node.digest digest is))
newest_by nodes node digest found now false is same was =
    subst (λ (o : Option ℕ). IsNewest (nodes ++ node ∷ []) digest (length nodes + 1) o) (sym same)
    (newest_other (nodes ++ node ∷ []) digest (length nodes) found
    (λ here. false≢true (sym is ∙ eq-eqb node.digest digest
    (sym (part_new (λ (n : Node). n.digest) 0 nodes node (length nodes) refl) ∙ here)))
    (newest_grown nodes node digest (length nodes) found (omega arith) was))

pub newest_added : (before after : Searching) (node : Node) → after.nodes.items ≡ before.nodes.items ++ node ∷ [] →
    Updates nat_eq before.newest after.newest node.digest (Some (length before.nodes.items)) → AreNewest before
    → AreNewest after
newest_added before after node added updates was = λ digest.
    let nodes : List Node = before.nodes.items in
    let long : length (nodes ++ node ∷ []) ≡ length nodes + 1 = length-append nodes (node ∷ []) in
    subst (λ (ns : List Node). IsNewest ns digest (length ns) (get nat_eq after.newest digest)) (sym added)
    (subst (λ n. IsNewest (nodes ++ node ∷ []) digest n (get nat_eq after.newest digest)) (sym long)
    (newest_by nodes node digest (get nat_eq before.newest digest) (get nat_eq after.newest digest)
    (nat_eq node.digest digest) refl
    (updates.0 digest) (was digest)))

-- what is new is a machine at the end of the node's schedule, and no node before is the same
module _ (trial : Trial) (nodes after : List Node) (node : Node) (written : Written)
    (schedules : List (List Pick)) (here : Place)
    (tree : IsTree trial nodes schedules) (added : after ≡ nodes ++ node ∷ []) (parent : node.parent < length nodes)
    (are_picks : All (IsPickOf trial) node.steps.items)
    (has_run : HasRun trial (schedule_at schedules node.parent ++ node.steps.items))
    (at_here : IsAt trial here (schedule_at schedules node.parent ++ node.steps.items)) where
  abbrev last : List Pick
  last = schedule_at schedules node.parent ++ node.steps.items

  abbrev grown : List (List Pick)
  grown = schedules ++ last ∷ []

  tree_now : IsTree trial after grown
  tree_now = subst (λ (ns : List Node). IsTree trial ns grown) (sym added)
      (grows trial nodes schedules node tree parent are_picks has_run)

  long : length after ≡ length nodes + 1
  long = ap (λ (ns : List Node). length ns) added ∙ length-append nodes (node ∷ [])

  old_is : (others : List (List Pick)) → IsTree trial after others → (index : ℕ) → index < length nodes →
      schedule_at others index ≡ schedule_at schedules index
  old_is others is index below =
      let counted = tree.counted in
      let longer = long in
      one_schedule trial after others grown is tree_now (length after) index (omega arith) (omega arith)
      ∙ schedule_old schedules (last ∷ []) index (omega arith)

  new_is : (others : List (List Pick)) → IsTree trial after others → (index : ℕ) → index ≡ length nodes →
      schedule_at others index ≡ last
  new_is others is index e =
      let counted = tree.counted in
      let longer = long in
      one_schedule trial after others grown is tree_now (length after) index (omega arith) (omega arith)
      ∙ schedule_new schedules last index (omega arith)

  digest_old : (index : ℕ) → index < length nodes → digest_at after index ≡ digest_at nodes index
  digest_old index below =
      ap (λ (ns : List Node). digest_at ns index) added ∙ part_old (λ (n : Node). n.digest) 0 nodes node index below

  digest_new : (index : ℕ) → index ≡ length nodes → digest_at after index ≡ node.digest
  digest_new index e =
      ap (λ (ns : List Node). digest_at ns index) added ∙ part_new (λ (n : Node). n.digest) 0 nodes node index e

  older_old : (index : ℕ) → index < length nodes → older_at after index ≡ older_at nodes index
  older_old index below =
      ap (λ (ns : List Node). older_at ns index) added ∙ part_old (λ (n : Node). n.older) None nodes node index below

  older_new : (index : ℕ) → index ≡ length nodes → older_at after index ≡ node.older
  older_new index e =
      ap (λ (ns : List Node). older_at ns index) added ∙ part_new (λ (n : Node). n.older) None nodes node index e

  newest_now : (digest end : ℕ) (found : Option ℕ) → end ≤ length nodes → IsNewest nodes digest end found →
      IsNewest after digest end found
  newest_now digest end found within is =
      subst (λ (ns : List Node). IsNewest ns digest end found) (sym added)
      (newest_grown nodes node digest end found within is)

  digests_grown : node.digest ≡ digest_by written here → AreApart trial nodes written
      → (index : ℕ) → index < length after →
      HasDigest trial after written index
  digests_grown digest apart index below = elim (cases_lt index (length nodes)) [
    | inl earlier ↦
        let has = apart.digests index earlier in
        record {
          place = has.place;
          at = at_grown trial nodes after node schedules has.place (Some index) tree added parent
              are_picks has_run has.at;
          digest = digest_old index earlier ∙ has.digest;
        }
    | inr later ↦
        let longer = long in
        let is_last : index ≡ length nodes = omega arith in
        record {
          place = here;
          at = (
            below,
            λ others is. subst (λ (s : List Pick). IsAt trial here s) (sym (new_is others is index is_last)) at_here,
          );
          digest = digest_new index is_last ∙ digest;
        }
  ]

  older_grown : IsNewest nodes node.digest (length nodes) node.older → AreOlder nodes → AreOlder after
  older_grown newest older = λ index below. elim (cases_lt index (length nodes)) [
    | inl earlier ↦
        subst (λ d. IsNewest after d index (older_at after index)) (sym (digest_old index earlier))
        (subst (λ (o : Option ℕ). IsNewest after (digest_at nodes index) index o) (sym (older_old index earlier))
        (newest_now (digest_at nodes index) index (older_at nodes index) (omega arith) (older index earlier)))
    | inr later ↦
        let longer = long in
        let is_last : index ≡ length nodes = omega arith in
        subst (λ d. IsNewest after d index (older_at after index)) (sym (digest_new index is_last))
        (subst (λ (o : Option ℕ). IsNewest after node.digest index o) (sym (older_new index is_last))
        (newest_now node.digest index node.older (omega arith)
        (subst (λ n. IsNewest nodes node.digest n node.older) (sym is_last) newest)))
  ]

  pub apart_grown : node.digest ≡ digest_by written here → IsNewest nodes node.digest (length nodes) node.older →
      ((index : ℕ) → index < length nodes → IsOther trial nodes here index) → AreApart trial nodes written →
      AreApart trial after written
  apart_grown digest newest others apart = record {
    digests = digests_grown digest apart;
    older = older_grown newest apart.older;
    apart = λ first second below within one tree_one place at two tree_two other is alike.
        let longer = long in
        let first_old : first < length nodes = omega arith in
        let there : IsAt trial other (schedule_at schedules first) =
        subst (λ (s : List Pick). IsAt trial other s) (old_is two tree_two first first_old) is in
        elim (cases_lt second (length nodes)) [
          | inl earlier ↦
              apart.apart first second below earlier schedules tree place
              (subst (λ (s : List Pick). IsAt trial place s) (old_is one tree_one second earlier) at) schedules tree
              other there alike
          | inr later ↦
              let same : AreAlike here place = at_alike trial here place last at_here
              (subst (λ (s : List Pick). IsAt trial place s) (new_is one tree_one second (omega arith)) at) in
              others first first_old schedules tree other there (alike_then here place other same alike)
        ];
  }

-- ---- before the first step

pub newest_none : (search : Searching) → search.nodes.items ≡ [] → search.newest.entries ≡ [] → AreNewest search
newest_none search nodes newest = λ digest.
    let none : length search.nodes.items ≡ 0 = ap (λ (ns : List Node). length ns) nodes in
    subst (λ (o : Option ℕ). IsNewest search.nodes.items digest (length search.nodes.items) o)
    (sym (ap (lookup (nat_eq digest)) newest)) (λ other below. absurd (omega arith))

pub older_first : (node : Node) → node.older ≡ None → AreOlder (node ∷ [])
older_first node none = λ index below.
    let nodes : List Node = node ∷ [] in
    let first : 0 ≡ index = omega arith in
    subst (λ n. IsNewest nodes (digest_at nodes n) n (older_at nodes n)) first
    (subst (λ (o : Option ℕ). IsNewest nodes node.digest 0 o) (sym none) (λ other under. absurd (omega arith)))

pub apart_first : (trial : Trial) (nodes : List Node) (written : Written) (schedules : List (List Pick))
    (here : Place) →
    IsTree trial nodes schedules → length nodes ≡ 1 → IsAt trial here [] → digest_at nodes 0 ≡ digest_by written here →
    AreOlder nodes → AreApart trial nodes written
apart_first trial nodes written schedules here tree one at digest older = record {
  digests = λ index below.
      let first : 0 ≡ index = omega arith in
      record {
        place = here;
        at = (
          below,
          λ others is.
              let root : schedule_at others index ≡ [] = subst (λ n. schedule_at others n ≡ []) first is.root in
              subst (λ (s : List Pick). IsAt trial here s) (sym root) at,
        );
        digest = subst (λ n. digest_at nodes n ≡ digest_by written here) first digest;
      };
  older = older;
  apart = λ first second below within. absurd (omega arith);
}

-- ---- what is told of them

pub are_different : (trial : Trial) (nodes : List Node) (written : Written) (schedules : List (List Pick)) →
    IsTree trial nodes schedules → AreApart trial nodes written → AreDifferent trial schedules
are_different trial nodes written schedules tree apart = λ first second below within one other here there same.
    let counted = tree.counted in
    let a = apart.digests first (omega arith) in
    let b = apart.digests second (omega arith) in
    let at_a : IsAt trial a.place (schedule_at schedules first) = a.at.1 schedules tree in
    let at_b : IsAt trial b.place (schedule_at schedules second) = b.at.1 schedules tree in
    let one_is : one ≡ at_a.now = same_in (sym here.is_run ∙ at_a.is_run) in
    let other_is : other ≡ at_b.now = same_in (sym there.is_run ∙ at_b.is_run) in
    apart.apart first second below (omega arith) schedules tree b.place at_b schedules tree a.place at_a
    (alike_back a.place b.place
    (same_alike trial a.place b.place (schedule_at schedules first) (schedule_at schedules second) at_a at_b
    (subst (λ (x : Situation). AreSame trial x at_b.now) one_is
    (subst (λ (x : Situation). AreSame trial one x) other_is same))))

pub has_found : (trial : Trial) (nodes : List Node) (written : Written) (schedules : List (List Pick)) (told : Search) →
    IsTree trial nodes schedules → AreApart trial nodes written → told.states ≡ length nodes → HasFound trial told
has_found trial nodes written schedules told tree apart states = record {
  schedules = schedules;
  count = tree.counted ∙ sym states;
  reached = λ index below.
      let run = tree.runs index (omega arith) in (
        run.0,
        record {
          allowed = All-weaker (IsPickOf trial) (λ (pick : Pick). IsAllowed trial.events pick.event)
              (λ (pick : Pick) is. is.allowed)
              (schedule_at schedules index) (tree.picks index (omega arith));
          is_run = run.1;
        },
      );
  different = are_different trial nodes written schedules tree apart;
}
