-- A pick that is followed: to a node that was known, and to a new one.
use Rattle.std.proofs.Common.{◌≡◌, ℕ, ◌+◌, ◌<◌, ◌≤◌, List, [], ◌∷◌, ◌++◌, length, refl, sym, ap, ◌∙◌, subst, arith}
use Rattle.std.proofs.Common.{length-append}
use Rattle.std.specs.Prelude.{All}
use Rattle.std.proofs.lemmas.List.{append-nil}
use Rattle.std.proofs.lemmas.List.Elements.{All-append, All-cons, All-nil, Contains-append_left, Contains-push}
use Rattle.tm_model.specs.declared.outcome.Pick.{Pick}
use Rattle.tm_outcomes.specs.Links.{IsLink}
use Rattle.tm_outcomes.specs.Nodes.{HasRun, IsFollowed, IsPickOf, IsStep, IsTree, LeadsAlong, schedule_at}
use Rattle.tm_outcomes.specs.Searching.{IsFollowedIn, IsThis}
use Rattle.tm_outcomes.specs.declared.links.Link.{Link}
use Rattle.tm_outcomes.specs.declared.nodes.Node.{Node}
use Rattle.tm_outcomes.specs.declared.searching.Searching.{Searching}
use Rattle.tm_outcomes.specs.declared.trial.Trial.{Trial}
use Rattle.tm_outcomes.proofs.Follows.{steps_grown}
use Rattle.tm_outcomes.proofs.Grown.{under_this}
use Rattle.tm_outcomes.proofs.Trees.{grows}

kept_links : (before after : List Link) (link : Link) → after ≡ before ++ link ∷ []
    → (from to : ℕ) → IsLink before from to → IsLink after from to
kept_links before after link more from to is =
    subst (λ (ls : List Link). IsLink ls from to) (sym more)
    (Contains-append_left before (link ∷ []) (record { from = from; to = to }) is)

-- one step more
steps_more : (trial : Trial) (schedules : List (List Pick)) (before after : List Link) (link : Link)
    → after ≡ before ++ link ∷ [] →
    IsStep trial schedules link → All (IsStep trial schedules) before → All (IsStep trial schedules) after
steps_more trial schedules before after link more is steps =
    subst (λ (ls : List Link). All (IsStep trial schedules) ls) (sym more)
    (All-append (IsStep trial schedules) before (link ∷ []) steps
    (All-cons (IsStep trial schedules) link [] is (All-nil (IsStep trial schedules))))

followed_by : (trial : Trial) (schedules : List (List Pick)) (before after : List Link) (index to : ℕ) (pick : Pick) →
    after ≡ before ++ record { from = index; to = to } ∷ [] → LeadsAlong trial schedules index pick to →
    IsFollowed trial schedules after index pick
followed_by trial schedules before after index to pick more along = record {
  to = to;
  is_link = subst (λ (ls : List Link). IsLink ls index to) (sym more)
      (Contains-push before (record { from = index; to = to }));
  along = along;
}

pub to_known : (trial : Trial) (most index to : ℕ) (pick : Pick) (before after : Searching) →
    after.nodes.items ≡ before.nodes.items
    → after.links.items ≡ before.links.items ++ record { from = index; to = to } ∷ [] →
    length before.nodes.items ≤ most → index < length before.nodes.items → to < length before.nodes.items
    → IsPickOf trial pick →
    ((schedules : List (List Pick)) → IsTree trial before.nodes.items schedules
    → LeadsAlong trial schedules index pick to) →
    IsFollowedIn trial most before after index pick.core (IsThis pick.event)
to_known trial most index to pick before after nodes links few within there is_pick along = record {
  few = subst (λ (ns : List Node). length ns ≤ most) (sym nodes) few;
  kept = kept_links before.links.items after.links.items (record { from = index; to = to }) links;
  grows = λ schedules tree.
      let counted = tree.counted in
      let leads = along schedules tree in
      record {
        grown = schedules;
        has_grown = record {
          tree = subst (λ (ns : List Node). IsTree trial ns schedules) (sym nodes) tree;
          more = [];
          grown = sym (append-nil schedules);
        };
        steps = steps_more trial schedules before.links.items after.links.items (record { from = index; to = to }) links
            (record {
              within = record { from = (omega arith); to = (omega arith) };
              pick = pick;
              is_pick = is_pick;
              along = leads;
            });
        followed = under_this trial schedules after.links.items index pick
            (followed_by trial schedules before.links.items after.links.items index to pick links leads);
      };
}

pub to_new : (trial : Trial) (most index : ℕ) (pick : Pick) (steps : List Pick) (node : Node) (before after : Searching)
    → node.parent ≡ index →
    node.steps.items ≡ steps → All (IsPickOf trial) steps → after.nodes.items ≡ before.nodes.items ++ node ∷ [] →
    after.links.items ≡ before.links.items ++ record { from = index; to = length before.nodes.items } ∷ [] →
    length before.nodes.items < most → index < length before.nodes.items → IsPickOf trial pick →
    ((schedules : List (List Pick)) → IsTree trial before.nodes.items schedules
    → HasRun trial (schedule_at schedules index ++ steps)) →
    ((schedules : List (List Pick)) → IsTree trial before.nodes.items schedules →
    LeadsAlong trial (schedules ++ (schedule_at schedules index ++ steps) ∷ []) index pick (length schedules)) →
    IsFollowedIn trial most before after index pick.core (IsThis pick.event)
to_new trial most index pick steps node before after parent is are_picks nodes links few within is_pick run along =
    record {
      few = subst (λ (ns : List Node). length ns ≤ most) (sym nodes)
          (let long = length-append before.nodes.items (node ∷ []) in omega arith);
      kept =
          kept_links before.links.items after.links.items
          (record { from = index; to = length before.nodes.items }) links;
      grows = λ schedules tree.
          let counted = tree.counted in
          let added : List Pick = schedule_at schedules index ++ steps in
          let same : schedule_at schedules node.parent ++ node.steps.items ≡ added =
          ap (λ i. schedule_at schedules i ++ node.steps.items) parent
          ∙ ap (λ (s : List Pick). schedule_at schedules index ++ s) is in
          let now : List (List Pick) = schedules ++ added ∷ [] in
          let longer : length now ≡ length schedules + 1 = length-append schedules (added ∷ []) in
          let leads : LeadsAlong trial now index pick (length before.nodes.items) =
          subst (λ n. LeadsAlong trial now index pick n) counted (along schedules tree) in
          let tree_now : IsTree trial (before.nodes.items ++ node ∷ []) now =
          subst (λ (s : List Pick). IsTree trial (before.nodes.items ++ node ∷ []) (schedules ++ s ∷ [])) same
          (grows trial before.nodes.items schedules node tree (omega arith)
          (subst (λ (s : List Pick). All (IsPickOf trial) s) (sym is) are_picks)
          (subst (λ (s : List Pick). HasRun trial s) (sym same) (run schedules tree))) in
          record {
            grown = now;
            has_grown = record {
              tree = subst (λ (ns : List Node). IsTree trial ns now) (sym nodes) tree_now;
              more = added ∷ [];
              grown = refl;
            };
            steps = λ all. steps_more trial now before.links.items after.links.items
                (record { from = index; to = length before.nodes.items }) links
                (record {
                  within = record { from = (omega arith); to = (omega arith) };
                  pick = pick;
                  is_pick = is_pick;
                  along = leads;
                }) (steps_grown trial schedules (added ∷ []) before.links.items all);
            followed = under_this trial now after.links.items index pick
                (followed_by trial now before.links.items after.links.items index (length before.nodes.items)
                pick links leads);
          };
    }
