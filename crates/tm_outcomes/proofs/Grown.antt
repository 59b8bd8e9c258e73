-- A node whose core's steps are followed under several events, one after another.
use Rattle.std.proofs.Common.{◌≡◌, ◌⊎◌, inl, inr, ℕ, ◌+◌, ◌<◌, List, [], ◌∷◌, ◌++◌, Option, Some, None}
use Rattle.std.proofs.Common.{length, get_or}
use Rattle.std.proofs.Common.{take, append_assoc, refl, sym, ap, ◌∙◌, subst, arith, length-append}
use Rattle.std.proofs.lemmas.List.{take_more}
use Rattle.std.proofs.lemmas.List.Elements.{Contains-push_cases}
use Rattle.tm_model.specs.declared.outcome.Event.{Event}
use Rattle.tm_model.specs.declared.outcome.Pick.{Pick}
use Rattle.tm_outcomes.specs.Following.{AreKnownAt, IsUntouchedAt}
use Rattle.tm_outcomes.specs.Nodes.{BefallsBehind, HaveSchedules, IsFollowed, IsTree, IsUntouchedBehind}
use Rattle.tm_outcomes.specs.Nodes.{schedule_at}
use Rattle.tm_outcomes.specs.Outcomes.{IsNoneOrOneOf}
use Rattle.tm_outcomes.specs.Searching.{IsFollowedIn, IsThis}
use Rattle.tm_outcomes.specs.declared.links.Link.{Link}
use Rattle.tm_outcomes.specs.declared.searching.Followed.{Followed}
use Rattle.tm_outcomes.specs.declared.searching.Searching.{Searching}
use Rattle.tm_outcomes.specs.declared.trial.Trial.{Trial}
use Rattle.tm_outcomes.proofs.Benches.{one_schedule}
use Rattle.tm_outcomes.proofs.Follows.{followed_grown, followed_more}
use Rattle.tm_outcomes.proofs.Trees.{schedule_old}

-- a pick that is followed, by its core and its event
pub under_this : (trial : Trial) (schedules : List (List Pick)) (links : List Link) (index : ℕ) (pick : Pick) →
    IsFollowed trial schedules links index pick → (event : Option Event) → IsThis pick.event event →
    IsFollowed trial schedules links index (record { core = pick.core; event = event })
under_this trial schedules links index pick followed event is =
    subst (λ (e : Option Event). IsFollowed trial schedules links index (record { core = pick.core; event = e }))
    (sym is)
    followed

-- none of no events
none_of : (event : Event) → IsNoneOrOneOf [] (Some event) → ⊥
none_of event is = (let below = is.1 in omega arith)

-- none or one of these, or another
either_of : (events : List Event) (event : Event) (one : Option Event) → IsNoneOrOneOf (events ++ event ∷ []) one →
    IsNoneOrOneOf events one ⊎ IsThis (Some event) one
either_of events event None is = inl tt
either_of events event (Some one) is = elim (Contains-push_cases events event one is) [
  | inl before ↦ inl before
  | inr same ↦ inr (ap Some (sym same))
]

module _ (trial : Trial) (most index core : ℕ) where
  -- the tree is there still, and the node in it
  pub has_tree : (before after : Searching) (under : Option Event → Type 0) →
      IsFollowedIn trial most before after index core under → HaveSchedules trial before.nodes.items →
      HaveSchedules trial after.nodes.items
  has_tree before after under followed tree =
      let step = followed.grows tree.0 tree.1 in
      (step.grown, step.has_grown.tree)

  pub has_node : (before after : Searching) (under : Option Event → Type 0) →
      IsFollowedIn trial most before after index core under → HaveSchedules trial before.nodes.items →
      index < length before.nodes.items → index < length after.nodes.items
  has_node before after under followed tree within =
      let step = followed.grows tree.0 tree.1 in
      let counted = tree.1.counted in
      let now = step.has_grown.tree.counted in
      let long = ap (λ (g : List (List Pick)). length g) step.has_grown.grown in
      let sum = length-append tree.0 step.has_grown.more in
      omega arith

  -- and its schedule is what it was
  pub holds_still : (P : List Pick → Type 0) (before after : Searching) (under : Option Event → Type 0) →
      IsFollowedIn trial most before after index core under → HaveSchedules trial before.nodes.items →
      index < length before.nodes.items →
      ((schedules : List (List Pick)) → IsTree trial before.nodes.items schedules → P (schedule_at schedules index)) →
      (schedules : List (List Pick)) → IsTree trial after.nodes.items schedules → P (schedule_at schedules index)
  holds_still P before after under followed tree within holds = λ schedules now.
      let step = followed.grows tree.0 tree.1 in
      let counted = tree.1.counted in
      let here : index < length after.nodes.items = has_node before after under followed tree within in
      let was : schedule_at step.grown index ≡ schedule_at tree.0 index =
      ap (λ (g : List (List Pick)). schedule_at g index) step.has_grown.grown
      ∙ schedule_old tree.0 step.has_grown.more index (omega arith) in
      let same : schedule_at step.grown index ≡ schedule_at schedules index =
      one_schedule trial after.nodes.items step.grown schedules step.has_grown.tree now (length after.nodes.items)
      index here here in
      subst P (sym was ∙ same) (holds tree.0 tree.1)

  -- and so is what is known of its core
  pub known_still : (before after : Searching) (under : Option Event → Type 0) (first : Followed) →
      IsFollowedIn trial most before after index core under → HaveSchedules trial before.nodes.items →
      index < length before.nodes.items → AreKnownAt trial before.nodes.items index core first →
      AreKnownAt trial after.nodes.items index core first
  known_still before after under first followed tree within known = record {
    untouched = λ event none.
        holds_still (λ (s : List Pick). IsUntouchedBehind trial s core event) before after under followed tree within
        (known.untouched event none);
    befallen = λ event some.
        holds_still (λ (s : List Pick). BefallsBehind trial s (record { core = core; event = Some event })) before after
        under followed tree within (known.befallen event some);
  }

  -- under fewer events
  pub under_fewer : (before after : Searching) (under fewer : Option Event → Type 0) →
      ((event : Option Event) → fewer event → under event) → IsFollowedIn trial most before after index core under →
      IsFollowedIn trial most before after index core fewer
  under_fewer before after under fewer among followed = record {
    few = followed.few;
    kept = followed.kept;
    grows = λ schedules tree.
        let step = followed.grows schedules tree in
        record {
          grown = step.grown;
          has_grown = step.has_grown;
          steps = step.steps;
          followed = λ event is. step.followed event (among event is);
        };
  }

  -- under the ones, and then under the others
  pub then_under : (before middle after : Searching) (first second : Option Event → Type 0) →
      index < length before.nodes.items → IsFollowedIn trial most before middle index core first →
      IsFollowedIn trial most middle after index core second →
      IsFollowedIn trial most before after index core (λ event. first event ⊎ second event)
  then_under before middle after first second within one other = record {
    few = other.few;
    kept = λ from to link. other.kept from to (one.kept from to link);
    grows = λ schedules tree.
        let begun = one.grows schedules tree in
        let ended = other.grows begun.grown begun.has_grown.tree in
        let more = ended.has_grown.more in
        let counted = tree.counted in
        let long = ap (λ (g : List (List Pick)). length g) begun.has_grown.grown in
        let sum = length-append schedules begun.has_grown.more in
        let here : index < length begun.grown = omega arith in
        record {
          grown = ended.grown;
          has_grown = record {
            tree = ended.has_grown.tree;
            more = begun.has_grown.more ++ more;
            grown = ended.has_grown.grown
                ∙ (ap (λ (g : List (List Pick)). g ++ more) begun.has_grown.grown
                ∙ append_assoc schedules begun.has_grown.more more);
          };
          steps = λ all. ended.steps (begun.steps all);
          followed = λ event is. elim is [
            | inl earlier ↦
                let pick : Pick = record { core = core; event = event } in
                subst (λ (g : List (List Pick)). IsFollowed trial g after.links.items index pick)
                (sym ended.has_grown.grown)
                (followed_grown trial begun.grown more after.links.items index pick here
                (followed_more trial begun.grown middle.links.items after.links.items index pick other.kept
                (begun.followed event earlier)))
            | inr later ↦ ended.followed event later
          ];
        };
  }

  -- under none, before the first event of a list
  pub none_first : (before after : Searching) → IsFollowedIn trial most before after index core (IsThis None) →
      IsFollowedIn trial most before after index core (IsNoneOrOneOf [])
  none_first before after alone =
      under_fewer before after (IsThis None) (IsNoneOrOneOf []) (λ one. only_none one) alone
    where
      only_none : (one : Option Event) → IsNoneOrOneOf [] one → IsThis None one
      only_none None is = refl
      only_none (Some one) is = absurd (none_of one is)

  -- under one event more of a list
  pub next_of : (before middle after : Searching) (events : List Event) (at : ℕ) (default : Event) →
      index < length before.nodes.items → at < length events →
      IsFollowedIn trial most before middle index core (IsNoneOrOneOf (take at events)) →
      IsFollowedIn trial most middle after index core (IsThis (Some (get_or events at default))) →
      IsFollowedIn trial most before after index core (IsNoneOrOneOf (take (at + 1) events))
  next_of before middle after events at default within below so_far next =
      let event = get_or events at default in
      let Among : Option Event → Type 0 = λ one. IsNoneOrOneOf (take at events) one ⊎ IsThis (Some event) one in
      under_fewer before after Among (IsNoneOrOneOf (take (at + 1) events))
      (λ one is. either_of (take at events) event one
      (subst (λ (es : List Event). IsNoneOrOneOf es one) (take_more events at default below) is))
      (then_under before middle after (IsNoneOrOneOf (take at events)) (IsThis (Some event)) within so_far next)

  -- or under one that makes no other step, which was followed under none
  pub passed_over : (before after : Searching) (events : List Event) (at : ℕ) (default : Event) →
      at < length events → IsUntouchedAt trial after.nodes.items index core (get_or events at default) →
      IsFollowedIn trial most before after index core (IsNoneOrOneOf (take at events)) →
      IsFollowedIn trial most before after index core (IsNoneOrOneOf (take (at + 1) events))
  passed_over before after events at default below untouched so_far = record {
    few = so_far.few;
    kept = so_far.kept;
    grows = λ schedules tree.
        let step = so_far.grows schedules tree in
        record {
          grown = step.grown;
          has_grown = step.has_grown;
          steps = step.steps;
          followed = λ one is.
              elim (either_of (take at events) (get_or events at default) one
              (subst (λ (es : List Event). IsNoneOrOneOf es one) (take_more events at default below) is)) [
                | inl earlier ↦ step.followed one earlier
                | inr this ↦
                    subst (λ (e : Option Event).
                    IsFollowed trial step.grown after.links.items index (record { core = core; event = e })) (sym this)
                    (alike step.grown (get_or events at default) (untouched step.grown step.has_grown.tree)
                    (step.followed None tt))
              ];
        };
  }
    where
      alike : (schedules : List (List Pick)) (event : Event) →
          IsUntouchedBehind trial (schedule_at schedules index) core event →
          IsFollowed trial schedules after.links.items index (record { core = core; event = None }) →
          IsFollowed trial schedules after.links.items index (record { core = core; event = Some event })
      alike schedules event same followed = record {
        to = followed.to;
        is_link = followed.is_link;
        along = λ now leads.
            let step = followed.along now leads in
            record {
              next = step.next;
              is_next = same leads.end now leads.is_run leads.same ∙ step.is_next;
              rest = step.rest;
              end = step.end;
              rests = step.rests;
              leads = step.leads;
            };
      }
