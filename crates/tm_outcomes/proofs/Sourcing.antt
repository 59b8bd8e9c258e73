-- Links in the reverse direction.
use Rattle.std.proofs.Common.{◌≡◌, ◌≢◌, inl, inr, ℕ, suc, ◌+◌, ◌<◌, ◌≤◌, List, [], ◌∷◌, Option, Some, None, length}
use Rattle.std.proofs.Common.{get_or, set}
use Rattle.std.proofs.Common.{sym, ap, ◌∙◌, subst, arith, length-append}
use Rattle.std.proofs.Math.ListN.{length-set}
use Rattle.std.proofs.lemmas.Bool.{cases_eq, cases_lt}
use Rattle.std.proofs.lemmas.List.{get_or-set_other, get_or-set_same, get_or_append_left, get_or_default, get_or_push}
use Rattle.std.proofs.lemmas.List.Elements.{Contains-get_or}
use Rattle.tm_outcomes.specs.Links.{AreSourcesTo, HasSource, IsLast, IsLink, link_at, no_link}
use Rattle.tm_outcomes.specs.declared.links.Link.{Link}
use Rattle.tm_outcomes.specs.declared.links.Sources.{Sources}

-- where the next link leads elsewhere, the last stays
last_other : (links : List Link) (node end : ℕ) (last : Option ℕ) → (link_at links end).to ≢ node →
    IsLast links node end last → IsLast links node (end + 1) last
last_other links node end None elsewhere is = λ other below. elim (cases_lt other end) [
  | inl less ↦ is other less
  | inr more ↦
      let same : end ≡ other = omega arith in
      subst (λ n. (link_at links n).to ≢ node) same elsewhere
]
last_other links node end (Some index) elsewhere is = (
  (let below = is.0 in omega arith),
  is.1,
  λ other above below. elim (cases_lt other end) [
    | inl less ↦ is.2 other above less
    | inr more ↦
        let same : end ≡ other = omega arith in
        subst (λ n. (link_at links n).to ≢ node) same elsewhere
  ],
)

last_here : (links : List Link) (node end : ℕ) → (link_at links end).to ≡ node → IsLast links node (end + 1) (Some end)
last_here links node end here = (omega arith, here, λ other above below. absurd (omega arith))

-- one link more
pub one_more : (links : List Link) (nodes end to : ℕ) (before after : Sources)
    → to ≡ (link_at links end).to → to < nodes →
    HasSource before after to end → AreSourcesTo links nodes before end → AreSourcesTo links nodes after (end + 1)
one_more links nodes end to before after is below has so_far =
    let newest : List (Option ℕ) = before.newest.items in
    let older : List (Option ℕ) = before.older.items in
    let count : length newest ≡ nodes = so_far.nodes_count in
    let long : length older ≡ end = so_far.links_count in
    record {
      nodes_count = ap (λ (os : List (Option ℕ)). length os) has.newest ∙ (length-set newest to (Some end) ∙ count);
      links_count = ap (λ (os : List (Option ℕ)). length os) has.older
          ∙ (length-append older (get_or newest to None ∷ []) ∙ ap (λ n. n + 1) long);
      newest = λ node within.
          subst (λ (os : List (Option ℕ)). IsLast links node (end + 1) (get_or os node None)) (sym has.newest)
          (elim (cases_eq node to) [
            | inl same ↦
                subst (λ (o : Option ℕ). IsLast links node (end + 1) o)
                (sym (ap (λ n. get_or (set newest to (Some end)) n None) same
                ∙ get_or-set_same newest to (Some end) None (omega arith)))
                (last_here links node end (sym is ∙ sym same))
            | inr differs ↦
                subst (λ (o : Option ℕ). IsLast links node (end + 1) o)
                (sym (get_or-set_other newest to node (Some end) None differs))
                (last_other links node end (get_or newest node None) (λ here. differs (sym here ∙ sym is))
                (so_far.newest node within))
          ]);
      older = λ index within.
          subst (λ (os : List (Option ℕ)). IsLast links (link_at links index).to index (get_or os index None))
          (sym has.older)
          (elim (cases_lt index end) [
            | inl less ↦
                subst (λ (o : Option ℕ). IsLast links (link_at links index).to index o)
                (sym (get_or_append_left older (get_or newest to None ∷ []) None index (omega arith)))
                (so_far.older index less)
            | inr more ↦
                let same : index ≡ end = omega arith in
                subst (λ (o : Option ℕ). IsLast links (link_at links index).to index o)
                (sym (get_or_push older (get_or newest to None) None index (omega arith)))
                (subst (λ n. IsLast links n index (get_or newest to None))
                (is ∙ ap (λ n. (link_at links n).to) (sym same))
                (subst (λ n. IsLast links to n (get_or newest to None)) (sym same) (so_far.newest to below)))
          ]);
    }

-- ---- the links that lead to a node, from the last one on

-- each from an end on has been looked at
pub record IsLooking (links : List Link) (looked : ℕ → Type 0) (node : ℕ) (next : Option ℕ) : Type 0 where
  pub end : ℕ
  pub within : end ≤ length links
  pub last : IsLast links node end next
  pub done : (index : ℕ) → end ≤ index → index < length links → (link_at links index).to ≡ node →
      looked (link_at links index).from

pub looks_on : (links : List Link) (before after : ℕ → Type 0) (node index : ℕ) (next : Option ℕ) →
    ((from : ℕ) → before from → after from) → after (link_at links index).from →
    IsLast links (link_at links index).to index next → IsLooking links before node (Some index) →
    IsLooking links after node next
looks_on links before after node index next kept here older so_far = record {
  end = index;
  within = (let within = so_far.within in let below = so_far.last.0 in omega arith);
  last = subst (λ n. IsLast links n index next) so_far.last.1 older;
  done = λ other above below leads. elim (cases_lt other so_far.end) [
    | inl less ↦ elim (cases_lt index other) [
      | inl between ↦ absurd (so_far.last.2 other between less leads)
      | inr same ↦
          let is : index ≡ other = omega arith in
          subst (λ n. after (link_at links n).from) is here
    ]
    | inr behind ↦ kept _ (so_far.done other behind below leads)
  ];
}

link_is : (links : List Link) (from to : ℕ) (link : IsLink links from to) →
    link_at links link.0 ≡ record { from = from; to = to }
link_is links from to link = get_or_default links link.0 no_link (record { from = from; to = to }) link.1 ∙ link.2

pub all_looked : (links : List Link) (looked : ℕ → Type 0) (node : ℕ) → IsLooking links looked node None →
    (from : ℕ) → IsLink links from node → looked from
all_looked links looked node whole from link =
    let is = link_is links from node link in
    let leads : (link_at links link.0).to ≡ node = ap (λ (l : Link). l.to) is in
    elim (cases_lt link.0 whole.end) [
      | inl less ↦ absurd (whole.last link.0 less leads)
      | inr behind ↦ subst looked (ap (λ (l : Link). l.from) is) (whole.done link.0 behind link.1 leads)
    ]

-- the measure
abbrev pub left_of : Option ℕ → ℕ
left_of None = 0
left_of (Some index) = suc index

pub fewer_left : (links : List Link) (node index : ℕ) (next : Option ℕ) → IsLast links node index next
    → left_of next < suc index
fewer_left links node index None is = omega arith
fewer_left links node index (Some other) is = (let below = is.0 in omega arith)

pub index_within : (links : List Link) (looked : ℕ → Type 0) (node index : ℕ) → IsLooking links looked node (Some index)
    → index < length links
index_within links looked node index so_far = (let within = so_far.within in let below = so_far.last.0 in omega arith)

pub link_from : (links : List Link) (index : ℕ) → index < length links
    → IsLink links (link_at links index).from (link_at links index).to
link_from links index below = Contains-get_or links index no_link below
