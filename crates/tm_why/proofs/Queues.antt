-- The stores that are pending, by the steps that made them, behind one step more.
use Rattle.std.proofs.Common.{◌≡◌, inl, inr, ℕ, suc, ◌<◌, Bool, true, false, eqb, if◌then◌else◌, List, [], ◌∷◌}
use Rattle.std.proofs.Common.{Option, None, length, get_or, set, refl, sym, ap, ◌∙◌, subst, arith}
use Rattle.std.specs.Prelude.{nat_eq}
use Rattle.std.proofs.lemmas.Bool.{cases_eq, eq-eqb, eqb-true, ne_eqb, true≢false}
use Rattle.std.proofs.lemmas.List.{get_or-set_other, get_or-set_same, nil_from_length}
use Rattle.tm_model.specs.declared.outcome.Outcome.{Outcome}
use Rattle.tm_stores.specs.Queues.{ShownStores, queue_at}
use Rattle.tm_stores.specs.Stores.{change_by, queue_after}
use Rattle.tm_stores.specs.declared.change.Change.{Change}
use Rattle.tm_stores.specs.declared.change.Change.TheVariants.{Drains, Pends, Stays}
use Rattle.tm_why.specs.Types.{Asked, MadeStore}
use Rattle.tm_why.specs.Watched.{Told, drained_store, is_drain, made_store, queue_in}

none_after : (change : Change) → queue_after 0 change [] ≡ []
none_after (Pends store) = refl
none_after Drains = refl
none_after Stays = refl

-- ---- where none may be pending

none_by : (own : Bool) (change : Change) (queue : List MadeStore) → queue ≡ [] →
    (if own then queue_after 0 change queue else queue) ≡ []
none_by true change queue none = ap (queue_after 0 change) none ∙ none_after change
none_by false change queue none = none

none_of : (core : ℕ) (steps : List Told) → queue_in 0 core steps ≡ []
none_of core [] = refl
none_of core (step ∷ earlier) =
    none_by (eqb core step.0.core)
    (change_by step.1 step.0.pends (made_store (suc (length earlier)) step.0)) (queue_in 0 core earlier)
    (none_of core earlier)

pub none_in : (most core : ℕ) (steps : List Told) → most ≡ 0 → queue_in most core steps ≡ []
none_in most core steps none = ap (λ (n : ℕ). queue_in n core steps) none ∙ none_of core steps

either_way : (drains : Bool) (store : Option MadeStore) → store ≡ (if drains then store else store)
either_way true store = refl
either_way false store = refl

pub none_drained : (step : Told) (queue : List MadeStore) → queue ≡ [] → None ≡ drained_store step queue
none_drained step queue none =
    either_way (is_drain step.1) None ∙ ap (λ (q : List MadeStore). drained_store step q) (sym none)

-- ---- the queue of the core itself

abbrev IsKept : ℕ → List (List MadeStore) → ℕ → Change → Type 0
IsKept most queues core change =
    get_or (set queues core (queue_after most change (get_or queues core []))) core []
    ≡ queue_after most change (get_or queues core [])

-- a watch has a queue for each core, or, where none may be pending, none
kept : (most : ℕ) (queues : List (List MadeStore)) (core : ℕ) (change : Change) → core < 64 →
    length queues ≡ (if nat_eq most 0 then 0 else 64) → IsKept most queues core change
kept most queues core change within count =
    elim (cases_eq most 0) [
      | inl zero ↦
          let none : queues ≡ [] =
          nil_from_length queues (count ∙ ap (λ (n : ℕ). if nat_eq n 0 then 0 else 64) zero) in
          subst (λ (n : ℕ). IsKept n queues core change) (sym zero)
          (subst (λ (rows : List (List MadeStore)). IsKept 0 rows core change) (sym none) (sym (none_after change)))
      | inr some ↦
          let all : length queues ≡ 64 = count ∙ ap (λ b. if b then 0 else 64) (ne_eqb most 0 some) in
          get_or-set_same queues core (queue_after most change (get_or queues core [])) [] (omega arith)
    ]

-- ---- those of all cores

module _ (stores : ShownStores) (steps : List Told) (asked : Asked) (outcome : Outcome) (number : ℕ)
    (change : Change) (same : number ≡ suc (length steps))
    (made : change ≡ change_by outcome asked.pends (made_store number asked)) (within : asked.core < 64)
    (count : length stores.queues ≡ (if nat_eq stores.most 0 then 0 else 64))
    (old : (core : ℕ) → core < 64 → queue_at stores core ≡ queue_in stores.most core steps) where
  abbrev news : List (List MadeStore)
  news = set stores.queues asked.core (queue_after stores.most change (queue_at stores asked.core))

  abbrev own : ℕ → List MadeStore
  own core =
      queue_after stores.most (change_by outcome asked.pends (made_store (suc (length steps)) asked))
      (queue_in stores.most core steps)

  by_core : (core : ℕ) (b : Bool) → eqb core asked.core ≡ b → core < 64 →
      get_or news core [] ≡ (if b then own core else queue_in stores.most core steps)
  by_core core true e below =
      let is : core ≡ asked.core = eqb-true core asked.core e in
      ap (λ (k : ℕ). get_or news k []) is
      ∙ kept stores.most stores.queues asked.core change within count
      ∙ ap (λ (c : Change). queue_after stores.most c (queue_at stores asked.core)) made
      ∙ ap (λ (n : ℕ). queue_after stores.most (change_by outcome asked.pends (made_store n asked))
      (queue_at stores asked.core)) same
      ∙ ap (λ (queue : List MadeStore). queue_after stores.most
      (change_by outcome asked.pends (made_store (suc (length steps)) asked)) queue) (old asked.core within)
      ∙ ap own (sym is)
  by_core core false e below =
      let apart : core ≡ asked.core → ⊥ = λ is. true≢false (sym (eq-eqb core asked.core is) ∙ e) in
      get_or-set_other stores.queues asked.core core
      (queue_after stores.most change (queue_at stores asked.core)) [] apart
      ∙ old core below

  pub next_queues : (core : ℕ) → core < 64 → get_or news core [] ≡ queue_in stores.most core ((asked, outcome) ∷ steps)
  next_queues core below = by_core core (eqb core asked.core) refl below
