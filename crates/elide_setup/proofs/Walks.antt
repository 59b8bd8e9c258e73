-- Steps that are made one after another, and more of them.
use Rattle.std.proofs.Common.{◌≡◌, ◌≤◌, ◌+◌, ◌-◌, ℕ, List, [], ◌∷◌, ◌++◌, length, take, drop, get_or, replicate, arith}
use Rattle.std.proofs.Common.{refl, sym, ap, ◌∙◌, subst, append-nil}
use Rattle.std.proofs.lemmas.Grind.{common_steps}
use Rattle.std.proofs.lemmas.List.{drop-take, map-append, replicate-append-replicate, take-append-drop, take-take}
use Rattle.std.proofs.lemmas.List.{take_more}
use Rattle.std.proofs.lemmas.List.Concat.{flat_map-append}
use Rattle.tm_model.specs.Runs.{picks_of}
use Rattle.tm_model.specs.declared.outcome.Outcome.{Outcome}
use Rattle.tm_model.specs.declared.outcome.Pick.{Pick}
use Rattle.elide_setup.specs.Owing.{history_made}
use Rattle.elide_setup.specs.Schedules.{picks_made, picks_told}
use Rattle.elide_setup.specs.Walks.{Leads, PartsLead, steps_in}

parts_on : {Maker : Type 0} (takes : Maker → List (Pick × Outcome) → Maker → Type 0)
    (parts others : List (List (Pick × Outcome))) (a b c : Maker) →
    PartsLead takes a parts b → PartsLead takes b others c → PartsLead takes a (parts ++ others) c
parts_on {Maker} takes [] others a b c h k = subst (λ (m : Maker). PartsLead takes m others c) h k
parts_on {Maker} takes (part ∷ parts) others a b c h k = (h.0, h.1, parts_on takes parts others h.0 b c h.2 k)

-- steps, and steps behind them
pub leads_on : {Maker : Type 0} (takes : Maker → List (Pick × Outcome) → Maker → Type 0)
    (steps others : List (Pick × Outcome)) (a b c : Maker) →
    Leads takes a steps b → Leads takes b others c → Leads takes a (steps ++ others) c
leads_on {Maker} takes steps others a b c h k =
    let whole : steps_in (h.0 ++ k.0) ≡ steps ++ others =
    flat_map-append (λ (part : List (Pick × Outcome)). part) h.0 k.0 ∙ ap (λ l. l ++ steps_in k.0) h.1
    ∙ ap (λ l. steps ++ l) k.1 in
    (h.0 ++ k.0, whole, parts_on takes h.0 k.0 a b c h.2 k.2)

-- steps that were made at once
pub leads_one : {Maker : Type 0} (takes : Maker → List (Pick × Outcome) → Maker → Type 0)
    (steps : List (Pick × Outcome)) (a b : Maker) →
    takes a steps b → Leads takes a steps b
leads_one takes steps a b h = (steps ∷ [], append-nil steps, (b, h, refl))

pub leads_more : {Maker : Type 0} (takes : Maker → List (Pick × Outcome) → Maker → Type 0)
    (steps others : List (Pick × Outcome)) (a b c : Maker) →
    Leads takes a steps b → takes b others c → Leads takes a (steps ++ others) c
leads_more takes steps others a b c h k = leads_on takes steps others a b c h (leads_one takes others b c k)

-- the picks, too
pub picks_on : (steps others : List (Pick × Outcome))
    → picks_made (steps ++ others) ≡ picks_made steps ++ picks_made others
picks_on steps others = map-append (λ (made : Pick × Outcome). made.0) steps others

pub history_on : (steps others : List (Pick × Outcome))
    → history_made (steps ++ others) ≡ history_made steps ++ history_made others
history_on steps others = map-append (λ (made : Pick × Outcome). (made.0.core, made.1)) steps others

pub told_on : (steps others : List (Pick × Outcome))
    → picks_told (steps ++ others) ≡ picks_told steps ++ picks_told others
told_on steps others = ap picks_of (history_on steps others) ∙ map-append _ (history_made steps) (history_made others)

-- ---- those of a list

pub rest_all : {X : Type 0} (xs : List X) (i : ℕ) → i ≤ length xs → take (length xs - i) (drop i xs) ≡ drop i xs
rest_all xs i below = grind (arith, common_steps)

take_on : {X : Type 0} (xs : List X) (i n : ℕ) → take i xs ++ take n (drop i xs) ≡ take (i + n) xs
take_on xs i n = ap (λ l. l ++ take n (drop i xs)) (sym (take-take i (i + n) xs (omega arith)))
    ∙ ap (λ l. take i (take (i + n) xs) ++ l) (sym (drop-take i n xs)) ∙ take-append-drop i (take (i + n) xs)

-- up to a place in it, and some behind it
pub picks_behind : (steps others : List (Pick × Outcome)) (picks : List Pick) (i n : ℕ)
    → picks_made steps ≡ take i picks → picks_made others ≡ take n (drop i picks) →
    picks_made (steps ++ others) ≡ take (i + n) picks
picks_behind steps others picks i n h k =
    picks_on steps others ∙ ap (λ l. l ++ picks_made others) h ∙ ap (λ l. take i picks ++ l) k ∙ take_on picks i n

-- so many equal ones, and so many more
pub picks_alike : (steps others : List (Pick × Outcome)) (pick : Pick) (i n : ℕ) → picks_made steps ≡ replicate i pick
    → picks_made others ≡ replicate n pick →
    picks_made (steps ++ others) ≡ replicate (i + n) pick
picks_alike steps others pick i n h k =
    picks_on steps others ∙ ap (λ l. l ++ picks_made others) h ∙ ap (λ l. replicate i pick ++ l) k
    ∙ replicate-append-replicate i n pick

-- the first step
pub first_step : (picks : List Pick) (outcome : Outcome) (none : Pick) → 1 ≤ length picks
    → picks_made ((get_or picks 0 none, outcome) ∷ []) ≡ take 1 picks
first_step picks outcome none some = sym (take_more picks 0 none (omega (arith, some)))

-- ---- those that are kept

parts_all : {Maker : Type 0} (keeps : Maker → List (Pick × Outcome) → Maker → Type 0) → ((a : Maker) → keeps a [] a) →
    ((a b c : Maker) (steps others : List (Pick × Outcome)) → keeps a steps b → keeps b others c
    → keeps a (steps ++ others) c) →
    (parts : List (List (Pick × Outcome))) (a b : Maker) → PartsLead keeps a parts b → keeps a (steps_in parts) b
parts_all {Maker} keeps none on [] a b h = subst (λ (m : Maker). keeps a [] m) (sym h) (none a)
parts_all keeps none on (part ∷ parts) a b h =
    on a h.0 b part (steps_in parts) h.1 (parts_all keeps none on parts h.0 b h.2)

-- what is kept part by part is kept of all
pub leads_all : {Maker : Type 0} (keeps : Maker → List (Pick × Outcome) → Maker → Type 0)
    → ((a : Maker) → keeps a [] a) →
    ((a b c : Maker) (steps others : List (Pick × Outcome)) → keeps a steps b → keeps b others c
    → keeps a (steps ++ others) c) →
    (steps : List (Pick × Outcome)) (a b : Maker) → Leads keeps a steps b → keeps a steps b
leads_all keeps none on steps a b h =
    subst (λ (l : List (Pick × Outcome)). keeps a l b) h.1 (parts_all keeps none on h.0 a b h.2)
