-- The leftmost action of lists in a row, and of a list in which an entry is set.
use Rattle.std.proofs.Common.{◌≡◌, ℕ, zero, suc, ◌+◌, ◌<◌, ◌≤◌, List, [], ◌∷◌, ◌++◌, Option, Some, None}
use Rattle.std.proofs.Common.{refl, sym, ◌∙◌, ap, take, drop, length, get_or, drop-cons, add-one, arith}
use Rattle.std.proofs.Math.ListN.{set, replicate}
use Rattle.std.proofs.lemmas.List.{take-append-drop, take-set, drop-set, drop-set-lt, drop_all}
use Rattle.gdb_packet.specs.declared.command.Action.{Action}
use Rattle.gdb_packet.specs.declared.command.ThreadAction.{ThreadAction}
use Rattle.gdb_packet.specs.Actions.{entry_says, leftmost, or_else}

pub or_else_more : (a b c : Option Action) → or_else (or_else a b) c ≡ or_else a (or_else b c)
or_else_more None b c = refl
or_else_more (Some x) b c = refl

pub or_else_none : (a : Option Action) → or_else a None ≡ a
or_else_none None = refl
or_else_none (Some x) = refl

behind_none : (a b : Option Action) → or_else a b ≡ None → b ≡ None
behind_none None b h = h
behind_none (Some x) b h = cc

leftmost_append : {A : Type 0} (says : A → Option Action) (a b : List A)
    → leftmost says (a ++ b) ≡ or_else (leftmost says a) (leftmost says b)
unfolding leftmost
leftmost_append says [] b = refl
leftmost_append says (x ∷ a) b =
    ap (or_else (says x)) (leftmost_append says a b) ∙ sym (or_else_more (says x) (leftmost says a) (leftmost says b))

leftmost_parts : {A : Type 0} (says : A → Option Action) (xs : List A) (i : ℕ)
    → leftmost says xs ≡ or_else (leftmost says (take i xs)) (leftmost says (drop i xs))
leftmost_parts says xs i =
    ap (leftmost says) (sym (take-append-drop i xs)) ∙ leftmost_append says (take i xs) (drop i xs)

-- from one on is what it says, else from the next on
pub leftmost_next : {A : Type 0} (says : A → Option Action) (xs : List A) (i : ℕ) (d : A) → i < length xs
    → leftmost says (drop i xs) ≡ or_else (says (get_or xs i d)) (leftmost says (drop (i + 1) xs))
unfolding leftmost
leftmost_next says xs i d h =
    ap (leftmost says) (drop-cons xs i d h)
    ∙ ap (λ n. or_else (says (get_or xs i d)) (leftmost says (drop n xs))) (sym (add-one i))

none_next : {A : Type 0} (says : A → Option Action) (xs : List A) (i : ℕ)
    → leftmost says (drop i xs) ≡ None → leftmost says (drop (suc i) xs) ≡ None
unfolding leftmost
none_next says [] i h = refl
none_next says (x ∷ xs) zero h = behind_none (says x) (leftmost says xs) h
none_next says (x ∷ xs) (suc i) h = none_next says xs i h

-- where none is from one on, none is from the next on
pub none_further : {A : Type 0} (says : A → Option Action) (xs : List A) (i : ℕ)
    → leftmost says (drop i xs) ≡ None → leftmost says (drop (i + 1) xs) ≡ None
none_further says xs i h = ap (λ n. leftmost says (drop n xs)) (add-one i) ∙ none_next says xs i h

-- an entry is set at an end that says nothing
pub leftmost_set : {A : Type 0} (says : A → Option Action) (xs : List A) (i : ℕ) (entry : A) → i < length xs
    → leftmost says (drop i xs) ≡ None → leftmost says (set xs i entry) ≡ or_else (leftmost says xs) (says entry)
unfolding leftmost
leftmost_set says xs i entry h none =
    let front : leftmost says xs ≡ leftmost says (take i xs) =
    leftmost_parts says xs i ∙ ap (or_else (leftmost says (take i xs))) none ∙ or_else_none _ in
    let rest : leftmost says (drop i (set xs i entry)) ≡ says entry =
    ap (leftmost says) (drop-set xs i entry h) ∙ ap (or_else (says entry)) (none_further says xs i none)
    ∙ or_else_none _ in
    leftmost_parts says (set xs i entry) i
    ∙ ap (λ l. or_else (leftmost says l) (leftmost says (drop i (set xs i entry)))) (take-set xs i entry)
    ∙ ap (or_else (leftmost says (take i xs))) rest ∙ ap (λ a. or_else a (says entry)) (sym front)

pub none_behind_set : {A : Type 0} (says : A → Option Action) (xs : List A) (i : ℕ) (entry : A)
    → leftmost says (drop i xs) ≡ None → leftmost says (drop (i + 1) (set xs i entry)) ≡ None
none_behind_set says xs i entry none =
    ap (leftmost says) (drop-set-lt (i + 1) xs i entry (omega arith)) ∙ none_further says xs i none

-- nothing is said by entries that are not there
pub none_in_nothing : (thread n : ℕ) → leftmost (entry_says thread) (replicate n None) ≡ None
unfolding leftmost
none_in_nothing thread zero = refl
none_in_nothing thread (suc n) = none_in_nothing thread n

-- one that says something is the leftmost, where none before it does
pub is_leftmost : {A : Type 0} (says : A → Option Action) (xs : List A) (i : ℕ) (d : A) (action : Action)
    (others : Option Action) → i < length xs → leftmost says xs ≡ leftmost says (drop i xs)
    → says (get_or xs i d) ≡ Some action → Some action ≡ or_else (leftmost says xs) others
is_leftmost says xs i d action others h so_far is =
    sym (ap (λ a. or_else a others) (so_far ∙ leftmost_next says xs i d h
    ∙ ap (λ a. or_else a (leftmost says (drop (i + 1) xs))) is))

-- one that says nothing is passed
pub is_passed : {A : Type 0} (says : A → Option Action) (xs : List A) (i : ℕ) (d : A) → i < length xs
    → leftmost says xs ≡ leftmost says (drop i xs) → says (get_or xs i d) ≡ None
    → leftmost says xs ≡ leftmost says (drop (i + 1) xs)
is_passed says xs i d h so_far is =
    so_far ∙ leftmost_next says xs i d h ∙ ap (λ a. or_else a (leftmost says (drop (i + 1) xs))) is

-- none is past the end
pub none_passed : {A : Type 0} (says : A → Option Action) (xs : List A) (i : ℕ) (others : Option Action) → length xs ≤ i
    → leftmost says xs ≡ leftmost says (drop i xs) → others ≡ or_else (leftmost says xs) others
unfolding leftmost
none_passed says xs i others h so_far =
    sym (ap (λ a. or_else a others) (so_far ∙ ap (leftmost says) (drop_all i xs h)))

-- what is looked for from the left
pub ruleset leftmost_steps = (is_leftmost, is_passed, none_passed)
