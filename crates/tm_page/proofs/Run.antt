-- A run, delta by delta.
use Rattle.std.proofs.Common.{◌≡◌, ℕ, ◌<◌, ◌%◌, ◌^◌, List, [], ◌∷◌, length, get_or, set, cond, Option, Some, None}
use Rattle.std.proofs.Common.{refl, sym, ap, ◌∙◌, subst, arith, ⊎_elim}
use Rattle.std.specs.Prelude.{option_map, slice_index, unwrap_or}
use Rattle.std.proofs.lemmas.Bool.{cases_eq, eq-eqb, ne_eqb}
use Rattle.std.proofs.lemmas.List.{get_or-set_same, get_or-set_other}
use Rattle.std.specs.FinMap as map_of
use Rattle.tm_model.specs.Access.{Stores, memory_after, stores_of}
use Rattle.tm_model.specs.State.{Pending, seen_memory, with_store}
use Rattle.tm_core.specs.Theorem.{pending_at, seen_at, view_at}
use Rattle.tm_core.proofs.Frame.{length-memory_after}
use Rattle.tm_page.specs.Applied.{applied}
use Rattle.tm_page.specs.Shows.{SeesPrivate, Shows, StatesStand, bytes_over, pending_over}

pub states : StatesStand
states start now [] page shows are = subst (λ x. Shows x page) are shows
states start now (delta ∷ deltas) page shows are = states are.0 now deltas (applied delta page) (are.1 page shows) are.2

-- a byte over memory's, which is one of a byte's values
over : (own : Option ℕ) (memory : ℕ)
    → unwrap_or own memory % 256 ≡ unwrap_or (option_map (λ byte. byte % 256) own) memory % 256
over None memory = refl
over (Some byte) memory = sym (mod_twice byte)
  where
    mod_twice : (x : ℕ) → (x % 256) % 256 ≡ x % 256
    mod_twice x = omega arith

-- bytes stored to a list of them
over_bytes : (m : List ℕ) (ws : Stores) (f : ℕ → ℕ) (a : ℕ) → a < length m → get_or m a 0 ≡ f a →
    get_or (memory_after m ws) a 0 ≡ bytes_over ws f a
over_bytes m [] f a within h = h
over_bytes m (w ∷ ws) f a within h =
    ⊎_elim
    (λ (same : a ≡ w.0).
    ap (λ (x : ℕ). get_or (set (memory_after m ws) x w.1) a 0) (sym same)
    ∙ get_or-set_same (memory_after m ws) a w.1 0 (subst (λ l. a < l) (sym (length-memory_after m ws)) within)
    ∙ sym (ap (λ t. cond t w.1 (bytes_over ws f a)) (eq-eqb a w.0 same)))
    (λ (differs : a ≡ w.0 → ⊥).
    get_or-set_other (memory_after m ws) w.0 a w.1 0 differs
    ∙ over_bytes m ws f a within h
    ∙ sym (ap (λ t. cond t w.1 (bytes_over ws f a)) (ne_eqb a w.0 differs)))
    (cases_eq a w.0)

over_memory : (m : List ℕ) (p : Pending) (f : ℕ → ℕ) (a : ℕ) → a < length m →
    ((b : ℕ) → b < length m → (b < 2 ^ 32) → get_or m b 0 ≡ f b) → a < 2 ^ 32 →
    get_or (seen_memory m p) a 0 ≡ pending_over p f a
over_memory m [] f a within h below = h a within below
over_memory m (oldest ∷ younger) f a within h below =
    let size : length (with_store m oldest) ≡ length m = length-memory_after m (stores_of (Some oldest)) in
    over_memory (with_store m oldest) younger (bytes_over (stores_of (Some oldest)) f) a
    (subst (λ l. a < l) (sym size) within)
    (λ b there low. over_bytes m (stores_of (Some oldest)) f b (subst (λ l. b < l) size there)
    (h b (subst (λ l. b < l) size there) low))
    below

pub sees : SeesPrivate
sees machine page core a shows within below =
    over (map_of.get (view_at machine core).buffer a) (slice_index (seen_at machine core) a)
    ∙ ap (λ o. unwrap_or o (slice_index (seen_at machine core) a) % 256) ((shows.cores core within).private a below)
    ∙ ap (λ (x : ℕ). unwrap_or ((page.cores core).private a) x % 256)
    (over_memory machine.memory (pending_at machine core) page.memory a below.0
    (λ b there low. shows.memory b (there, low)) below.1
    ∙ ap (λ (p : Pending). pending_over p page.memory a) (shows.pending core within))
