-- What the page makes of memory.
use Rattle.std.proofs.Common.{◌≡◌, ℕ, zero, suc, ◌-◌, ◌%◌, Bool, true, false, cond, eqb, ◌||◌, List, [], ◌∷◌}
use Rattle.std.proofs.Common.{◌++◌, get_or, set, Option, Some, None, refl, sym, ap, ◌∙◌, subst}
use Rattle.std.specs.Prelude.{option_and_then, option_map}
use Rattle.std.proofs.lemmas.Bool.{eq-eqb, both_ways}
use Rattle.std.proofs.lemmas.List.{get_or-set_other}
use Rattle.std.proofs.lemmas.Option.{option_and_then_some, same_Some}
use Rattle.std.specs.FinMap as map_of
use Rattle.tm_model.specs.Access.{Stores, memory_after, stored_addresses}
use Rattle.tm_model.specs.Conflicts.{addresses_stored_by, addresses_stored_inside}
use Rattle.tm_model.specs.Explained.{addresses_stored_at}
use Rattle.tm_model.specs.Isolated.{Body, instruction_after, isolated_body, longer_body, next_body}
use Rattle.tm_model.specs.Owed.{abort_at, owed_after, owed_inside}
use Rattle.tm_model.specs.Setting.{Setting}
use Rattle.tm_model.specs.Shown.{View, view_inside}
use Rattle.tm_model.specs.State.{Closed, Core, Halted, Midway, Opened}
use Rattle.tm_core.specs.Types.{Capacity, Committed, Ends, Fails, GoesOn, Inside, InsideResult, Nests}
use Rattle.tm_core.specs.Types.{Plain, Regs}
use Rattle.tm_core.proofs.Frame.{longer_body-next_body}
use Rattle.tm_core.proofs.OtherCores.{view_inside_is}
use Rattle.tm_page.proofs.Parts.{no_byte}
use Rattle.tm_page.specs.Applied.{is_listed}
use Rattle.tm_page.specs.Shows.{private_byte}

stays_at : (t rest : Bool) (m : List ℕ) (a p v old : ℕ) → eqb a p ≡ t → (rest ≡ false → get_or m a 0 ≡ old)
    → (t || rest) ≡ false →
    get_or (set m p v) a 0 ≡ old
stays_at true rest m a p v old same h e = cc
stays_at false rest m a p v old differs h e =
    get_or-set_other m p a v 0 (λ same. both_ways (eqb a p) differs (eq-eqb a p same)) ∙ h e

-- a byte to which nothing is stored stays
pub stays_there : (m : List ℕ) (ws : Stores) (a : ℕ) → is_listed (stored_addresses ws) a ≡ false
    → get_or (memory_after m ws) a 0 ≡ get_or m a 0
stays_there m [] a h = refl
stays_there m (w ∷ ws) a h =
    stays_at (eqb a w.0) (is_listed (stored_addresses ws) a) (memory_after m ws) a w.0 w.1 (get_or m a 0) refl
    (λ none. stays_there m ws a none) h

-- what an instruction outside reaches is what it stores to
pub plain_stores : (k : Setting) (m : List ℕ) (core : Core)
    → addresses_stored_at k m core Plain ≡ addresses_stored_by k m core Plain
plain_stores k m (Closed s) = refl
plain_stores k m (Midway s value) = refl
plain_stores k m (Halted s stop) = refl
plain_stores k m (Opened s n) = refl

-- ---- a commit

either : (t : Bool) (depth : ℕ) → cond t Inside (abort_at Capacity depth) ≡ Committed → ⊥
either true depth e = cc
either false depth e = cc

-- an instruction that commits stores nothing of its own
ended : (k : Setting) (b b2 : Body) (loads : List ℕ) (o : InsideResult) → owed_inside k b o ≡ Committed
    → next_body b loads o ≡ Some b2 → b2.stores ≡ b.stores
ended k b b2 loads (Fails cause) e f = cc
ended k b b2 loads (GoesOn t w) e f = absurd (either _ b.depth e)
ended k b b2 loads (Nests t) e f = absurd (either _ b.depth e)
ended k b b2 loads (Ends t) e f = ap (λ x. x.stores)
    (sym (same_Some (record { regs = t; depth = b.depth - 1; stores = b.stores; loads = loads ++ b.loads }) b2 f))

-- all that a commit shows was private
pub commit_kept : (k : Setting) (m : List ℕ) (s : Regs) (n : ℕ) (v : View) (a : ℕ)
    → option_and_then (view_inside s) (isolated_body k s m n) ≡ Some v →
    owed_after k m (isolated_body k s m n) ≡ Committed → map_of.get v.buffer a ≡ None →
    is_listed (addresses_stored_inside (isolated_body k s m (suc n))) a ≡ false
commit_kept k m s zero v a e owes none = cc
commit_kept k m s (suc n) v a e owes none =
    option_and_then_some (view_inside s) (isolated_body k s m (suc n)) v e (λ b is shown.
    let longer : isolated_body k s m (suc (suc n)) ≡ longer_body k m b = ap (option_and_then (longer_body k m)) is in
    subst (λ o. is_listed (addresses_stored_inside o) a ≡ false) (sym longer)
    (on b (longer_body k m b) refl (sym (ap (owed_after k m) is) ∙ owes)
    (no_byte b.stores a (ap (λ x. map_of.get x.buffer a) ((view_inside_is s b v shown).1) ∙ none))))
  where
    on : (b : Body) (o : Option Body) → longer_body k m b ≡ o → owed_inside k b (instruction_after k m b) ≡ Committed
        → is_listed (stored_addresses b.stores) a ≡ false →
        is_listed (addresses_stored_inside o) a ≡ false
    on b None is owes2 h = refl
    on b (Some b2) is owes2 h =
        subst (λ x. is_listed (stored_addresses x) a ≡ false)
        (sym (ended k b b2 (k.load_of b.regs) (instruction_after k m b) owes2 (longer_body-next_body k m b b2 is))) h

-- a byte that is not private stands in no buffer
pub not_private : (v : View) (a : ℕ) → private_byte v a ≡ None → map_of.get v.buffer a ≡ None
not_private v a h = on (map_of.get v.buffer a) h
  where
    on : (o : Option ℕ) → option_map (λ x. x % 256) o ≡ None → o ≡ None
    on None e = refl
    on (Some byte) e = cc
