-- The bytes that the open transaction of a core has loaded and stored, by the list of the steps of that core, the
-- newest first. Conflicts go by the line (SDM volume 1, 16.2.4.2): those that would not be there if they went by the
-- byte are of apart bytes (false sharing: Bolosky and Scott, "False Sharing and Its Effect on Shared Memory
-- Performance", 1993).
use Rattle.std.specs.Prelude.{◌≡◌, ℕ, ◌/◌, Bool, true, false, ◌&&◌, ◌||◌, not, if◌then◌else◌, List, [], ◌∷◌, nat_eq}
use Rattle.std.specs.List.{list_any}
use Rattle.std.specs.HashSet.{contains}
use Rattle.tm_model.specs.Access.{loaded_addresses}
use Rattle.tm_model.specs.declared.outcome.Outcome.{Outcome}
use Rattle.tm_model.specs.declared.outcome.Outcome.TheVariants.{Inside}
use Rattle.tm_stats.specs.Counts.{is_committed, is_drained}
use Rattle.tm_stats.specs.declared.open_bytes.ByteStep.{ByteStep}
use Rattle.tm_stats.specs.declared.open_bytes.OpenBytes.{OpenBytes}

abbrev pub is_inside : Outcome → Bool
is_inside Inside = true
is_inside outcome = false

abbrev pub is_among : List ℕ → ℕ → Bool
is_among addresses address = list_any (λ one. nat_eq one address) addresses

abbrev pub loads_byte : ByteStep → ℕ → Bool
loads_byte step address = is_among (loaded_addresses step.reach.load) address

abbrev pub stores_byte : ByteStep → ℕ → Bool
stores_byte step address = is_among (loaded_addresses step.reach.store) address

-- ---- of an open transaction

-- whether it has loaded this byte; a drain is none of its steps, and any other step but one inside begins a
-- transaction, ends it or is outside of any
abbrev pub has_loaded : List ByteStep → ℕ → Bool
has_loaded [] address = false
has_loaded (step ∷ earlier) address =
    if is_drained step.outcome
    then has_loaded earlier address
    else (is_inside step.outcome && (loads_byte step address || has_loaded earlier address))

abbrev pub has_stored : List ByteStep → ℕ → Bool
has_stored [] address = false
has_stored (step ∷ earlier) address =
    if is_drained step.outcome
    then has_stored earlier address
    else (is_inside step.outcome && (stores_byte step address || has_stored earlier address))

-- what is kept of these steps
pub record AreOpenBytes (bytes : OpenBytes) (steps : List ByteStep) : Type 0 where
  pub loaded : (address : ℕ) → contains nat_eq bytes.loaded address ≡ has_loaded steps address
  pub stored : (address : ℕ) → contains nat_eq bytes.stored address ≡ has_stored steps address

-- ---- of a hit

-- whether others see a step store to this byte: of a commit what its transaction has stored, and of a step inside none
abbrev pub shows_stored : ByteStep → List ByteStep → ℕ → Bool
shows_stored step earlier address =
    if is_committed step.outcome
    then has_stored earlier address
    else (not (is_inside step.outcome) && stores_byte step address)

-- whether it would hit another core's transaction if conflicts went by the byte
abbrev pub hits_byte : ByteStep → List ByteStep → List ByteStep → ℕ → Bool
hits_byte step earlier other address =
    (shows_stored step earlier address && (has_loaded other address || has_stored other address))
    || (loads_byte step address && has_stored other address)

-- on no byte of this line
abbrev pub IsApart : ByteStep → List ByteStep → List ByteStep → ℕ → Type 0
IsApart step earlier other line =
    (address : ℕ) → address / 64 ≡ line → hits_byte step earlier other address ≡ false
