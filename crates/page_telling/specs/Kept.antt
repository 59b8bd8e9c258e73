-- What is known of the bytes that transactions keep for themselves: at which addresses they may be.
use Rattle.std.specs.Prelude.{◌≡◌, ℕ, ◌<◌, ◌&&◌, ◌||◌, Bool, false, nat_eq, List, None, length}
use Rattle.std.specs.List.{list_any}
use Rattle.tm_core.specs.Theorem.{ShownMachine as Machine, view_at}
use Rattle.tm_page.specs.Shows.{IsAddress, private_byte}
use Rattle.tm_page.specs.Types.{Aborted, AbortedBy, Begun, Committed, Drained, Idle, Inside, Loaded, Outcome, Plain}
use Rattle.tm_page.specs.Types.{Stopped}
use Rattle.tm_page.specs.declared.delta.StoredByte.{StoredByte}
use Rattle.page_telling.specs.declared.kept.KeptByte.{KeptByte}

abbrev pub is_of : ℕ → ℕ → KeptByte → Bool
is_of core address byte = nat_eq core byte.core && nat_eq address byte.address

abbrev pub is_kept : List KeptByte → ℕ → ℕ → Bool
is_kept bytes core address = list_any (is_of core address) bytes

abbrev pub is_stored : List StoredByte → ℕ → Bool
is_stored stored address = list_any (λ byte. nat_eq address byte.address) stored

-- those of other cores stay
abbrev pub OthersStay : ℕ → List KeptByte → List KeptByte → Type 0
OthersStay core old new =
    (other address : ℕ) → (other ≡ core → ⊥) → is_kept new other address ≡ is_kept old other address

-- a step of a core inside of a transaction keeps what it stored too, and a drain all that was kept; behind any other
-- the core keeps none
abbrev pub IsKeptBehind : Outcome → ℕ → List StoredByte → List KeptByte → List KeptByte → Type 0
IsKeptBehind Inside core stored old new =
    (other address : ℕ) → is_kept new other address
    ≡ (is_kept old other address || (nat_eq other core && is_stored stored address))
IsKeptBehind Plain core stored old new = OthersStay core old new
IsKeptBehind Loaded core stored old new = OthersStay core old new
IsKeptBehind (Stopped stop) core stored old new = OthersStay core old new
IsKeptBehind Idle core stored old new = OthersStay core old new
IsKeptBehind Begun core stored old new = OthersStay core old new
IsKeptBehind Committed core stored old new = OthersStay core old new
IsKeptBehind (Aborted status) core stored old new = OthersStay core old new
IsKeptBehind (AbortedBy by status) core stored old new = OthersStay core old new
IsKeptBehind Drained core stored old new = (other address : ℕ) → is_kept new other address ≡ is_kept old other address

-- each byte that a transaction of the machine keeps is among these
abbrev pub AreAllKept : Machine → List KeptByte → Type 0
AreAllKept machine kept =
    (core address : ℕ) → core < length machine.views → IsAddress (length machine.memory) address →
    is_kept kept core address ≡ false → private_byte (view_at machine core) address ≡ None
