-- The tests of the loader.
use Rattle.std.specs.Prelude.{◌≡◌, Result, Err, MatchResult, ℕ, ◌+◌, ◌*◌, ◌%◌, Bool, not, ◌||◌, ◌==◌, nat_lt, nat_le}
use Rattle.std.specs.Prelude.{if◌then◌else◌, List, Option, Some, None, length}
use Rattle.std.specs.List.{list_any}
use Rattle.ia_image.specs.declared.fault.LoadFault.{LoadFault}
use Rattle.ia_image.specs.declared.fault.LoadFault.TheVariants as fault
use Rattle.ia_image.specs.Program.{ProgramValue}

-- the numbers of the faults
abbrev pub fault_number : LoadFault → ℕ
fault_number fault.Empty = 20
fault_number fault.TooLarge = 21
fault_number fault.BadMemorySize = 22
fault_number fault.BadCores = 23
fault_number fault.EntryOutsideCode = 24
fault_number fault.CodeTooLong = 25
fault_number fault.NoMemory = 26

-- not 1 to 64
abbrev pub bad_cores : ℕ → Bool
bad_cores cores = cores == 0 || nat_lt 64 cores

-- no whole pages of 4096 bytes, too few for a stack of each core and one more, or above 256 MiB
abbrev pub bad_memory_size : ℕ → ℕ → Bool
bad_memory_size size cores = not (size % 4096 == 0) || (nat_lt size (4096 * (cores + 1)) || nat_lt 268435456 size)

-- no address of a byte of the code
abbrev pub outside_code : ℕ → ℕ → ℕ → Bool
outside_code base code_len entry = nat_lt entry base || nat_le (base + code_len) entry

-- the first test that an image fails
unfoldable pub load_refusal : List ℕ → ℕ → ℕ → ℕ → List ℕ → Option LoadFault
load_refusal bytes base code_len mem_size entries =
    if length bytes == 0 then Some fault.Empty
    else if bad_cores (length entries) then Some fault.BadCores
    else if bad_memory_size mem_size (length entries) then Some fault.BadMemorySize
    else if nat_lt mem_size (base + length bytes) then Some fault.TooLarge
    else if nat_lt (length bytes) code_len then Some fault.CodeTooLong
    else if list_any (outside_code base code_len) entries then Some fault.EntryOutsideCode
    else None

-- the first test that fails is told; where none does, the program is what was given, unless there is no memory for it
abbrev pub Loads : Option LoadFault → ProgramValue → Result ProgramValue LoadFault → Type 0
Loads (Some f) p result = result ≡ Err f
Loads None p result = MatchResult result (λ q. q ≡ p) (λ f. f ≡ fault.NoMemory)
