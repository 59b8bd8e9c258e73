-- The status of an abort (SDM volume 1, section 16.3.5, table 16-1): bit 0 XABORT, 1 may succeed on a retry, 2
-- conflict, 3 internal buffer overflow, 4 debug breakpoint, 5 aborted while nested, 31 to 24 the argument of XABORT
-- where bit 0 is set.
use Rattle.std.specs.Prelude.{ℕ, ◌+◌, ◌*◌, ◌/◌, ◌^◌, Bool, true, false, ◌==◌, Option, Some, None, cond}
use Rattle.std.specs.Int.{bit_at}
use Rattle.tm_status.specs.declared.cause.Cause.{Cause}
use Rattle.tm_status.specs.declared.cause.Cause.TheVariants.{Conflict, Capacity, Nest, Explicit, Debug, Other}
use Rattle.tm_status.specs.declared.cause.Causes.{Causes}

-- the bits of a cause. A nest overflow counts as an overflow, and a conflict may go away
abbrev pub reason_of : Cause → ℕ
reason_of Conflict = 4 + 2
reason_of Capacity = 8
reason_of Nest = 8
reason_of (Explicit argument) = argument * 2 ^ 24 + 1
reason_of Debug = 16
reason_of Other = 0

abbrev pub status_of : Cause → Bool → ℕ
status_of cause nested = reason_of cause + cond nested 32 0

-- whether bit k of a word is 1
abbrev pub has_bit : ℕ → ℕ → Bool
has_bit k word = bit_at word k == 1

abbrev pub causes_of : ℕ → Causes
causes_of status = record {
  explicit = cond (has_bit 0 status) (Some (status / 2 ^ 24)) None;
  retry = has_bit 1 status;
  conflict = has_bit 2 status;
  capacity = has_bit 3 status;
  debug = has_bit 4 status;
  nested = has_bit 5 status;
}

abbrev told : Option ℕ → Bool → Bool → Bool → Bool → Bool → Causes
told explicit retry conflict capacity debug nested = record {
  explicit = explicit;
  retry = retry;
  conflict = conflict;
  capacity = capacity;
  debug = debug;
  nested = nested;
}

-- what the status of a cause has to tell
abbrev pub told_by : Cause → Bool → Causes
told_by Conflict = told None true true false false
told_by Capacity = told None false false true false
told_by Nest = told None false false true false
told_by (Explicit argument) = told (Some argument) false false false false
told_by Debug = told None false false false true
told_by Other = told None false false false false
