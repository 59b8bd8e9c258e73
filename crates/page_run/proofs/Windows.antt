-- Of all steps a page can be asked for.
use Rattle.std.proofs.Common.{ℕ, None}
use Rattle.elide_setup.specs.declared.fault.Refusal.{Refusal}
use Rattle.page_run.specs.Refused.{HasNoWindow, no_first, no_last}

-- a run has all of them
pub has_all : (total : ℕ) (why : Refusal) → HasNoWindow None None total why → ⊥
has_all total why (no_first h) = absurd (cc h.asked)
has_all total why (no_last before come h) = absurd (cc h.asked)
