-- Whether a step's store is pending behind it, by what the machine says of the step.
use Rattle.std.proofs.Common.{◌≡◌, ℕ, Bool, true, false, if◌then◌else◌, List, Option, None, refl, sym, ap, ◌∙◌}
use Rattle.std.specs.Prelude.{nat_eq}
use Rattle.std.specs.Option.{is_some}
use Rattle.tm_model.specs.Setting.{Setting}
use Rattle.tm_model.specs.State.{Closed, Core, Halted, Midway, Opened, Pending}
use Rattle.tm_model.specs.Steps.{must_wait, store_buffered, store_outside}
use Rattle.tm_model.specs.declared.outcome.Outcome.{Outcome}
use Rattle.tm_model.specs.declared.outcome.Outcome.TheVariants.{Drained}
use Rattle.tm_core.specs.Buffering.{IsBuffering}
use Rattle.tm_core.specs.declared.buffering.Buffering.{Buffering}
use Rattle.tm_core.specs.declared.buffering.Buffering.TheVariants.{Goes, Pends, Waits}
use Rattle.tm_why.specs.Said.{is_pending}

-- a drain stores nothing that is pending then
drain_outside : (setting : Setting) (seen : List ℕ) (core : Core) → store_outside setting seen core Drained ≡ None
drain_outside setting seen (Closed regs) = refl
drain_outside setting seen (Midway regs value) = refl
drain_outside setting seen (Halted regs stop) = refl
drain_outside setting seen (Opened regs steps) = refl

either_none : {A : Type 0} (b : Bool) (store : Option A) → store ≡ None → (if b then None else store) ≡ None
either_none true store none = refl
either_none false store none = none

drain_pends : (setting : Setting) (seen : List ℕ) (core : Core) → store_buffered setting seen core Drained ≡ None
drain_pends setting seen core =
    either_none (nat_eq setting.store_buffer 0) (store_outside setting seen core Drained)
    (drain_outside setting seen core)

-- where none may be pending
pub none_pends : (setting : Setting) (seen : List ℕ) (core : Core) (outcome : Outcome) → setting.store_buffer ≡ 0 →
    false ≡ is_some (store_buffered setting seen core outcome)
none_pends setting seen core outcome none =
    sym
    (ap (λ (n : ℕ). is_some (if nat_eq n 0 then None else store_outside setting seen core outcome)) none)

pub pends_is : (setting : Setting) (seen : List ℕ) (pending : Pending) (core : Core) (outcome : Outcome)
    (told : Buffering) → IsBuffering setting seen pending core outcome told →
    is_pending told
    ≡ is_some (store_buffered setting seen core
    (if must_wait setting seen pending core outcome then Drained else outcome))
pends_is setting seen pending core outcome (Waits wait) is =
    sym
    (ap (λ b. is_some (store_buffered setting seen core (if b then Drained else outcome))) is.waits
    ∙ ap is_some (drain_pends setting seen core))
pends_is setting seen pending core outcome Pends is =
    sym
    (ap (λ b. is_some (store_buffered setting seen core (if b then Drained else outcome))) is.0
    ∙ is.1)
pends_is setting seen pending core outcome Goes is =
    sym
    (ap (λ b. is_some (store_buffered setting seen core (if b then Drained else outcome))) is.0 ∙ ap is_some is.1)
