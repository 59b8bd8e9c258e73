-- The cores of the run of a number.
use Rattle.std.proofs.Common.{◌≡◌, ℕ, subst}
use Rattle.rand_core.specs.Stream.{Stream}
use Rattle.tm_pick.specs.Begun.{AreCoresOf, IsManner}
use Rattle.tm_pick.specs.Chances.{generator_of, number_of_run}
use Rattle.tm_pick.specs.Methods.{method_of_run}
use Rattle.tm_pick.specs.declared.manner.Manner.{Manner}
use Rattle.tm_pick.specs.declared.method.Method.{Method}
use Rattle.tm_pick.specs.declared.method.Plan.{Plan}

-- of this method, and from these numbers
pub cores_by : (plan : Plan) (run cores : ℕ) (way : Method) (words : Stream) (manner : Manner)
    → way ≡ method_of_run plan.method run →
    words ≡ generator_of (number_of_run plan.seed run) → IsManner way run cores plan.length words manner
    → AreCoresOf plan run cores manner
cores_by plan run cores way words manner same from is =
    subst (λ (w : Method). IsManner w run cores plan.length (generator_of (number_of_run plan.seed run)) manner) same
    (subst (λ (s : Stream). IsManner way run cores plan.length s manner) from is)
