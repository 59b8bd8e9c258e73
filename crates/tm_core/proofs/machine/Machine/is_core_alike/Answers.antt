use Rattle.std.proofs.Common.{◌≡◌, ◌<◌, length, subst, sym}
use Rattle.std.specs.Prelude.{IsTrue, ◌↔◌}
use Rattle.tm_core.specs.Theorem.{ShownMachine, view_at}
use Rattle.tm_core.proofs.machine.Machine.is_core_alike.Goals as goal

pub is_core_alike-requires : goal.is_core_alike-requires
is_core_alike-requires g c = record {
  here = subst (λ (s : ShownMachine). c.args.core < length s.views) (sym c.self.view_is) c.requires.here;
  there = subst (λ (s : ShownMachine). c.args.core < length s.views) (sym c.other.view_is) c.requires.there;
}

pub returns : goal.returns
returns g c =
    subst (λ (t : ShownMachine). IsTrue c.is_core_alike.result
    ↔ (view_at c.args.self.now c.args.core ≡ view_at t c.args.core)) c.other.view_is
    (subst (λ (s : ShownMachine). IsTrue c.is_core_alike.result
    ↔ (view_at s c.args.core ≡ view_at c.other.inside.unbuffered c.args.core)) c.self.view_is c.is_core_alike.ensures)
