use Rattle.std.proofs.Common.{◌<◌, ◌∙◌, ap, length, subst, sym}
use Rattle.std.proofs.lemmas.Bool.{ltb-false, ltb-true}
use Rattle.tm_core.specs.Theorem.{ShownMachine}
use Rattle.tm_core.proofs.Buffered.{buffered_told, core_of, direct_told}
use Rattle.tm_core.proofs.machine.Machine.is_direct.Goals as goal

pub returns-clause-direct : goal.returns-clause-direct
returns-clause-direct g c is =
    ap (λ (s : ShownMachine). s.store_buffer) (sym c.self.view_is)
    ∙ (direct_told c.self.inside.direct c.self.inside.most (length c.self.inside.unbuffered.views) c.args.core
    c.self.invariant.direct_is (ltb-true c.args.core c.self.inside.direct is)).0

pub returns-clause-exists : goal.returns-clause-exists
returns-clause-exists g c is =
    subst (λ (s : ShownMachine). c.args.core < length s.views) c.self.view_is
    (direct_told c.self.inside.direct c.self.inside.most (length c.self.inside.unbuffered.views) c.args.core
    c.self.invariant.direct_is (ltb-true c.args.core c.self.inside.direct is)).1

pub returns-clause-buffered : goal.returns-clause-buffered
returns-clause-buffered g c is below =
    subst (λ n. 0 < n) (ap (λ (s : ShownMachine). s.store_buffer) c.self.view_is)
    (buffered_told c.self.inside.direct c.self.inside.most (length c.self.inside.unbuffered.views) c.args.core
    c.self.invariant.direct_is (ltb-false c.args.core c.self.inside.direct is)
    (core_of c.self.invariant c.self.view_is c.args.core below))
