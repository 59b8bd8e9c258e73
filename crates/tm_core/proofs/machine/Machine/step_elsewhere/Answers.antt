use Rattle.std.proofs.Common.{◌<◌, ◌≤◌, length, refl, subst, arith}
use Rattle.std.proofs.lemmas.Bool.{false≢true}
use Rattle.tm_core.proofs.machine.Machine.step_elsewhere.Goals as goal

pub returns-then-core-cores-clause-exists : goal.returns-then-core-cores-clause-exists
returns-then-core-cores-clause-exists g c =
    let past : length c.args.self.now.views ≤ c.args.core =
    subst (λ n. n ≤ c.args.core) c.cores.ensures.count c.if-core-cores.true in
    (λ h. absurd (false≢true h), λ h. absurd (omega arith))

pub step_buffered-requires : goal.step_buffered-requires
step_buffered-requires g c =
    let below : c.args.core < length c.args.self.now.views =
    subst (λ n. c.args.core < n) c.cores.ensures.count c.if-core-cores.false in
    record { exists = below; some = c.requires below }

pub returns-clause-exists : goal.returns-clause-exists
returns-clause-exists g c =
    (λ _. subst (λ n. c.args.core < n) c.cores.ensures.count c.if-core-cores.false, λ _. refl)
