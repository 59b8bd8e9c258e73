use Rattle.std.proofs.Common.{◌∙◌, ◌<◌, ap, subst}
use Rattle.std.specs.Prelude.{if◌then◌else◌, nat_eq}
use Rattle.tm_core.proofs.Buffered.{opened_as, opened_rows}
use Rattle.tm_core.proofs.unbuffered.Unbuffered.with_buffers.Goals as goal

pub invariant_of-result : goal.invariant_of-result
invariant_of-result g c =
    opened_rows c.args.self c.direct_cores.result c.args.most c.in-Ok.pending.items c.in-Ok-with_capacity.under
    c.nothing_pending.ensures.most c.nothing_pending.ensures.none
    (c.direct_cores.ensures ∙ ap (λ n. if nat_eq c.args.most 0 then n else 0) c.cores-cores.ensures.count)
    (c.in-Ok.ensures.count ∙ c.buffered_cores.ensures
    ∙ ap (λ n. if nat_eq c.args.most 0 then 0 else n) c.cores-cores.ensures.count)
    (λ i d below. c.in-Ok.ensures.each i d (subst (λ n. i < n) c.in-Ok.ensures.count below))
    c.in-Ok-with_capacity.ensures.capacity

pub returns-clause-opened : goal.returns-clause-opened
returns-clause-opened g c =
    opened_as c.args.self c.args.most c.in-Ok.pending.items
    (λ i d below. c.in-Ok.ensures.each i d (subst (λ n. i < n) c.in-Ok.ensures.count below))
