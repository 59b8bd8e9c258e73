use Rattle.std.proofs.Common.{◌++◌, codes}
use Rattle.std.specs.List.{flat_map}
use Rattle.elide_hunt.proofs.again.put_demands.Goals as goal
use Rattle.elide_hunt.specs.Again.{demand_text, flag_text}
use Rattle.elide_shell.proofs.Texts.{then_on_ok}

pub returns : goal.returns
returns g c =
    let options = c.args.options.now in
    let r = c.put_flag.result in
    let halt = flag_text (codes " --expect-halt") options.expects_halt in
    let stops = flat_map (demand_text (codes " --stop ")) options.stops.items ++ halt in
    let forbids = flat_map (demand_text (codes " --forbid ")) options.forbids.items ++ stops in
    let first = rw c.as_slice.ensures.value at c.in_ok-put_each.ensures in
    let second = rw c.as_slice-2.ensures.value at c.in_ok-put_each-2.ensures in
    let third = rw c.as_slice-3.ensures.value at c.in_ok-put_each-3.ensures in
    then_on_ok _ forbids r first (then_on_ok _ stops r second (then_on_ok _ halt r third c.put_flag.ensures))
