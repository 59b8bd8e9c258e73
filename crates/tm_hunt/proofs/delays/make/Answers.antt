use Rattle.std.proofs.Common.{rules, ◌≡◌, ◌+◌, ◌∙◌, sym, subst, arith}
use Rattle.tm_hunt.proofs.Loads.{loads_memory}
use Rattle.tm_hunt.proofs.delays.make.Goals as goal

pub returns-in-None-clause-seen : goal.returns-in-None-clause-seen
returns-in-None-clause-seen c = record {
  address = sym c.in-Ok.ensures.eip;
  stores = search rules;
  loads = λ is. (
    c.in-None.is,
    loads_memory c.args.machine.now c.args.pick.core c.in-Ok.preview.reach (c.has_byte_beside-loads.ensures is)
        c.in-Ok.ensures.reach (c.makes.ensures.goes (search rules) c.in-None.is),
  );
}
