use Rattle.ia_asm.proofs.ProgramLayouts.{all_found}
use Rattle.ia_asm.proofs.program_layout.find_places.Goals as goal

pub returns-clause-exact : goal.returns-clause-exact
returns-clause-exact c =
    all_found c.args.reader.now.source.now c.find_base.new.reader.source.now c.find_end.new.reader.source.now
    c.find_base.new.reader.names c.find_end.new.reader.names c.find_symbols.new.reader.names
    (record {
      base = c.in_ok-base.base;
      end = c.in_ok-end.end;
      tail = c.tail_base-tail.result;
      table = c.in_ok-table.table;
    })
    c.in_ok-base.ensures.source c.in_ok-end.ensures.source c.in_ok-end.ensures.grows c.in_ok-table.ensures.grows
    c.in_ok-base.ensures.exact c.in_ok-end.ensures.exact c.tail_base-tail.ensures.value c.in_ok-table.ensures.exact
