use Rattle.ia_asm.proofs.Outputs.{has_bytes, kinds_are, lines_are, names_are}
use Rattle.ia_asm.proofs.from_source.take_program.Goals as goal

pub returns : goal.returns
returns c =
    let (es, asks, fits, laid, kept) = c.in_ok-taken.ensures in
    let e = c.new.ensures in
    let none = c.new-3.ensures in
    let taken = c.in_ok-taken.taken in
    let bytes = has_bytes es c.args.layout.now c.new.result taken.first.first laid e.symbols e.code e.tail kept.0.0.0
    kept.0.0.1 in
    let names = names_are es c.new-2.result taken.first.second c.new-2.ensures kept.0.1 in
    let kinds = kinds_are es c.new-3.result taken.second none.kinds kept.1.1 in
    (es, asks, fits, laid, (bytes, names, kinds, lines_are es c.new-3.result taken.second none.lines kept.1.0))
