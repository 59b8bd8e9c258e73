use Rattle.std.proofs.Common.{sym, ◌∙◌, length, arith}
use Rattle.tm_model.specs.Access.{bytes_at, loaded_addresses, loaded_value}
use Rattle.tm_hist.proofs.Bodies.{store_fits, store_within}
use Rattle.tm_rule.specs.Rule.{load_at}
use Rattle.tm_rule.proofs.Facts.{store_within_inside, nests_below}
use Rattle.tm_hist.proofs.flat.advance.Goals as goal

pub write-requires-clause-within : goal.write-requires-clause-within
write-requires-clause-within c =
    let code = c.args.code.now.bytes.now in
    let base = c.args.code.now.base in
    let load = load_at code base c.args.size c.args.body.now.regs in
    let v = loaded_value load (bytes_at c.args.memory.now (loaded_addresses load)) in
    store_within c.args.size (length c.args.memory.now) c.in-GoesOn.store c.requires.size
    (store_within_inside code base c.args.size c.args.body.now.regs c.args.body.now.depth v c.in-GoesOn.regs
    c.in-GoesOn.store (sym c.next_on.ensures ∙ c.in-GoesOn.is))

pub write-requires-clause-fits : goal.write-requires-clause-fits
write-requires-clause-fits c =
    let code = c.args.code.now.bytes.now in
    let base = c.args.code.now.base in
    let load = load_at code base c.args.size c.args.body.now.regs in
    let v = loaded_value load (bytes_at c.args.memory.now (loaded_addresses load)) in
    store_fits c.args.size c.in-GoesOn.store
    (store_within_inside code base c.args.size c.args.body.now.regs c.args.body.now.depth v c.in-GoesOn.regs
    c.in-GoesOn.store (sym c.next_on.ensures ∙ c.in-GoesOn.is))

pub returns-in-Nests-clause-depth : goal.returns-in-Nests-clause-depth
returns-in-Nests-clause-depth c =
    let code = c.args.code.now.bytes.now in
    let base = c.args.code.now.base in
    let load = load_at code base c.args.size c.args.body.now.regs in
    let v = loaded_value load (bytes_at c.args.memory.now (loaded_addresses load)) in
    let h = nests_below code base c.args.size c.args.body.now.regs c.args.body.now.depth v c.in-Nests.regs
    (sym c.next_on.ensures ∙ c.in-Nests.is) in
    omega arith
