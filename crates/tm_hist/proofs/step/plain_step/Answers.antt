use Rattle.std.proofs.Common.{sym, ◌∙◌, length}
use Rattle.tm_model.specs.Access.{bytes_at, loaded_addresses, loaded_value}
use Rattle.tm_hist.proofs.Bodies.{store_fits, store_within}
use Rattle.tm_rule.specs.Rule.{load_at}
use Rattle.tm_rule.proofs.Facts.{store_within as rule_store_within}
use Rattle.tm_hist.proofs.step.plain_step.Goals as goal

pub write-requires-clause-within : goal.write-requires-clause-within
write-requires-clause-within c =
    let code = c.args.code.now.bytes.now in
    let base = c.args.code.now.base in
    let load = load_at code base c.args.size c.args.regs.now in
    let v = loaded_value load (bytes_at c.args.memory.now (loaded_addresses load)) in
    store_within c.args.size (length c.args.memory.now) c.in-Goes.store c.requires.size
    (rule_store_within code base c.args.size c.args.regs.now v c.in-Goes.next c.in-Goes.store
    (sym c.outside_on.ensures ∙ c.in-Goes.is))

pub write-requires-clause-fits : goal.write-requires-clause-fits
write-requires-clause-fits c =
    let code = c.args.code.now.bytes.now in
    let base = c.args.code.now.base in
    let load = load_at code base c.args.size c.args.regs.now in
    let v = loaded_value load (bytes_at c.args.memory.now (loaded_addresses load)) in
    store_fits c.args.size c.in-Goes.store
    (rule_store_within code base c.args.size c.args.regs.now v c.in-Goes.next c.in-Goes.store
    (sym c.outside_on.ensures ∙ c.in-Goes.is))
