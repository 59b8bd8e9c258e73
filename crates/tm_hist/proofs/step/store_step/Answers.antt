use Rattle.std.proofs.Common.{sym, ◌∙◌, length}
use Rattle.tm_rule.proofs.Facts.{store_within as rule_store_within}
use Rattle.tm_hist.proofs.Bodies.{store_within, store_fits}
use Rattle.tm_hist.proofs.step.store_step.Goals as goal

pub write-requires-clause-within : goal.write-requires-clause-within
write-requires-clause-within c =
    store_within c.args.size (length c.args.memory.now) c.in-Goes.store c.requires.size
    (rule_store_within c.args.code.now.bytes.now c.args.code.now.base c.args.size c.args.regs.now c.args.value
    c.in-Goes.next c.in-Goes.store (sym c.outside_with.ensures ∙ c.in-Goes.is))

pub write-requires-clause-fits : goal.write-requires-clause-fits
write-requires-clause-fits c =
    store_fits c.args.size c.in-Goes.store
    (rule_store_within c.args.code.now.bytes.now c.args.code.now.base c.args.size c.args.regs.now c.args.value
    c.in-Goes.next c.in-Goes.store (sym c.outside_with.ensures ∙ c.in-Goes.is))
