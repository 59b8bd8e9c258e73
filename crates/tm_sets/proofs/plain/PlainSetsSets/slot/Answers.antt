use Rattle.tm_sets.proofs.Placing.{plain_are_slots}
use Rattle.tm_sets.proofs.plain.PlainSetsSets.slot.Goals as goal

pub returns-in-Some-clause-all : goal.returns-in-Some-clause-all
returns-in-Some-clause-all c =
    plain_are_slots c.args.self.now.reads.items c.args.self.now.writes.items c.args.self.now.line_count
    c.args.self.now.read_lines c.args.self.now.write_lines c.args.self.now.cores c.args.self.now.write_within

pub returns-in-None-clause-all : goal.returns-in-None-clause-all
returns-in-None-clause-all c =
    plain_are_slots c.args.self.now.reads.items c.args.self.now.writes.items c.args.self.now.line_count
    c.args.self.now.read_lines c.args.self.now.write_lines c.args.self.now.cores c.args.self.now.write_within
