use Rattle.tm_buffer.proofs.Alike.{no_line, rest_seen}
use Rattle.tm_buffer.proofs.stored.Buffer.is_within.Goals as goal

pub returns-then-not-is_same_line-clause-rest : goal.returns-then-not-is_same_line-clause-rest
returns-then-not-is_same_line-clause-rest c =
    rest_seen _ _ c.self.view_is (no_line c.self.inside.lines.items c.self.inside.masks.items c.self.inside.bytes.items)

pub returns-clause-rest : goal.returns-clause-rest
returns-clause-rest c =
    rest_seen _ _ c.self.view_is (no_line c.self.inside.lines.items c.self.inside.masks.items c.self.inside.bytes.items)
