use Rattle.tm_buffer.proofs.Alike.{no_line, rest_seen}
use Rattle.tm_buffer.proofs.stored.Buffer.has_no_line_beyond.Goals as goal

pub returns-then-not-is_bare_or_in-clause-rest : goal.returns-then-not-is_bare_or_in-clause-rest
returns-then-not-is_bare_or_in-clause-rest c =
    rest_seen _ _ c.self.view_is (no_line c.self.inside.lines.items c.self.inside.masks.items c.self.inside.bytes.items)

pub returns-clause-rest : goal.returns-clause-rest
returns-clause-rest c =
    rest_seen _ _ c.self.view_is (no_line c.self.inside.lines.items c.self.inside.masks.items c.self.inside.bytes.items)
