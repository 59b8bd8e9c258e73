use Rattle.std.proofs.Common.{sym, ◌∙◌}
use Rattle.std.proofs.lemmas.Bool.{ne_eqb}
use Rattle.gdb_packet.proofs.Unescaping.{escape_more, plain_more}
use Rattle.gdb_packet.proofs.unescape.take_byte.Goals as goal

pub returns-then-escapes-clause-stands_for : goal.returns-then-escapes-clause-stands_for
returns-then-escapes-clause-stands_for c =
    λ rest. rw c.if-escapes.true
    (escape_more c.args.bytes.now.items c.push.new.self.items c.args.byte rest c.push.ensures.items)

pub returns-else-is_bound-clause-stands_for : goal.returns-else-is_bound-clause-stands_for
returns-else-is_bound-clause-stands_for c =
    λ rest. rw c.if-escapes.false
    (plain_more c.args.bytes.now.items c.push-else-is_bound.new.self.items c.args.byte rest
    (ne_eqb c.args.byte 125 c.if-byte-eq125.false) (sym c.is_bound.ensures ∙ c.if-is_bound.false)
    c.push-else-is_bound.ensures.items)
