use Rattle.tm_gdb.specs.States.{session_value}
use Rattle.tm_gdb.proofs.Served.{heard_is}
use Rattle.tm_gdb.proofs.session.Session.hear.Goals as goal

pub returns-clause-heard : goal.returns-clause-heard
returns-clause-heard g c =
    heard_is c.act.result c.args.byte c.args.self.now.reader c.hear_byte-heard.new.self.reader c.act.new.self.reader
    (session_value c.args.self.now) (session_value c.hear_byte-heard.new.self) (session_value c.act.new.self)
    (g.O.Out.device c.args.out.now) (g.O.Out.device c.act.new.out) c.hear_byte-heard.result
    c.hear_byte-heard.ensures.hears c.act.ensures.reader c.hear_byte-heard.ensures.value c.act.ensures.done
