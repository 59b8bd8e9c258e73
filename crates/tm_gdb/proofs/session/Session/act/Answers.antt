use Rattle.std.proofs.Common.{[], ◌∷◌}
use Rattle.gdb_packet.specs.declared.heard.Heard.TheVariants.{Nothing, Damaged, TooLong, Interrupt}
use Rattle.gdb_packet.specs.declared.heard.Heard.TheVariants.{Received, Resend}
use Rattle.gdb_packet.specs.declared.heard.Heard.TheVariants.{Stray}
use Rattle.tm_gdb.specs.Sessions.{again_text}
use Rattle.tm_gdb.specs.States.{session_value}
use Rattle.tm_gdb.proofs.Served.{is_written, none_written}
use Rattle.tm_gdb.proofs.session.Session.act.Goals as goal

pub returns-in-Damaged-clause-done : goal.returns-in-Damaged-clause-done
returns-in-Damaged-clause-done g c =
    is_written c.refuse.result (45 ∷ []) c.args.heard.now Damaged (session_value c.args.self.now)
    (g.O.Out.device c.args.out.now) (g.O.Out.device c.refuse.new.out) c.in-Damaged.is (λ text on done. done)
    c.refuse.ensures.puts c.refuse.ensures.on

pub returns-in-TooLong-clause-done : goal.returns-in-TooLong-clause-done
returns-in-TooLong-clause-done g c =
    is_written c.refuse-in-TooLong.result (45 ∷ []) c.args.heard.now TooLong (session_value c.args.self.now)
    (g.O.Out.device c.args.out.now) (g.O.Out.device c.refuse-in-TooLong.new.out) c.in-TooLong.is
    (λ text on done. done) c.refuse-in-TooLong.ensures.puts c.refuse-in-TooLong.ensures.on

pub returns-in-Resend-clause-done : goal.returns-in-Resend-clause-done
returns-in-Resend-clause-done g c =
    is_written c.resend.result (again_text (session_value c.args.self.now).last) c.args.heard.now Resend
    (session_value c.args.self.now) (g.O.Out.device c.args.out.now) (g.O.Out.device c.resend.new.out) c.in-Resend.is
    (λ text on done. done) c.resend.ensures.puts c.resend.ensures.on

pub returns-in-Nothing-clause-done : goal.returns-in-Nothing-clause-done
returns-in-Nothing-clause-done g c =
    none_written c.args.heard.now Nothing (session_value c.args.self.now) (g.O.Out.device c.args.out.now)
    c.in-Nothing.is (λ done. done)

pub returns-in-Interrupt-clause-done : goal.returns-in-Interrupt-clause-done
returns-in-Interrupt-clause-done g c =
    none_written c.args.heard.now Interrupt (session_value c.args.self.now) (g.O.Out.device c.args.out.now)
    c.in-Interrupt.is (λ done. done)

pub returns-in-Received-clause-done : goal.returns-in-Received-clause-done
returns-in-Received-clause-done g c =
    none_written c.args.heard.now Received (session_value c.args.self.now) (g.O.Out.device c.args.out.now)
    c.in-Received.is (λ done. done)

pub returns-in-Stray-clause-done : goal.returns-in-Stray-clause-done
returns-in-Stray-clause-done g c =
    none_written c.args.heard.now (Stray _) (session_value c.args.self.now) (g.O.Out.device c.args.out.now)
    c.in-Stray.is (λ done. done)
