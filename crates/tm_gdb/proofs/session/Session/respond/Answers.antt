use Rattle.std.proofs.Common.{◌≡◌, Bool, not, ◌++◌, refl, ◌∙◌, ap}
use Rattle.text_out.proofs.Writing.{wrote_then}
use Rattle.tm_gdb.specs.Sessions.{acknowledgement, acknowledges_behind, reply_text}
use Rattle.tm_gdb.proofs.session.Session.respond.Goals as goal

pub returns-clause-done : goal.returns-clause-done
returns-clause-done g c =
    let command = c.read_command-command.result in
    let reply = c.in_ok-reply.ensures.ok in (
      acknowledgement c.args.self.now.acknowledges ++ reply_text command reply.0,
      record {
        command = command;
        is_told = c.read_command-command.ensures;
        answer = reply.0;
        answers = reply.1;
        acknowledges = c.acknowledges_behind-self.ensures
            ∙ ap (λ (b : Bool). acknowledges_behind command b) c.in_ok-reply.ensures.acknowledges;
        last = reply.2;
        whole = refl;
        goes = ap not c.is_end.ensures;
      },
      wrote_then c.in_ok-acknowledge.ensures reply.3,
    )
