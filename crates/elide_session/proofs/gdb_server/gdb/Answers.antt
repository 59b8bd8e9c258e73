use Rattle.std.proofs.Common.{List, Option, Some, None, ◌∙◌, ap, subst}
use Rattle.std.specs.Prelude.{if◌then◌else◌}
use Rattle.tm_gdb.specs.Serving.{ServesInput, start}
use Rattle.tm_model.specs.declared.outcome.Pick.{Pick}
use Rattle.elide_session.proofs.gdb_server.gdb.Goals as goal

pub returns-in-Ok : goal.returns-in-Ok
returns-in-Ok g c =
    let opened = c.in_ok-opened.opened in
    record {
      first = opened.board;
      last = c.in-Ok._board;
      symbols = opened.names.symbols.items;
      opened = c.in_ok-opened.ensures.opened;
      plan = opened.plan.items;
      planned = c.in_ok-opened.ensures.plan;
      answers =
          subst (λ (plan : Option (List Pick)). ServesInput (g.I.In.remaining c.args.input.now)
          (g.I.In.remaining c.serve.new.input) (start opened.board plan) (g.O.Out.device c.args.out.now)
          (g.O.Out.device c.serve.new.out) c.in-Ok._board)
          (c.asked_for-plan.ensures ∙ ap (λ b. if b then Some opened.plan.items else None) c.is_scheduled.ensures)
          c.in-Ok.ensures.1;
    }
