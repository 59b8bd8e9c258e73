use Rattle.std.proofs.lemmas.Result.{on_ok_weaker}
use Rattle.elide_json.proofs.objects.Shown.send.Goals as goal

pub returns : goal.returns
returns g c =
    let written = g.S.Serializer.written in
    let cores = c.in_ok-send_cores.ensures in
    let dumps = c.in_ok-send_dumps.ensures in
    on_ok_weaker c.send_shows.result (λ shows others end rest. (
      cores.0,
      written c.send_cores.new.out,
      cores.1,
      cores.2,
      (
        dumps.0,
        written c.send_dumps.new.out,
        dumps.1,
        dumps.2,
        (
          shows.0,
          written c.send_shows.new.out,
          shows.1,
          shows.2,
          rest,
        ),
      ),
    ))
    c.send_shows.ensures
