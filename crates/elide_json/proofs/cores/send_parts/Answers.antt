use Rattle.std.proofs.lemmas.Result.{on_ok_weaker}
use Rattle.serde_json.specs.Data.{no_members}
use Rattle.elide_json.specs.Cores.{core_object}
use Rattle.elide_json.proofs.cores.send_parts.Goals as goal

pub returns : goal.returns
unfolding core_object
returns g c =
    let written = g.S.Serializer.written in
    on_ok_weaker c.end_map.result (λ ended. (
      written c.begin_map.new.self,
      c.in_ok-begin_map.ensures,
      c.in_ok-send_front.ensures no_members (written c.end_map.new.self) ended,
    )) c.end_map.ensures
