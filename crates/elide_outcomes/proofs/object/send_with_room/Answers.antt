use Rattle.std.proofs.Common.{codes, true}
use Rattle.std.proofs.lemmas.Result.{on_ok_weaker}
use Rattle.elide_object.specs.Object.{number_value}
use Rattle.elide_object.proofs.Sending.{sent_member}
use Rattle.serde_json.specs.Data.{boolean, member, no_members}
use Rattle.elide_outcomes.specs.Object.{last_members, search_object}
use Rattle.elide_outcomes.proofs.object.send_with_room.Goals as goal

pub returns : goal.returns
unfolding search_object
returns g c =
    let written = g.S.Serializer.written in
    let status = c.args.object.now.status in
    let waited = c.args.object.now.search.now.waited in
    on_ok_weaker c.end_map.result (λ ended.
    let end = written c.end_map.new.self in (
      written c.begin_map.new.self,
      c.in_ok-begin_map.ensures,
      c.in_ok-send_front.ensures (last_members true waited status) end
          (sent_member (codes "waited") (boolean waited)
          (member (codes "status") (number_value status) no_members) (written c.send_front.new.out)
          (written c.send_flag.new.out) end c.in_ok-send_flag.ensures
          (sent_member (codes "status") (number_value status) no_members (written c.send_flag.new.out)
          (written c.send_number.new.out) end c.in_ok-send_number.ensures ended)),
    )) c.end_map.ensures
