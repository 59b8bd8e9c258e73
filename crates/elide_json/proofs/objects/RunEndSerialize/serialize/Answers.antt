use Rattle.std.proofs.Common.{codes}
use Rattle.std.specs.Option.{option_copied}
use Rattle.std.proofs.lemmas.Result.{on_ok_weaker}
use Rattle.elide_object.specs.Object.{number_value}
use Rattle.elide_object.proofs.Sending.{sent_equal, sent_member}
use Rattle.serde_json.specs.Data.{member, no_members}
use Rattle.elide_json.specs.Objects.{running_value, status_member}
use Rattle.elide_json.proofs.objects.RunEndSerialize.serialize.Goals as goal

pub returns : goal.returns
returns g c =
    let written = g.S.Serializer.written in
    let o = c.args.self.now in
    let running = running_value (option_copied o.running) in
    let status = sent_equal (codes "status") number_value _ o.status _ _ c.from.ensures c.in_ok-send_number.ensures in
    on_ok_weaker c.end_map.result (λ ended.
    let end = written c.end_map.new.self in
    let last = sent_member (codes "status") (number_value o.status) no_members (written c.send_running.new.out)
    (written c.send_number.new.out) end status ended in
    let rest = sent_member (codes "running") running (status_member o.status) (written c.send.new.out)
    (written c.send_running.new.out) end c.in_ok-send_running.ensures last in (
      written c.begin_map.new.self,
      c.in_ok-begin_map.ensures,
      c.in_ok-send.ensures (member (codes "running") running (status_member o.status)) end rest,
    ))
    c.end_map.ensures
