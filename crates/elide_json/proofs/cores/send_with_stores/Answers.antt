use Rattle.std.proofs.Common.{codes}
use Rattle.std.proofs.lemmas.Result.{on_ok_weaker}
use Rattle.elide_object.proofs.Sending.{sent_member}
use Rattle.serde_json.specs.Data.{member, no_members}
use Rattle.tm_core.specs.Theorem.{pending_at}
use Rattle.elide_json.specs.Cores.{core_object, stores_value}
use Rattle.elide_json.proofs.cores.send_with_stores.Goals as goal

pub returns : goal.returns
unfolding core_object
returns g c =
    let written = g.S.Serializer.written in
    let stores = stores_value (pending_at c.args.machine.now c.args.core) in
    on_ok_weaker c.end_map.result (λ ended.
    let end = written c.end_map.new.self in (
      written c.begin_map.new.self,
      c.in_ok-begin_map.ensures,
      c.in_ok-send_front.ensures (member (codes "pending") stores no_members) end
          (sent_member (codes "pending") stores no_members (written c.send_front.new.out)
          (written c.send_pending.new.out) end c.in_ok-send_pending.ensures ended),
    )) c.end_map.ensures
