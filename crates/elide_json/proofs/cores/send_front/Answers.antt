use Rattle.std.proofs.Common.{codes, ap, ◌∙◌, map}
use Rattle.std.proofs.lemmas.Result.{on_ok_weaker}
use Rattle.elide_object.specs.Object.{number_value, text_list}
use Rattle.elide_object.proofs.Sending.{sent_equal, sent_member}
use Rattle.serde_json.specs.Data.{member}
use Rattle.elide_json.specs.Cores.{flag_names, regs_members}
use Rattle.elide_json.proofs.cores.send_front.Goals as goal

pub returns : goal.returns
returns g c =
    let written = g.S.Serializer.written in
    let regs = c.args.regs.now in
    let names = text_list (flag_names regs.flags) in
    let core = sent_equal (codes "core") number_value _ c.args.core _ _ c.from.ensures c.in_ok-send_number.ensures in
    on_ok_weaker c.send_texts.result (λ sent others end rest.
    let flags = sent_equal (codes "flags") text_list _ (flag_names regs.flags) _ _
    (ap (map (λ name. name.now)) c.as_slice.ensures.value ∙ c.names_of.ensures) sent in
    let last =
    sent_member (codes "flags") names others (written c.send_regs.new.out) (written c.send_texts.new.out) end flags
    rest in (
      core.0,
      written c.send_number.new.out,
      core.1,
      core.2,
      c.in_ok-send_state.ensures (regs_members regs (member (codes "flags") names others)) end
          (c.in_ok-send_regs.ensures (member (codes "flags") names others) end last),
    )) c.send_texts.ensures
