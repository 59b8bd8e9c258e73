use Rattle.std.proofs.Common.{codes}
use Rattle.std.proofs.lemmas.Result.{on_ok_weaker}
use Rattle.elide_object.proofs.Sending.{sent_equal}
use Rattle.elide_object.specs.Object.{number_value}
use Rattle.elide_test.specs.Object.{tests_status, tests_value}
use Rattle.elide_test.proofs.object.TestsObjectSerialize.serialize.Goals as goal

pub returns : goal.returns
unfolding tests_value
returns g c =
    let written = g.S.Serializer.written in
    let format = c.in_ok-send_number.ensures in
    let command = c.in_ok-send_text.ensures in
    let files = c.in_ok-send_files.ensures in
    let status = sent_equal (codes "status") number_value _ (tests_status c.args.self.now.files.now) _ _
    c.status_of.ensures c.in_ok-send_number-2.ensures in
    on_ok_weaker c.end_map.result
    (λ ended. (
      written c.begin_map.new.self,
      c.in_ok-begin_map.ensures,
      (
        format.0,
        written c.send_number.new.out,
        format.1,
        format.2,
        (
          command.0,
          written c.send_text.new.out,
          command.1,
          command.2,
          (
            files.0,
            written c.send_files.new.out,
            files.1,
            files.2,
            (status.0, written c.send_number-2.new.out, status.1, status.2, ended),
          ),
        ),
      ),
    ))
    c.end_map.ensures
