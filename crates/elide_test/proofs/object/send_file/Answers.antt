use Rattle.std.proofs.Common.{codes}
use Rattle.std.proofs.lemmas.Result.{on_ok_weaker}
use Rattle.elide_object.proofs.Sending.{sent_equal}
use Rattle.elide_object.specs.Object.{list_value}
use Rattle.serde_json.specs.Data.{string}
use Rattle.std.specs.Prelude.{string_bytes}
use Rattle.elide_test.specs.Object.{test_value}
use Rattle.elide_test.proofs.object.send_file.Goals as goal

pub returns : goal.returns
returns g c =
    let written = g.S.Serializer.written in
    let file = c.args.file.now in
    let name = sent_equal (codes "file") string _ (string_bytes file.name) _ _
    c.as_str.ensures.value c.in_ok-send_text.ensures in
    let tests = sent_equal (codes "tests") (list_value test_value) _ file.tests.items _ _
    c.as_slice.ensures.value c.in_ok-send_tests.ensures in
    on_ok_weaker c.end_map.result
    (λ ended. (
      written c.begin_map.new.self,
      c.in_ok-begin_map.ensures,
      (
        name.0,
        written c.send_text.new.out,
        name.1,
        name.2,
        (tests.0, written c.send_tests.new.out, tests.1, tests.2, ended),
      ),
    ))
    c.end_map.ensures
