use Rattle.std.proofs.Common.{codes}
use Rattle.std.proofs.lemmas.Result.{on_ok_weaker}
use Rattle.elide_object.specs.Object.{number_value}
use Rattle.elide_object.proofs.Sending.{sent_equal}
use Rattle.elide_hunt.proofs.sending.send_late.Goals as goal

pub returns : goal.returns
returns g c =
    let written = g.S.Serializer.written in
    let late = c.args.late.now in
    let core = sent_equal (codes "core") number_value _ late.core _ _ c.from.ensures c.in_ok-send_number.ensures in
    let stored = c.in_ok-send_number-2.ensures in
    let store = sent_equal (codes "store") number_value _ late.store_eip _ _ c.from-2.ensures
    c.in_ok-send_number-3.ensures in
    let loaded = c.in_ok-send_number-4.ensures in
    let load = sent_equal (codes "load") number_value _ late.load_eip _ _ c.from-3.ensures
    c.in_ok-send_number-5.ensures in
    on_ok_weaker c.end_map.result (λ last. (
      written c.begin_map.new.self,
      c.in_ok-begin_map.ensures,
      (
        core.0,
        written c.send_number.new.out,
        core.1,
        core.2,
        (
          stored.0,
          written c.send_number-2.new.out,
          stored.1,
          stored.2,
          (
            store.0,
            written c.send_number-3.new.out,
            store.1,
            store.2,
            (
              loaded.0,
              written c.send_number-4.new.out,
              loaded.1,
              loaded.2,
              (load.0, written c.send_number-5.new.out, load.1, load.2, last),
            ),
          ),
        ),
      ),
    )) c.end_map.ensures
