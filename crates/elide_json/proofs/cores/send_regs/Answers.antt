use Rattle.std.proofs.Common.{codes, ◌∙◌}
use Rattle.std.specs.Prelude.{slice_index}
use Rattle.std.proofs.lemmas.Result.{on_ok_weaker}
use Rattle.elide_object.specs.Object.{number_value}
use Rattle.elide_object.proofs.Sending.{sent_equal}
use Rattle.elide_json.proofs.cores.send_regs.Goals as goal

pub returns : goal.returns
returns g c =
    let written = g.S.Serializer.written in
    let regs = c.args.regs.now in
    let eax = sent_equal (codes "eax") number_value _ (slice_index regs.gpr 0) _ _ (c.from.ensures ∙ c.get.ensures)
    c.in_ok-send_number.ensures in
    let ecx = sent_equal (codes "ecx") number_value _ (slice_index regs.gpr 1) _ _ (c.from-2.ensures ∙ c.get-2.ensures)
    c.in_ok-send_number-2.ensures in
    let edx = sent_equal (codes "edx") number_value _ (slice_index regs.gpr 2) _ _ (c.from-3.ensures ∙ c.get-3.ensures)
    c.in_ok-send_number-3.ensures in
    let ebx = sent_equal (codes "ebx") number_value _ (slice_index regs.gpr 3) _ _ (c.from-4.ensures ∙ c.get-4.ensures)
    c.in_ok-send_number-4.ensures in
    let esp = sent_equal (codes "esp") number_value _ (slice_index regs.gpr 4) _ _ (c.from-5.ensures ∙ c.get-5.ensures)
    c.in_ok-send_number-5.ensures in
    let ebp = sent_equal (codes "ebp") number_value _ (slice_index regs.gpr 5) _ _ (c.from-6.ensures ∙ c.get-6.ensures)
    c.in_ok-send_number-6.ensures in
    let esi = sent_equal (codes "esi") number_value _ (slice_index regs.gpr 6) _ _ (c.from-7.ensures ∙ c.get-7.ensures)
    c.in_ok-send_number-7.ensures in
    let edi = sent_equal (codes "edi") number_value _ (slice_index regs.gpr 7) _ _ (c.from-8.ensures ∙ c.get-8.ensures)
    c.in_ok-send_number-8.ensures in
    on_ok_weaker c.send_number-9.result (λ sent others end rest.
    let eip = sent_equal (codes "eip") number_value _ regs.eip _ _ c.from-9.ensures sent in (
      eax.0,
      written c.send_number.new.out,
      eax.1,
      eax.2,
      (
        ecx.0,
        written c.send_number-2.new.out,
        ecx.1,
        ecx.2,
        (
          edx.0,
          written c.send_number-3.new.out,
          edx.1,
          edx.2,
          (
            ebx.0,
            written c.send_number-4.new.out,
            ebx.1,
            ebx.2,
            (
              esp.0,
              written c.send_number-5.new.out,
              esp.1,
              esp.2,
              (
                ebp.0,
                written c.send_number-6.new.out,
                ebp.1,
                ebp.2,
                (
                  esi.0,
                  written c.send_number-7.new.out,
                  esi.1,
                  esi.2,
                  (
                    edi.0,
                    written c.send_number-8.new.out,
                    edi.1,
                    edi.2,
                    (
                      eip.0,
                      written c.send_number-9.new.out,
                      eip.1,
                      eip.2,
                      rest,
                    ),
                  ),
                ),
              ),
            ),
          ),
        ),
      ),
    ))
    c.send_number-9.ensures
