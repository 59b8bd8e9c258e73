use Rattle.std.proofs.Common.{◌++◌}
use Rattle.text_out.proofs.Writing.{wrote_then}
use Rattle.tm_trace.specs.Lines.{deed_text, front_text}
use Rattle.elide_run.proofs.coded.write_explained.Goals as goal

pub returns : goal.returns
returns g c = (
  front_text c.args.step.core c.args.step.outcome.now c.args.step.deed.now.eip
      ++ (deed_text c.args.labels.now c.args.step.deed.now ++ (c.separator_of.result.now ++ c.args.step.reason.now)),
  wrote_then c.in_ok-write_front.ensures
      (wrote_then c.in_ok-write_deed.ensures (wrote_then c.in_ok-put.ensures c.in_ok-put-2.ensures)),
)
