use Rattle.std.proofs.Common.{rules, ◌++◌}
use Rattle.text_out.proofs.Writing.{writes_err, writes_stopped, writes_then}
use Rattle.elide_why.specs.Lines.{insn_words}
use Rattle.elide_why.proofs.parts.write_parts.Goals as goal

pub returns-in_err-put : goal.returns-in_err-put
returns-in_err-put g c =
    writes_stopped (insn_words c.args.words.now.insn c.args.words.now.eip ++ c.args.back.now) c.from_residual.result
    (search rules) c.in_err-put.ensures

pub returns-in_err-write_words : goal.returns-in_err-write_words
returns-in_err-write_words g c =
    let rest = writes_stopped c.args.back.now c.from_residual-in_err-write_words.result (search rules)
    c.in_err-write_words.ensures in
    writes_then _ (insn_words c.args.words.now.insn c.args.words.now.eip ++ c.args.back.now)
    c.from_residual-in_err-write_words.result c.in_ok-put.ensures rest

pub returns-in_err-put-2 : goal.returns-in_err-put-2
returns-in_err-put-2 g c =
    let r = c.from_residual-in_err-put-2.result in
    let last = writes_err c.args.back.now r (search rules) c.in_err-put-2.ensures in
    writes_then _ (insn_words c.args.words.now.insn c.args.words.now.eip ++ c.args.back.now) r
    c.in_ok-put.ensures (writes_then _ c.args.back.now r c.in_ok-write_words.ensures last)
