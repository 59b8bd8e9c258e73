use Rattle.std.proofs.Common.{rules, ◌≡◌, ◌∙◌, ◌+◌, ◌-◌, ap, arith, drop, take, length, length-drop}
use Rattle.std.proofs.lemmas.List.{take_rest}
use Rattle.ia_lex.specs.Lines.{lines_of}
use Rattle.text_out.proofs.Writing.{writes_err}
use Rattle.ia_source.specs.Warnings.{line_warning, lone_label, warnings, warnings_from}
use Rattle.ia_source.proofs.WarnedLines.{line_behind, part_stopped, part_wrote}
use Rattle.ia_source.proofs.warning.warn.Goals as goal

pub returns-in_err-warn_of : goal.returns-in_err-warn_of
returns-in_err-warn_of g c =
    let number = c.lines.above + 1 in
    let taken = c.first_line-taken.result.1 in
    let line = c.first_line-taken.result.0.now in
    let read = rw (take_rest c.args.source.now c.lines.place) at c.first_line-taken.ensures.lines in
    let split = line_behind number c.lines.place taken c.args.source.now line read in
    writes_err (warnings c.args.source.now) c.from_residual.result (search rules)
    (part_stopped (line_warning number (lone_label line))
    (warnings_from (number + 1) (lines_of (drop (c.lines.place + taken) c.args.source.now)))
    c.lines.invariant.2 split c.in_err-warn_of.ensures)

pub lines-preserved : goal.lines-preserved
lines-preserved g c =
    let number = c.lines.above + 1 in
    let taken = c.first_line-taken.result.1 in
    let line = c.first_line-taken.result.0.now in
    let rest = take_rest c.args.source.now c.lines.place in
    let read = rw rest at c.first_line-taken.ensures.lines in
    let split = line_behind number c.lines.place taken c.args.source.now line read in
    let long :
    length (take (length c.args.source.now - c.lines.place) (drop c.lines.place c.args.source.now))
    ≡ length c.args.source.now - c.lines.place
    = ap length rest ∙ length-drop c.lines.place c.args.source.now in (
      omega (arith, c.lines.invariant.0, c.first_line-taken.ensures.some),
      omega (arith, c.lines.invariant.1, long, c.first_line-taken.ensures.within),
      part_wrote (line_warning number (lone_label line))
          (warnings_from (number + 1) (lines_of (drop (c.lines.place + taken) c.args.source.now)))
          c.lines.invariant.2 split c.in_ok-warn_of.ensures,
    )
