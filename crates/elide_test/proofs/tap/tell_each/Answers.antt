use Rattle.std.proofs.Common.{◌≡◌, ◌+◌, ◌++◌, ℕ, List, arith, get_or, length, subst, sym, take, ◌∙◌, ap}
use Rattle.text_out.proofs.Writing.{wrote_then}
use Rattle.text_out.specs.Writing.{Wrote}
use Rattle.elide_test.specs.Tap.{count_of, file_text, files_text}
use Rattle.elide_test.specs.declared.report.FileReport.{FileReport}
use Rattle.elide_test.proofs.TapTexts.{count_more, files_more}
use Rattle.elide_test.proofs.tap.tell_each.Goals as goal

pub loop-file-preserved : goal.loop-file-preserved
loop-file-preserved g c =
    let device = g.O.Out.device in
    let files = c.args.files.now in
    let i = c.loop-file.file-index in
    let item = c.file-item.result in
    let test = c.loop-file-test.true in
    let before = c.loop-file.invariant.0 in
    let last : get_or files i item ≡ item = sym c.file-item.is in
    let count = count_more files i item test in
    let long : length (get_or files i item).tests.items ≡ length item.tests.items =
    ap (λ (f : FileReport). length f.tests.items) last in
    let more : files_text 0 (take (i + 1) files)
    ≡ files_text 0 (take i files) ++ file_text c.loop-file.before item =
    files_more files i item c.loop-file.before test before
    ∙ ap (λ (f : FileReport). files_text 0 (take i files) ++ file_text c.loop-file.before f) last in
    let Told : List ℕ → Type 0 = λ text. Wrote (device c.args.out.now) (device c.tell_file.new.out) text in (
      omega (arith, c.in-Some.ensures.count),
      subst Told (sym more) (wrote_then c.loop-file.invariant.1 c.in_ok-tell_file.ensures),
    )
