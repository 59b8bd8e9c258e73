use Rattle.std.proofs.Common.{◌<◌, [], arith, length}
use Rattle.text_out.proofs.Writing.{wrote_none, wrote_then}
use Rattle.elide_asm.specs.Labelled.{IsListed}
use Rattle.elide_asm.proofs.Lines.{listed_more, place_inside}
use Rattle.elide_asm.proofs.listing.write_listing.Goals as goal

pub lines-init : goal.lines-init
lines-init g c = (omega arith, omega arith, ([], IsListed.none, wrote_none _))

pub lines-preserved : goal.lines-preserved
lines-preserved g c =
    let before = c.lines.invariant.2 in
    let entry = c.in_ok-shown.ensures.line in
    let inside : c.lines.place < length c.args.code.now = c.lines-test.true in (
      place_inside c.args.code.now c.lines.place c.in_ok-shown.shown c.from-place.result inside
          c.in_ok-shown.ensures.within c.from-place.ensures,
      omega arith,
      (
        _,
        listed_more c.args.marks.now c.args.code.now c.args.base c.lines.place c.lines.at c.in_ok-shown.shown
            c.from-place.result
            before.0 entry.0 (omega arith) c.lines.invariant.1 c.from-place.ensures before.1 entry.1,
        wrote_then before.2 (wrote_then c.in_ok-write_marks.ensures entry.2),
      ),
    )
