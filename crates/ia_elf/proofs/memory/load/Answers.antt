use Rattle.std.proofs.Common.{◌≡◌, ◌<◌, arith, rules}
use Rattle.ia_elf.specs.Fields.{e_phnum}
use Rattle.ia_elf.specs.Segments.{HasBytes}
use Rattle.ia_elf.proofs.Loading.{starts, loaded_more, loaded_none, all_loaded}
use Rattle.ia_elf.proofs.Outcomes.{fails, holds}
use Rattle.ia_elf.proofs.memory.load.Goals as goal
use Rattle.ia_elf.proofs.memory.load.Goals.{then-has_bytes+in_ok-push_segment, else-has_bytes}

pub push_segment-requires-clause-start : goal.push_segment-requires-clause-start
push_segment-requires-clause-start c =
    let within : c.loop-number.number < e_phnum c.args.file.now = (search rules) in
    let has = holds c.has_bytes.result (HasBytes c.segment_at-segment.result) c.has_bytes.ensures c.if-has_bytes.true in
    let behind = starts c.args.file.now c.loop-number.bytes.items c.args.base c.loop-number.number
    c.segment_at-segment.result c.loop-number.invariant c.requires.whole c.requires.base c.requires.in_order within
    c.segment_at-segment.ensures has in
    omega arith

pub loop-number-preserved : goal.loop-number-preserved
loop-number-preserved c =
    let file = c.args.file.now in
    let n = c.loop-number.number in
    let s = c.segment_at-segment.result in
    let within : n < e_phnum file = (search rules) in
    elim c.if-has_bytes.branch [
      | then-has_bytes+in_ok-push_segment w ↦
          (let has = holds c.has_bytes.result (HasBytes s) c.has_bytes.ensures w.if-has_bytes.true in
          loaded_more file c.loop-number.bytes.items c.if-has_bytes.bytes.items c.args.base n s c.loop-number.invariant
          c.requires.whole c.requires.base c.requires.in_order within c.segment_at-segment.ensures has
          (rw w.bytes-is w.in_ok-push_segment.ensures))
      | else-has_bytes w ↦ (let idle = fails c.has_bytes.result (HasBytes s) c.has_bytes.ensures w.if-has_bytes.false in
          rw w.bytes-is
          (loaded_none file c.loop-number.bytes.items c.args.base n s c.loop-number.invariant
          c.segment_at-segment.ensures idle))
    ]

pub returns : goal.returns
returns c =
    let all : c.loop-number.number ≡ e_phnum c.args.file.now = (search rules) in
    all_loaded c.args.file.now c.loop-number.bytes.items c.args.base c.loop-number.number c.loop-number.invariant all
    c.requires.whole c.requires.base
