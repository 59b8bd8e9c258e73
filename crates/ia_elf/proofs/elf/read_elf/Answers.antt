use Rattle.std.proofs.Common.{arith}
use Rattle.ia_elf.specs.declared.fault.ElfFault.TheVariants.{Damaged, NothingToLoad, Overlap, TooHigh}
use Rattle.ia_elf.proofs.Loading.{bytes_fit, code_fits}
use Rattle.ia_elf.proofs.elf.read_elf.Goals as goal

pub base-base-requires-clause-whole : goal.base-base-requires-clause-whole
base-base-requires-clause-whole c = c.in_ok-tested.ensures.passed Damaged (omega arith)

pub base-base-requires-clause-code : goal.base-base-requires-clause-code
base-base-requires-clause-code c = c.in_ok-tested.ensures.passed NothingToLoad (omega arith)

pub base-base-requires-clause-in_order : goal.base-base-requires-clause-in_order
base-base-requires-clause-in_order c = c.in_ok-tested.ensures.passed Overlap (omega arith)

pub load-requires-clause-whole : goal.load-requires-clause-whole
load-requires-clause-whole c = c.in_ok-tested.ensures.passed Damaged (omega arith)

pub load-requires-clause-code : goal.load-requires-clause-code
load-requires-clause-code c = c.in_ok-tested.ensures.passed NothingToLoad (omega arith)

pub load-requires-clause-low : goal.load-requires-clause-low
load-requires-clause-low c = c.in_ok-tested.ensures.passed TooHigh (omega arith)

pub load-requires-clause-in_order : goal.load-requires-clause-in_order
load-requires-clause-in_order c = c.in_ok-tested.ensures.passed Overlap (omega arith)

pub word_at-requires : goal.word_at-requires
word_at-requires c =
    let whole = c.in_ok-tested.ensures.passed Damaged (omega arith) in let h = whole.header.header in omega arith

pub returns-clause-fits : goal.returns-clause-fits
returns-clause-fits c =
    let file = c.args.file.now in
    let bytes = c.in_ok-bytes.bytes.items in
    let base = c.base-base.result in
    let tested = c.in_ok-tested.tested in
    let code = code_fits file bytes base tested.code_end c.in_ok-bytes.ensures c.in_ok-tested.ensures.code_end in
    let all = bytes_fit file bytes base tested.end c.in_ok-bytes.ensures
    (c.in_ok-tested.ensures.passed Damaged (omega arith)) c.in_ok-tested.ensures.end in
    let low = c.in_ok-tested.ensures.low in
    (omega arith, all, low.1)
