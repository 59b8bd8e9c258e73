use Rattle.std.proofs.Common.{◌≡◌, ◌<◌, ℕ, List, length, get_or, sym, ap, ◌∙◌, arith}
use Rattle.std.proofs.lemmas.List.{get_or_read}
use Rattle.tm_sets.specs.declared.interface.Kind.TheVariants.{Read, Write}
use Rattle.tm_sets.specs.LineSet.{BoundedLines, lines_in_set, no_line_set}
use Rattle.tm_sets.specs.Plain.{line_set_at}
use Rattle.tm_sets.proofs.plain.PlainSetsSets.is_same.Goals as goal

-- lines that were read at a core's index are the core's
lines_read : (sets : List BoundedLines) {core k : ℕ} {told : BoundedLines} → core < length sets → k ≡ core
    → told ≡ get_or sets k told → lines_in_set told ≡ lines_in_set (line_set_at sets core)
lines_read sets {core} {k} {told} below same read =
    ap lines_in_set (get_or_read sets core told below (rw same at read) no_line_set)

pub returns-then-is_same-clause-all : goal.returns-then-is_same-clause-all
returns-then-is_same-clause-all c same = c.is_same-then-is_same.ensures.all
    (lines_read c.args.self.now.writes.items (omega (arith, c.requires.here, c.args.self.now.cores))
    c.from-then-is_same.ensures c.index-then-is_same.ensures
    ∙ same Write
    ∙ sym (lines_read c.args.other.now.writes.items (omega (arith, c.requires.there, c.args.other.now.cores))
    c.from-then-is_same-2.ensures c.index-then-is_same-2.ensures))

pub returns-else-is_same-clause-all : goal.returns-else-is_same-clause-all
returns-else-is_same-clause-all c same = c.is_same.ensures.all
    (lines_read c.args.self.now.reads.items c.requires.here c.from.ensures c.index.ensures
    ∙ same Read
    ∙ sym (lines_read c.args.other.now.reads.items c.requires.there c.from-2.ensures c.index-2.ensures))
