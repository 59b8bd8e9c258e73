use Rattle.std.proofs.Common.{sym, ◌∙◌}
use Rattle.tm_sets.specs.DirectoryRows.{rows_of}
use Rattle.tm_sets.specs.Threaded.{threaded_content}
use Rattle.tm_sets.proofs.Adding.{known_line}
use Rattle.tm_sets.proofs.threaded.DirectorySets.add.Goals as goal

pub returns-then-is_some-clause-ok : goal.returns-then-is_some-clause-ok
returns-then-is_some-clause-ok c = known_line (threaded_content (rows_of c.args.self.now)) c.args.core c.args.kind
    c.args.line (sym c.find-place.ensures.found ∙ sym c.is_some.ensures ∙ c.if-is_some.true)
