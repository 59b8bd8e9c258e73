use Rattle.std.proofs.Common.{take}
use Rattle.elide_checks.specs.Added.{AreAdded}
use Rattle.elide_checks.specs.Constants.{is_among}
use Rattle.elide_checks.proofs.adding.add_checks.Given as goal

-- each option so far has its check
abbrev pub invariant-loop-text : goal.invariant-loop-text
invariant-loop-text g l =
    AreAdded (g.C.ConditionCheck.says l.scope.file.now (is_among l.scope.constants.now.names.items) l.option)
    (take l.text-index l.texts) l.initial.checks.items l.checks.items
