-- The lines of checks that ends violate (docs/FORMATS.md, "Outcomes").
use Rattle.std.specs.Prelude.{ℕ, ◌-◌, List, [], ◌++◌, codes, length, slice_get, Option, Some, None}
use Rattle.std.specs.Borrow.{Bor}
use Rattle.std.specs.List.{flat_map}
use Rattle.elide_args.specs.declared.subcommand.OutcomesOptions.{OutcomesOptions}
use Rattle.text_out.specs.TextLine.{line_end}
use Rattle.tm_model.specs.declared.outcome.Pick.{Pick}
use Rattle.tm_outcomes.specs.declared.violations.Violation.{Violation}
use Rattle.tm_schedule.specs.Picks.{pick_word}

-- the option that says the check with this index: those of `--check` come first, then those of `--forbid`
abbrev pub forbid_words : Option (Bor (List ℕ)) → List ℕ
forbid_words None = []
forbid_words (Some text) = codes "forbid  " ++ text.now

abbrev pub words_of_check : OutcomesOptions → ℕ → Option (Bor (List ℕ)) → List ℕ
words_of_check options index None = forbid_words (slice_get options.forbids.items index)
words_of_check options index (Some text) = codes "check  " ++ text.now

abbrev pub check_words : OutcomesOptions → ℕ → List ℕ
check_words options index =
    words_of_check options (index - length options.checks.items) (slice_get options.checks.items index)

-- the check, and a schedule that leads to an end which violates it
abbrev pub violation_line : OutcomesOptions → Violation → List ℕ
violation_line options told =
    check_words options told.check ++ codes " "
    ++ flat_map (λ (pick : Pick). codes " " ++ pick_word pick) told.schedule.items ++ line_end

abbrev pub violation_lines : OutcomesOptions → List Violation → List ℕ
violation_lines options violations = flat_map (violation_line options) violations
