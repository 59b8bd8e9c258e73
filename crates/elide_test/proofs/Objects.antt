-- No value of the object of tests is a float.
use Rattle.std.proofs.Common.{◌≡◌, ℕ, false, ◌||◌, List, Option, Some, None, refl}
use Rattle.std.specs.Prelude.{option_map, string_bytes}
use Rattle.elide_object.proofs.Sending.{no_float_both, no_float_items}
use Rattle.elide_object.specs.Object.{items_of}
use Rattle.serde_json.specs.Written.{has_float, items_have_float}
use Rattle.elide_test.specs.Object.{file_value, refusal_value, test_value, tests_value, unmet_value}
use Rattle.elide_test.specs.declared.report.Difference.{Difference}
use Rattle.elide_test.specs.declared.report.FileReport.{FileReport}
use Rattle.elide_test.specs.declared.report.TestReport.{TestReport}

no_float_unmet : (difference : Option Difference) → has_float (unmet_value difference) ≡ false
no_float_unmet None = refl
no_float_unmet (Some difference) = refl

no_float_refusal : (line : Option (List ℕ)) → has_float (refusal_value line) ≡ false
no_float_refusal None = refl
no_float_refusal (Some line) = refl

no_float_test : (report : TestReport) → has_float (test_value report) ≡ false
no_float_test report =
    let line = option_map string_bytes report.refusal in
    no_float_both (has_float (unmet_value report.difference)) (has_float (refusal_value line) || false)
    (no_float_unmet report.difference)
    (no_float_both (has_float (refusal_value line)) false (no_float_refusal line) refl)

no_float_file : (file : FileReport) → has_float (file_value file) ≡ false
no_float_file file =
    no_float_both (items_have_float (items_of test_value file.tests.items)) false
    (no_float_items test_value no_float_test file.tests.items) refl

pub no_float_tests : (files : List FileReport) → has_float (tests_value files) ≡ false
unfolding tests_value
no_float_tests files =
    no_float_both (items_have_float (items_of file_value files)) false
    (no_float_items file_value no_float_file files) refl
