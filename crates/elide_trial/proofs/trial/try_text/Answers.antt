use Rattle.std.proofs.Common.{◌≡◌, List, ℕ, Ok, map, subst}
use Rattle.std.specs.List.{AllZip}
use Rattle.std.specs.Option.{option_copied}
use Rattle.std.proofs.lemmas.Result.{IfOk-weaker}
use Rattle.elide_expect.specs.Tests.{file_content, file_of, test_content}
use Rattle.elide_expect.specs.declared.comment.Kind.{Kind}
use Rattle.elide_expect.specs.declared.file.Test.{Test}
use Rattle.elide_test.specs.Tried.{WasTried}
use Rattle.elide_trial.specs.Came.{CameTo}
use Rattle.elide_trial.proofs.trial.try_text.Goals as goal

pub returns : goal.returns
returns g c =
    let came_to = CameTo (goal.C-post g c.args.call.now) c.args.paths.now in
    let file = c.in_ok-file.file in
    let folder = option_copied c.folder_of.result.0 in
    let Reads : Kind → Type 0 = λ kind. file_of kind c.args.text.now ≡ Ok (file_content file) in
    IfOk-weaker c.try_tests.result _ _
    (λ reports tried.
    let Tries : List Test → Type 0 = λ tests. AllZip (WasTried came_to folder c.in_ok-program.program.now)
    (map test_content tests) reports.items in
    let TriesOf : List ℕ → Type 0 = λ program. AllZip (WasTried came_to folder program)
    (map test_content file.tests.items) reports.items in
    record {
      content = file_content file;
      read = subst Reads c.kind_of.ensures c.in_ok-file.ensures;
      folder = folder;
      name = c.folder_of.result.1.now;
      place = c.folder_of.ensures;
      tried = subst TriesOf c.in_ok-program.ensures (subst Tries c.as_slice.ensures.value tried);
    }) c.try_tests.ensures
