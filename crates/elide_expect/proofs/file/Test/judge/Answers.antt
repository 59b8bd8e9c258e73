use Rattle.std.proofs.Common.{◌≡◌, true, false, inl, inr, sym, ◌∙◌, ap, map}
use Rattle.std.proofs.lemmas.Bool.{eq-eqb, ne_eqb}
use Rattle.std.specs.Prelude.{◌==◌, filter_map}
use Rattle.std.specs.List.{list_all}
use Rattle.elide_expect.specs.Judged.{are_each_met, have_lines, in_order, is_met, pattern_of, wanted_status}
use Rattle.elide_expect.specs.Tests.{the_wanted}
use Rattle.elide_expect.proofs.Passing.{all_met, moved, one_missing, one_unmet, other_status, status_told, told}
use Rattle.elide_expect.proofs.Passing.{wanteds}
use Rattle.elide_expect.proofs.file.Test.judge.Goals as goal

pub returns : goal.returns
returns c =
    let test = c.args.self.now in
    let status = c.args.came.now.status in
    let rows = c.args.came.now.lines.items in
    let wanted = status_told test c.as_slice-expectations.result.now c.wanted_status-wanted.result
    c.as_slice-expectations.ensures.value
    c.wanted_status-wanted.ensures in
    all_met test status rows
    (eq-eqb status (wanted_status (map the_wanted test.expectations.items)) (c.if-came-wanted.false ∙ wanted))
    (moved (λ r e. list_all (is_met status r) (map the_wanted e)) true c.as_slice-lines.result.now rows
    c.as_slice-expectations.result.now
    test.expectations.items c.as_slice-lines.ensures.value c.as_slice-expectations.ensures.value
    c.in_default.ensures.none)
    (moved (λ r e. in_order (filter_map pattern_of (map the_wanted e)) r) true c.as_slice-lines.result.now rows
    c.as_slice-expectations.result.now test.expectations.items c.as_slice-lines.ensures.value
    c.as_slice-expectations.ensures.value
    c.in_default-missing.ensures.none)

pub returns-then-came-wanted : goal.returns-then-came-wanted
returns-then-came-wanted c =
    let test = c.args.self.now in
    let status = c.args.came.now.status in
    let wanted = status_told test c.as_slice-expectations.result.now c.wanted_status-wanted.result
    c.as_slice-expectations.ensures.value
    c.wanted_status-wanted.ensures in
    let other : (status == c.wanted_status-wanted.result) ≡ false =
    ne_eqb status c.wanted_status-wanted.result c.if-came-wanted.true in (
      other,
      wanted ∙ ap wanted_status (sym (wanteds test.expectations.items)),
      other_status test status c.args.came.now.lines.items (ap (λ n. status == n) (sym wanted) ∙ other),
    )

pub returns-in-Some : goal.returns-in-Some
returns-in-Some c =
    let test = c.args.self.now in
    let status = c.args.came.now.status in
    let rows = c.args.came.now.lines.items in (
      one_unmet test status rows
          (moved (λ r e. list_all (is_met status r) (map the_wanted e)) false c.as_slice-lines.result.now rows
          c.as_slice-expectations.result.now
          test.expectations.items c.as_slice-lines.ensures.value c.as_slice-expectations.ensures.value
          c.in-Some.ensures.some),
      inl (told test c.as_slice-expectations.result.now c.in-Some.line (are_each_met status)
          c.as_slice-lines.result.now rows
          c.as_slice-expectations.ensures.value c.as_slice-lines.ensures.value c.in-Some.ensures.first),
    )

pub returns-in-Some-missing : goal.returns-in-Some-missing
returns-in-Some-missing c =
    let test = c.args.self.now in
    let status = c.args.came.now.status in
    let rows = c.args.came.now.lines.items in (
      one_missing test status rows
          (moved (λ r e. in_order (filter_map pattern_of (map the_wanted e)) r) false c.as_slice-lines.result.now rows
          c.as_slice-expectations.result.now test.expectations.items c.as_slice-lines.ensures.value
          c.as_slice-expectations.ensures.value
          c.in-Some-missing.ensures.some),
      inr (told test c.as_slice-expectations.result.now c.in-Some-missing.line have_lines
          c.as_slice-lines.result.now rows
          c.as_slice-expectations.ensures.value c.as_slice-lines.ensures.value c.in-Some-missing.ensures.first),
    )
