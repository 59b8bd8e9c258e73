use Rattle.std.proofs.Common.{◌≡◌, ap, inl, inr, rules, true}
use Rattle.std.specs.Option.{option_copied}
use Rattle.elide_setup.proofs.OneFile.{is_one}
use Rattle.elide_setup.proofs.paged.is_path.Goals as goal

pub returns-then-eq-clause-one : goal.returns-then-eq-clause-one
returns-then-eq-clause-one g c _ =
    let same : c.in-Some.other.now ≡ c.args.page.now = search rules in
    (c.in-Some.other.now, ap option_copied c.in-Some.is, inl same)

pub returns-else-eq-clause-one : goal.returns-else-eq-clause-one
returns-else-eq-clause-one g c is =
    let other = c.in-Some.other.now in
    let known = g.P.Paths.are_one c.args.paths.now c.args.page.now other in
    (other, ap option_copied c.in-Some.is, inr (is_one known c.is_same_file.result true c.is_same_file.ensures.told is))
