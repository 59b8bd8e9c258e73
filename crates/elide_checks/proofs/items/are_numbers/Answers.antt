use Rattle.std.proofs.Common.{List, ℕ, rules}
use Rattle.std.proofs.lemmas.Iterator.Search.{all_from_yields_List}
use Rattle.std.proofs.lemmas.Iterator.Splits.{YieldsList-from_slice_split}
use Rattle.elide_program.specs.Sums.{is_sign}
use Rattle.elide_checks.specs.Constants.{is_among}
use Rattle.elide_checks.specs.Items.{is_number, trimmed}
use Rattle.elide_checks.proofs.items.are_numbers.Goals as goal
use borrow.Author.Tests.{tests}

pub returns : goal.returns
returns c =
    all_from_yields_List (λ (term : List ℕ). is_number (is_among c.args.constants.now.names.items) (trimmed term)) _ _ _
    c.all.ensures.ran
    (YieldsList-from_slice_split _ is_sign c.args.sum.now c.split.ensures.rest c.split.ensures.done
    c.split.ensures.closure (λ x r q k. search (rules, tests)))
    (λ x b q k. search (rules, tests))
