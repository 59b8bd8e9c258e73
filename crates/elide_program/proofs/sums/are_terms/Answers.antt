use Rattle.std.proofs.Common.{rules}
use Rattle.std.proofs.lemmas.Iterator.Search.{all_from_yields_List}
use Rattle.std.proofs.lemmas.Iterator.Splits.{YieldsList-from_slice_split}
use Rattle.elide_program.specs.Forms.{is_term}
use Rattle.elide_program.specs.Sums.{is_sign}
use Rattle.elide_program.proofs.sums.are_terms.Goals as goal
use borrow.Author.Tests.{tests}

pub returns : goal.returns
returns c =
    all_from_yields_List is_term _ _ _ c.all.ensures.ran
    (YieldsList-from_slice_split _ is_sign c.args.bytes.now c.split.ensures.rest c.split.ensures.done
    c.split.ensures.closure (λ x b q k. search (rules, tests)))
    (λ x b q k. search (rules, tests))
