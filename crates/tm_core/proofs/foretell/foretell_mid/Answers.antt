use Rattle.std.proofs.Common.{ℕ, ap, length, sym, ◌∙◌, subst}
use Rattle.tm_rule.specs.Rule.{outside_of}
use Rattle.tm_rule.proofs.Facts.{StoreIn, store_within}
use Rattle.tm_core.specs.ExplainedViews.{AreWithin}
use Rattle.tm_core.proofs.Table.{store_place}
use Rattle.tm_core.proofs.foretell.foretell_mid.Goals as goal

pub returns-in-Goes-clause-within : goal.returns-in-Goes-clause-within
returns-in-Goes-clause-within c =
    let size : ℕ = length c.args.memory.now in
    let stores : StoreIn size c.in-Goes.store =
    store_within c.args.listing.now.code.bytes.now c.args.listing.now.code.base size c.args.cpu.now.base
    c.args.cpu.now.kept
    c.in-Goes.field-0 c.in-Goes.store
    (ap (λ n. outside_of c.args.listing.now.code.bytes.now c.args.listing.now.code.base n c.args.cpu.now.base
    c.args.cpu.now.kept) (sym c.size-size.ensures)
    ∙ sym c.outside.ensures ∙ c.in-Goes.is) in
    subst (AreWithin size) (sym c.accessing.ensures.touched) (tt, store_place size c.in-Goes.store stores)
