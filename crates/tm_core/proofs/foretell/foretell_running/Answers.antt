use Rattle.std.proofs.Common.{ℕ, ap, length, sym, ◌∙◌, subst}
use Rattle.tm_rule.specs.Rule.{load_at, outside_of}
use Rattle.tm_rule.proofs.Facts.{LoadIn, StoreIn, load_within, store_within}
use Rattle.tm_core.specs.ExplainedViews.{AreWithin}
use Rattle.tm_core.proofs.Table.{store_place}
use Rattle.tm_core.proofs.foretell.foretell_running.Goals as goal

pub returns-then-takes_two_steps-clause-within : goal.returns-then-takes_two_steps-clause-within
returns-then-takes_two_steps-clause-within c =
    let size : ℕ = length c.args.memory.now in
    let loads : LoadIn size c.load_at-access.result =
    subst (LoadIn size)
    (sym (c.load_at-access.ensures.value c.args.listing.now.code.bytes.now c.args.listing.now.code.base
    c.standing-row.ensures
    ∙ ap (λ n. load_at c.args.listing.now.code.bytes.now c.args.listing.now.code.base n c.args.cpu.now.base)
    c.size-size.ensures))
    (load_within c.args.listing.now.code.bytes.now c.args.listing.now.code.base size c.args.cpu.now.base) in
    subst (AreWithin size) (sym c.accessing.ensures.touched) (loads, tt)

pub returns-else-takes_two_steps-clause-within : goal.returns-else-takes_two_steps-clause-within
returns-else-takes_two_steps-clause-within c =
    let size : ℕ = length c.args.memory.now in
    let loads : LoadIn size c.load_at-access.result =
    subst (LoadIn size)
    (sym (c.load_at-access.ensures.value c.args.listing.now.code.bytes.now c.args.listing.now.code.base
    c.standing-row.ensures
    ∙ ap (λ n. load_at c.args.listing.now.code.bytes.now c.args.listing.now.code.base n c.args.cpu.now.base)
    c.size-size.ensures))
    (load_within c.args.listing.now.code.bytes.now c.args.listing.now.code.base size c.args.cpu.now.base) in
    let stores : StoreIn size c.in-Goes.store =
    store_within c.args.listing.now.code.bytes.now c.args.listing.now.code.base size c.args.cpu.now.base
    c.load-loaded.result
    c.in-Goes.field-0 c.in-Goes.store
    (ap (λ n. outside_of c.args.listing.now.code.bytes.now c.args.listing.now.code.base n c.args.cpu.now.base
    c.load-loaded.result) (sym c.size-size.ensures)
    ∙ sym c.outside.ensures ∙ c.in-Goes.is) in
    subst (AreWithin size) (sym c.accessing-else-takes_two_steps.ensures.touched)
    (loads, store_place size c.in-Goes.store stores)
