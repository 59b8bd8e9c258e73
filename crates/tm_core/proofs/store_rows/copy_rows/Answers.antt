use Rattle.std.proofs.Common.{◌≡◌, ◌≤◌, ◌<◌, ◌∙◌, ℕ, length, get_or, sym, ap, subst, arith}
use Rattle.std.specs.Prelude.{vec_capacity}
use Rattle.std.proofs.lemmas.List.{get_or_default}
use Rattle.tm_core.proofs.Buffered.{copied_all, copied_more, copied_none}
use Rattle.tm_core.proofs.store_rows.copy_rows.Goals as goal

pub loop-core-init : goal.loop-core-init
loop-core-init c = copied_none c.args.rows.now c.args.twins.now

pub copy_row-requires : goal.copy_row-requires
copy_row-requires c =
    let at : ℕ = c.loop-core.core in
    let any = c.index-rows-core.result in
    let i = c.loop-core.invariant in
    let below : at < length c.args.rows.now = omega (arith, i.count) in
    let there : at < length c.args.twins.now = omega (arith, c.requires.count) in
    let twin : get_or c.args.twins.now at c.index-twins-core.result ≡ get_or c.args.twins.now at any =
    get_or_default c.args.twins.now at c.index-twins-core.result any there in
    let row : get_or c.loop-core.rows at any ≡ get_or c.args.rows.now at any = i.left at any (omega arith) in
    subst (λ n. n ≤ vec_capacity (get_or c.loop-core.rows at any))
    (sym (ap length c.as_slice.ensures.value ∙ ap (λ v. length v.items) (c.index-twins-core.is ∙ twin)))
    (subst (λ n. length (get_or c.args.twins.now at any).items ≤ n) (sym (ap vec_capacity row))
    (c.requires.room at any below))

pub loop-core-preserved : goal.loop-core-preserved
loop-core-preserved c =
    copied_more c.args.rows.now c.args.twins.now c.loop-core.rows c.loop-core.core c.index-rows-core.result
    c.index-twins-core.result c.copy_row.new.row c.loop-core.invariant
    (omega (arith, c.loop-core.invariant.count)) (omega (arith, c.requires.count))
    (c.copy_row.ensures.items ∙ c.as_slice.ensures.value ∙ ap (λ v. v.items) c.index-twins-core.is)
    c.copy_row.ensures.capacity

pub returns : goal.returns
returns c =
    copied_all c.args.rows.now c.args.twins.now c.loop-core.rows c.loop-core.core c.loop-core.invariant (omega arith)
