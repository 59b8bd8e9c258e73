use Rattle.std.proofs.Common.{◌+◌, ◌++◌, ◌∷◌, [], ◌∙◌, ℕ, List, get_or, length, sym, ap}
use Rattle.std.proofs.lemmas.List.{length_push, take_more}
use Rattle.tm_core.specs.Types.{Store}
use Rattle.tm_core.proofs.LaidOver.{nothing}
use Rattle.tm_core.proofs.store_rows.copy_row.Goals as goal

pub loop-store-preserved : goal.loop-store-preserved
loop-store-preserved c =
    let i = c.loop-store.invariant in
    let at : ℕ = c.loop-store.store-index in
    let item : Store = get_or c.args.twin.now at nothing in
    record {
      items = c.push_reserved.ensures.items ∙ ap (λ (l : List Store). l ++ item ∷ []) i.items
          ∙ sym (take_more c.args.twin.now at nothing c.loop-store-test.true);
      count = ap length c.push_reserved.ensures.items ∙ length_push c.loop-store.row.items item
          ∙ ap (λ n. n + 1) i.count;
      capacity = c.push_reserved.ensures.capacity ∙ i.capacity;
    }
