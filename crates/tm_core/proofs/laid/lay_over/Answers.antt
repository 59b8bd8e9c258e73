use Rattle.std.proofs.Common.{◌+◌, ◌∙◌, ℕ, List, get_or, length, reverse, sym, ap, subst}
use Rattle.std.specs.Prelude.{All}
use Rattle.std.proofs.lemmas.List.{length_push}
use Rattle.std.proofs.lemmas.List.Elements.{All-push}
use Rattle.tm_model.specs.State.{seen_memory, with_store}
use Rattle.tm_core.specs.StoreBuffers.{IsStorable}
use Rattle.tm_core.specs.Types.{Store}
use Rattle.tm_core.proofs.LaidOver.{back_more, laid_more, nothing}
use Rattle.tm_core.proofs.laid.lay_over.Goals as goal

pub loop-store-preserved : goal.loop-store-preserved
loop-store-preserved c =
    let i = c.loop-store.invariant in
    let m : List ℕ = c.args.memory.now in
    let stores : List Store = c.args.stores.now in
    let at : ℕ = c.loop-store.store-index in
    let item : Store = get_or stores at nothing in
    let under : List Store = c.loop-store.under.items in
    let kept : Store = c.stands_under.result in
    record {
      seen = c.write.ensures ∙ ap (λ (l : List ℕ). with_store l item) i.seen
          ∙ sym (laid_more m stores at nothing c.loop-store-test.true);
      back = ap (λ (l : List ℕ). seen_memory l (reverse c.push_reserved.new.self.items)) c.write.ensures
          ∙ ap (λ (u : List Store). seen_memory (with_store c.loop-store.memory item) (reverse u))
          c.push_reserved.ensures.items
          ∙ back_more c.loop-store.memory under item kept m c.stands_under.ensures.address c.stands_under.ensures.bytes
          i.back;
      storable = subst (All (IsStorable (length m))) (sym c.push_reserved.ensures.items)
          (All-push (IsStorable (length m)) under kept i.storable
          (subst (λ n. IsStorable n kept) c.loop-store.auto.memory c.stands_under.ensures.storable));
      count = ap length c.push_reserved.ensures.items ∙ length_push under kept ∙ ap (λ n. n + 1) i.count;
      capacity = c.push_reserved.ensures.capacity ∙ i.capacity;
    }
