use Rattle.std.proofs.Common.{◌≡◌, ◌<◌, ◌+◌, ◌++◌, ◌∷◌, [], get_or, length, subst, sym, ap, ◌∙◌}
use Rattle.std.proofs.Common.{⊎_elim, arith}
use Rattle.std.proofs.lemmas.Bool.{cases_eq}
use Rattle.std.proofs.lemmas.List.{get_or_append_left, get_or_push, length_push}
use Rattle.tm_core.specs.Buffered.{IsEmptyRow}
use Rattle.tm_core.proofs.store_rows.start_rows.Goals as goal

pub loop-core-preserved : goal.loop-core-preserved
loop-core-preserved c =
    let rows = c.loop-core.rows.items in
    let row = c.in_ok-with_capacity.field-0 in
    let pushed : c.push.new.self.items ≡ rows ++ row ∷ [] = c.in_ok-push.ensures.items in
    let own : IsEmptyRow c.args.most row = record {
      none = c.in_ok-with_capacity.ensures.items;
      room = c.in_ok-with_capacity.ensures.capacity;
    } in
    record {
      len = ap length pushed ∙ length_push rows row ∙ ap (λ n. n + 1) c.loop-core.invariant.len;
      each = λ k d below. ⊎_elim
          (λ (e : k ≡ c.loop-core._core).
          let at : get_or c.push.new.self.items k d ≡ row =
          ap (λ xs. get_or xs k d) pushed ∙ get_or_push rows row d k (c.loop-core.invariant.len ∙ sym e) in
          subst (IsEmptyRow c.args.most) (sym at) own)
          (λ (e : k ≡ c.loop-core._core → ⊥).
          let before : k < length rows = omega (arith, c.loop-core.invariant.len) in
          let at : get_or c.push.new.self.items k d ≡ get_or rows k d =
          ap (λ xs. get_or xs k d) pushed ∙ get_or_append_left rows (row ∷ []) d k before in
          subst (IsEmptyRow c.args.most) (sym at) (c.loop-core.invariant.each k d (omega arith)))
          (cases_eq k c.loop-core._core);
    }
