-- One step more of a history.
use Rattle.std.proofs.Common.{◌≡◌, ℕ, ◌+◌, ◌∷◌, Some, sym, ◌∙◌, ap, subst, length, arith}
use Rattle.std.specs.List.{slice_get}
use Rattle.tm_model.specs.declared.outcome.Outcome.{Outcome}
use Rattle.tm_hist.specs.Board.{IsHistory, ShownBoard as Board}
use Rattle.tm_hist.specs.Back.{IsFirst}
use Rattle.tm_why.specs.Asked.{IsAsked}
use Rattle.tm_why.specs.Watched.{IsWatch}
use Rattle.tm_why.specs.declared.asked.Asked.{Asked}
use Rattle.tm_why.specs.declared.watch.Watch.{Watch}
use Rattle.tm_why.specs.History.{IsWatchOf}

pub watched_more : (board before : Board) (watch next : Watch) (n core : ℕ) (made : Outcome) (asked : Asked)
    → slice_get board.history n ≡ Some (core, made) → IsFirst board n before → IsHistory before
    → IsAsked before.machine core asked → (told : IsWatchOf board n watch) → IsWatch next ((asked, made) ∷ told.steps) →
    next.stores.most ≡ watch.stores.most → IsWatchOf board (n + 1) next
watched_more board before watch next n core made asked at so_far law is_asked told kept most = record {
  steps = (asked, made) ∷ told.steps;
  many = let count : length told.steps ≡ n = told.many in omega arith;
  told = (
    record {
      before = before;
      behind = subst (λ (k : ℕ). IsFirst board k before) (sym told.many) so_far;
      law = law;
      asked = subst (λ (k : ℕ). IsAsked before.machine k asked) (sym is_asked.core) is_asked;
      made = ap (λ k. slice_get board.history k) told.many ∙ at ∙ ap (λ k. Some (k, made)) (sym is_asked.core);
    },
    told.told,
  );
  kept = kept;
  most = most ∙ told.most;
}
