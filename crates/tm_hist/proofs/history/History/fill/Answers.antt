use Rattle.std.proofs.Common.{◌≡◌, ℕ, ◌+◌, List, [], ◌∷◌, ◌++◌, take, ap, sym, ◌∙◌, Some}
use Rattle.std.specs.Prelude.{slice_get}
use Rattle.std.proofs.lemmas.List.{take_more}
use Rattle.std.proofs.lemmas.Option.{get_or_from_slice_get, slice_get_within}
use Rattle.tm_model.specs.declared.outcome.Pick.{Pick}
use Rattle.tm_hist.specs.History.{pairs_of}
use Rattle.tm_model.specs.Runs.{picks_of}
use Rattle.tm_hist.proofs.history.History.fill.Goals as goal

-- one more
picks_more : (picks : List Pick) (i : ℕ) (pick : Pick) (so_far : List Pick) → slice_get picks i ≡ Some pick →
    so_far ≡ take i picks → so_far ++ pick ∷ [] ≡ take (i + 1) picks
picks_more picks i pick so_far there same =
    let within = slice_get_within picks i pick there in
    let one_more : take (i + 1) picks ≡ take i picks ++ pick ∷ [] =
    take_more picks i pick within
    ∙ ap (λ x. take i picks ++ x ∷ []) (get_or_from_slice_get picks i pick pick there) in
    ap (λ (xs : List Pick). xs ++ pick ∷ []) same ∙ sym one_more

pub loop-index-preserved : goal.loop-index-preserved
loop-index-preserved c =
    c.in_ok-push.ensures.items
    ∙ picks_more (picks_of (pairs_of c.args.self)) c.loop-index.index c.unwrap.result c.loop-index.picks.items
    (sym c.pick_at.ensures ∙ c.unwrap.ensures) c.loop-index.invariant
