-- What the seats of a ledger know, and what their steps do to it.
use Rattle.std.specs.Prelude.{◌≡◌, ℕ, List, [], ◌∷◌, ◌++◌, length, Option, Some, None, slice_get, slice_set, true}
use Rattle.std.specs.Prelude.{false}
use mathlib.Core.Option.{some}
use lib.ListN.{get_elem?}
use Rattle.atomic_table.specs.Table.{Me, Step}
use Rattle.tm_ledger.specs.declared.rule.SeatView.{SeatView}

module _ {M : Type 0} where
  -- the ledger, with no token in it
  abbrev pub keeper_of : List M → SeatView M
  keeper_of all = record { keeps = true; all = all; line = 0; progress = None }

  -- the ledger, and the token of a line
  abbrev pub keeper_with : List M → ℕ → Option M → SeatView M
  keeper_with all line progress = record { keeps = true; all = all; line = line; progress = progress }

  -- the token of a line
  abbrev pub token_of : ℕ → Option M → SeatView M
  token_of line progress = record { keeps = false; all = []; line = line; progress = progress }

  -- a token that was taken in
  abbrev pub spent_view : SeatView M
  spent_view = record { keeps = false; all = []; line = 0; progress = None }

  -- what the rule says of one seat: the ledger is at one place, and the token of a line too
  abbrev pub KnowsProgress : ℕ → List M → (ℕ → ℕ) → ℕ → SeatView M → Type 0
  KnowsProgress seat all who by view =
      (view.keeps ≡ true → (by ≡ seat) × (view.all ≡ all))
      × ((m : M) → view.progress ≡ Some m → (who view.line ≡ by) × (slice_get all view.line ≡ Some m))

  -- there is a ledger that all seats agree with
  abbrev pub ViewsAgree : List (SeatView M) → Type 0
  ViewsAgree views =
      (seat : ℕ) × (all : List M) × (who : ℕ → ℕ)
      × ((by : ℕ) (view : SeatView M) → get_elem? views by ≡ some view → KnowsProgress seat all who by view)

  -- the ledger has a new line with the progress that was said, and its token
  abbrev pub OpensLine : Step M → Me M (SeatView M) → ℕ → Me M (SeatView M) → Type 0
  OpensLine step before found after =
      (m : M) → step.said ≡ some m
      → after ≡ (keeper_with (before.0.all ++ m ∷ []) (length before.0.all) (Some m), before.1)

  -- the line of the token had the token's progress, and has the one that was said
  abbrev pub WritesLine : Step M → Me M (SeatView M) → ℕ → Me M (SeatView M) → Type 0
  WritesLine step before found after =
      ((n : M) → before.0.progress ≡ Some n → slice_get before.0.all before.0.line ≡ Some n)
      × ((m : M) → step.said ≡ some m
      → after ≡ (keeper_with (slice_set before.0.all before.0.line m) before.0.line (Some m), before.1))
