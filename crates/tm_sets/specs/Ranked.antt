-- Lists that are threaded through places by links. A place is told by its number + 1, and 0 tells none.
use Rattle.std.specs.Prelude.{ℕ, ◌≡◌, ◌+◌, ◌<◌, ◌≤◌}

-- The places on a list are reached from its head, each once, in falling order of rank: after each comes the place of
-- the next lower rank on the list.
pub record IsRanked (on : ℕ → Type 0) (head : ℕ) (after rank : ℕ → ℕ) : Type 0 where
  pub head_on : (h : ℕ) → head ≡ h + 1 → on h
  pub some : (e : ℕ) → on e → head ≡ 0 → ⊥
  pub first : (e h : ℕ) → on e → head ≡ h + 1 → rank e ≤ rank h
  pub after_on : (e f : ℕ) → on e → after e ≡ f + 1 → on f
  pub falls : (e f : ℕ) → on e → after e ≡ f + 1 → rank f < rank e
  pub goes_on : (e f : ℕ) → on e → on f → rank f < rank e → after e ≡ 0 → ⊥
  pub next : (e f g : ℕ) → on e → on f → rank f < rank e → after e ≡ g + 1 → rank f ≤ rank g
  pub apart : (e f : ℕ) → on e → on f → rank e ≡ rank f → e ≡ f

-- The links back: the entry after the one before it is itself.
pub record GoesBack (on : ℕ → Type 0) (head : ℕ) (after before : ℕ → ℕ) : Type 0 where
  pub first : (h : ℕ) → head ≡ h + 1 → before h ≡ 0
  pub back : (e f : ℕ) → on e → after e ≡ f + 1 → before f ≡ e + 1
  pub at_head : (e : ℕ) → on e → before e ≡ 0 → head ≡ e + 1
  pub before_on : (e b : ℕ) → on e → before e ≡ b + 1 → on b
  pub itself : (e b : ℕ) → on e → before e ≡ b + 1 → after b ≡ e + 1
