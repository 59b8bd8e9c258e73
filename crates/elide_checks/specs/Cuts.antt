-- Texts that are cut at the first place of a word.
use Rattle.std.specs.Prelude.{◌≡◌, ◌≢◌, ◌≤◌, ℕ, List, ◌++◌, length}

-- a text does not have the word
abbrev pub Lacks : List ℕ → List ℕ → Type 0
Lacks text word = (before behind : List ℕ) → text ≢ before ++ (word ++ behind)

-- what stands before its first place, and behind that
pub record IsCut (text word before behind : List ℕ) : Type 0 where
  pub whole : text ≡ before ++ (word ++ behind)
  pub first : (other rest : List ℕ) → text ≡ other ++ (word ++ rest) → length before ≤ length other
