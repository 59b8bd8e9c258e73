-- What a call that writes a text to a device does.
use Rattle.std.specs.Prelude.{◌≡◌, ℕ, ◌-◌, ◌^◌, ◌<◌, ◌⊎◌, List, ◌++◌, Option, Result, MatchResult}
use Rattle.std.specs.Io.KnownBytes.{Appends}

-- the bytes that a writing device holds, where they are known, and how often it failed
pub record Device : Type 0 where
  pub contents : Option (List ℕ)
  pub failures : ℕ

-- a count of failures rose, or stands at its greatest number
abbrev pub Rose : ℕ → ℕ → Type 0
Rose old new = (old < new) ⊎ (new ≡ 2 ^ 64 - 1)

-- known bytes grew by a beginning of a text
abbrev pub AppendsFront : Option (List ℕ) → Option (List ℕ) → List ℕ → Type 0
AppendsFront old new text = (written : List ℕ) × (rest : List ℕ) × (text ≡ written ++ rest) × Appends old new written

-- the whole text was written, and no failure counted
pub record Wrote (old new : Device) (text : List ℕ) : Type 0 where
  pub bytes : Appends old.contents new.contents text
  pub failures : new.failures ≡ old.failures

-- a beginning of the text was written, and the count of failures rose
pub record Stopped (old new : Device) (text : List ℕ) : Type 0 where
  pub bytes : AppendsFront old.contents new.contents text
  pub failures : Rose old.failures new.failures

-- at `Ok` the text was written, and at `Err` a beginning of it
abbrev pub Writes : {T E : Type 0} → Device → Device → List ℕ → Result T E → Type 0
Writes old new text result = MatchResult result (λ _. Wrote old new text) (λ _. Stopped old new text)

-- of a text a front was written, and the rest is held back
pub record Ahead (old new : Device) (text rest : List ℕ) : Type 0 where
  pub front : List ℕ
  pub split : text ≡ front ++ rest
  pub wrote : Wrote old new front

-- of a whole text a front was written, the page stands behind it, and the rest is to come
pub record Making (old new : Device) (page rest whole : List ℕ) : Type 0 where
  pub front : List ℕ
  pub split : whole ≡ front ++ (page ++ rest)
  pub wrote : Wrote old new front
