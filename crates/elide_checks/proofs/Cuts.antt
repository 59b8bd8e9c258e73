-- Texts that are cut at a word, and that do not have it.
use Rattle.std.proofs.Common.{◌≡◌, ℕ, ◌<◌, ◌≤◌, List, ◌++◌, Option, None, Some, Bor, length, drop, ap, ◌∙◌, arith}
use Rattle.std.proofs.Common.{length-append, inl, inr, ◌⊎◌}
use Rattle.std.specs.Prelude.{IfNone, IfSome, MatchOption}
use Rattle.std.specs.Str.Pattern.{FindsText, LacksTextAt, SplitsAroundMatch}
use Rattle.std.proofs.Math.Seq.{drop-append_seam}
use Rattle.std.proofs.lemmas.Bool.{cases_lt}
use Rattle.std.proofs.lemmas.Str.Pattern.{split_text_parts}
use Rattle.elide_checks.specs.Cuts.{IsCut, Lacks}

-- the word does not stand at the end of what comes before it
not_there : (text word before behind : List ℕ) → text ≡ before ++ (word ++ behind)
    → LacksTextAt word text (length before) → ⊥
not_there text word before behind e lacks =
    lacks behind (ap (drop (length before)) e ∙ drop-append_seam before (word ++ behind))

-- the word stands nowhere
absent : (text word : List ℕ) → ((i : ℕ) → i ≤ length text → LacksTextAt word text i) → Lacks text word
absent text word lacks before behind e =
    let long = ap length e ∙ length-append before (word ++ behind) in
    not_there text word before behind e (lacks (length before) (omega (arith, long)))

-- a place is no later than one before which there is none
no_later : (text word front other rest : List ℕ) → ((i : ℕ) → i < length front → LacksTextAt word text i) →
    text ≡ other ++ (word ++ rest) → (length other < length front) ⊎ (length front ≤ length other)
    → length front ≤ length other
no_later text word front other rest lacks e (inl below) =
    absurd (not_there text word other rest e (lacks (length other) below))
no_later text word front other rest lacks e (inr h) = h

pub no_place : (text word : List ℕ) (found : Option (Bor (List ℕ) × Bor (List ℕ)))
    (Some_of : Bor (List ℕ) × Bor (List ℕ) → Type 0) →
    MatchOption found ((i : ℕ) → i ≤ length text → LacksTextAt word text i) Some_of → IfNone found (Lacks text word)
no_place text word None Some_of lacks = absent text word lacks
no_place text word (Some parts) Some_of is = tt

pub first_place : (text word : List ℕ) (found : Option (Bor (List ℕ) × Bor (List ℕ))) →
    MatchOption found (FindsText word text None) (λ x. SplitsAroundMatch (FindsText word) text x.0.now x.1.now) →
    IfSome found (λ parts. IsCut text word parts.0.now parts.1.now)
first_place text word None is = tt
first_place text word (Some parts) is = record {
  whole = split_text_parts word text (Some parts) is;
  first = λ other rest e.
      no_later text word parts.0.now other rest (λ i below. is.2.0 i (omega (arith, below, is.6))) e
      (cases_lt (length other) (length parts.0.now));
}
