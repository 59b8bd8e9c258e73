-- A run that was found, as a page in a file (docs/FORMATS.md, "Pages").
use Rattle.std.specs.Prelude.{◌≡◌, ℕ, ◌<◌, ◌≤◌, List, Option, IfSome, length}
use Rattle.tm_model.specs.declared.outcome.Pick.{Pick}
use Rattle.elide_setup.specs.declared.paged.Paged.{Paged}
use Rattle.elide_setup.specs.declared.paged.Paged.TheVariants.{AsAsked, TooLong}

-- what became of the page of a run of these steps: of 200,000 at most, the file at the path shows them, as far as its
-- content is known; of more, no content changed
abbrev pub IsPaged : (List ℕ → Type 0) → (List ℕ → Option (List ℕ)) → (List ℕ → Option (List ℕ)) → List ℕ → List Pick
    → Paged → Type 0
IsPaged shows before after path picks AsAsked = (length picks ≤ 200000) × IfSome (after path) shows
IsPaged shows before after path picks TooLong =
    (200000 < length picks) × ((other : List ℕ) → after other ≡ before other)
