-- What a file holds that a schedule is recorded in (docs/FORMATS.md, "Schedules").
use Rattle.std.specs.Prelude.{◌≡◌, ℕ, List, Option, IfSome}
use Rattle.std.specs.Borrow.{Bor}

-- where there is a path, the file there holds this text, as far as its content is known
abbrev pub IsRecorded : (List ℕ → Option (List ℕ)) → Option (Bor (List ℕ)) → List ℕ → Type 0
IsRecorded content path text = IfSome path (λ path. IfSome (content path.now) (λ held. held ≡ text))
