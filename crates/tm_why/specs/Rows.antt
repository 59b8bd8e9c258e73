-- What one step makes of a core's row, as the code computes it.
use Rattle.std.specs.Prelude.{ℕ, ◌==◌, if◌then◌else◌, Option}
use Rattle.std.specs.Option.{option_or}
use Rattle.tm_model.specs.declared.outcome.Outcome.{Outcome}
use Rattle.tm_stores.specs.declared.change.MadeStore.{MadeStore}
use Rattle.tm_why.specs.Types.{Asked, Hit, Watched}
use Rattle.tm_why.specs.Watched.{Told, begun_by, hit_made, left_by, standing}

abbrev pub row_after_own : Watched → Outcome → ℕ → Watched
row_after_own row outcome number = record {
  begun = begun_by outcome number row.begun;
  hit = left_by outcome row.hit;
}

-- by a step of this number, and of a drain by this store
abbrev pub row_after_other : Watched → Told → Option Hit → ℕ → Option MadeStore → Watched
row_after_other row step hit number by = record {
  begun = row.begun;
  hit = option_or row.hit (standing number step by hit);
}

abbrev pub row_after : ℕ → Asked → Outcome → ℕ → Option MadeStore → Watched → Watched
row_after core asked outcome number by row =
    if core == asked.core
    then row_after_own row outcome number
    else row_after_other row (asked, outcome) (hit_made (asked, outcome) core) number by

-- but for the core's own row
abbrev pub row_if_other : ℕ → Asked → Outcome → ℕ → Option MadeStore → Watched → Watched
row_if_other core asked outcome number by row =
    if core == asked.core
    then row
    else row_after_other row (asked, outcome) (hit_made (asked, outcome) core) number by
