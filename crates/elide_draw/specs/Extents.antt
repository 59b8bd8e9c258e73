-- Which steps of a run are drawn (docs/FORMATS.md, "Pictures").
use Rattle.std.specs.Prelude.{◌≡◌, ℕ, Option}
use Rattle.elide_setup.specs.Extents.{ComeBefore, ComeUpTo}
use Rattle.tm_timeline.specs.declared.window.Window.{Window}

-- of a run of so many steps those from `--from`, counted from 1, to `--to`; from the first, where the one is not given,
-- and to the last, where the other is not or lies behind it
pub record IsWindow (from to : Option ℕ) (total : ℕ) (window : Window) : Type 0 where
  pub first : ComeBefore from total window.from
  pub last : ComeUpTo to window.from total window.to
  pub whole : window.total ≡ total
