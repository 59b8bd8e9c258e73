use Rattle.std.proofs.Common.{◌≡◌, true}
use Rattle.std.specs.List.{list_all}
use Rattle.elide_places.specs.Shown.{is_printable}
use Rattle.elide_places.proofs.source_text.push_plain.Given as goal

-- the row stays printable
abbrev pub invariant-bytes : goal.invariant-bytes
invariant-bytes g l = list_all is_printable l.initial.row.items ≡ true → list_all is_printable l.row.items ≡ true
