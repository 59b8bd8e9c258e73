use Rattle.std.proofs.Common.{◌≡◌, ◌-◌, ◌≤◌, [], length}
use Rattle.ia_item.specs.Fits.{AllFit}
use Rattle.ia_names.specs.Namings.{IsNaming, Grows}
use Rattle.ia_source.specs.Contents.{Reading}
use Rattle.ia_source.specs.Rests.{entries_with}
use Rattle.ia_source.proofs.rest.Rest.part.Given as goal

-- the lines so far made these entries
abbrev pub invariant-lines : goal.invariant-lines
invariant-lines l = record {
  source : l.self.source.now ≡ l.initial.self.source.now;
  grows : Grows l.initial.names l.names;
  read : (r : Reading) → IsNaming r.naming l.names
      → entries_with r l.self l.names l.entries.list.items ≡ entries_with r l.initial.self l.initial.names [];
  fit : AllFit l.entries.list.items;
  onward : l.initial.self.place ≤ l.self.place;
}

abbrev pub decreases-lines : goal.decreases-lines
decreases-lines l = length l.self.source.now - l.self.place
