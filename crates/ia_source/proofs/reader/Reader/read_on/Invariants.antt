use Rattle.std.proofs.Common.{◌≡◌, ◌-◌, List, [], None, length, map}
use Rattle.ia_item.specs.declared.item.Entry.{Entry}
use Rattle.ia_item.specs.Fits.{AllFit}
use Rattle.ia_names.specs.Namings.{IsNaming, Grows}
use Rattle.ia_source.specs.Contents.{Reading, entry_content}
use Rattle.ia_source.specs.Rests.{entries_with}
use Rattle.ia_source.proofs.Fronts.{lines_behind}
use Rattle.ia_source.proofs.reader.Reader.read_on.Given as goal

-- the entries of the parts so far stand in front of those of the lines that are left
abbrev pub invariant-parts : goal.invariant-parts
invariant-parts g l = record {
  source : l.self.source.now ≡ l.initial.self.source.now;
  none : l.self.whole ≡ None;
  grows : Grows l.initial.self.names l.self.names;
  walked : (es : List Entry) × ((r : Reading) → IsNaming r.naming l.self.names
      → lines_behind (map (entry_content r) es) (entries_with r l.rest l.self.names [])
      ≡ entries_with r l.initial.rest l.initial.self.names [])
      × AllFit es × g.W.Walk.Walked l.initial.walk es l.walk;
}

abbrev pub decreases-parts : goal.decreases-parts
decreases-parts g l = length l.rest.source.now - l.rest.place
