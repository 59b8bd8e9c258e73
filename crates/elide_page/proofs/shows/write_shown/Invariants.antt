use Rattle.std.proofs.Common.{◌≡◌, false, take}
use Rattle.text_out.specs.Writing.{Wrote}
use Rattle.elide_page.proofs.Listing.{some_shown}
use Rattle.elide_page.specs.Fronts.{shows_text}
use Rattle.elide_page.proofs.shows.write_shown.Given as goal

-- the variables so far were written
abbrev pub invariant-loop-shown : goal.invariant-loop-shown
invariant-loop-shown g l = record {
  wrote : Wrote (g.O.Out.device l.initial.out) (g.O.Out.device l.out) (shows_text false (take l.shown-index l.list));
  some : l.some ≡ some_shown false (take l.shown-index l.list);
}
