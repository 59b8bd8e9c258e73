use Rattle.std.proofs.Common.{refl}
use Rattle.elide_outcomes.proofs.command.search_in_order.Goals as goal

pub returns : goal.returns
returns g c = record {
  there = c.in_ok-search.ensures.there;
  search = c.in_ok-search.search;
  searched = c.in_ok-search.ensures.found;
  verdict = c.in_ok-search.ensures.verdict;
  order = c.sort.ensures;
  states = refl;
  cut = refl;
  stuck = refl;
  cycle = refl;
  stops = refl;
  violations = refl;
  waited = refl;
}
