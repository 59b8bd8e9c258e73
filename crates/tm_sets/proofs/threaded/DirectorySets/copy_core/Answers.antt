use Rattle.std.proofs.Common.{◌≡◌, ◌+◌, ◌-◌, ◌<◌, List, true, length, get_or, sym, ap, ◌∙◌, arith}
use Rattle.std.specs.Cmp.{nat_cmp_total}
use Rattle.std.specs.FinSet as set
use Rattle.tm_sets.specs.declared.row.Entry.{Entry}
use Rattle.tm_sets.specs.Row.{entry_at, lines_in}
use Rattle.tm_sets.specs.Content.{Content}
use Rattle.tm_sets.specs.Threaded.{after_on_core, threaded_content}
use Rattle.tm_sets.specs.DirectoryRows.{rows_of}
use Rattle.tm_sets.proofs.Copying.{emptied_within, others_stay, slots_stay, added, keeps, still_within, apart_stay}
use Rattle.tm_sets.proofs.Copying.{has_room}
use Rattle.tm_sets.proofs.Counting.{never, fails}
use Rattle.tm_sets.proofs.CoreWalks.{start_walk, start_ahead, at_place, next_walk, go_ahead, visits_less}
use Rattle.tm_sets.proofs.Lists.{read_at}
use Rattle.tm_sets.proofs.Same.{same_sets}
use Rattle.tm_sets.proofs.Within.{there, all_there}
use Rattle.tm_sets.proofs.threaded.DirectorySets.copy_core.Goals as goal

pub loop-at-init : goal.loop-at-init
loop-at-init c =
    let other = c.args.other.now in
    let below : c.args.core < length other.core_heads.items =
    omega (arith, c.requires.here, ap (λ f. f.cores) c.requires.alike) in
    let now : Content = threaded_content (rows_of c.clear.new.self) in
    let was : Content = threaded_content (rows_of c.args.self.now) in
    let head : c.index-at.result.now ≡ get_or other.core_heads.items c.args.core 0 =
    read_at other.core_heads.items below c.from.ensures c.index-at.ensures in
    record {
      walk = start_walk (rows_of other) other.threaded c.args.core below c.index-at.result.now head;
      unseen =
          λ rank top t e o s. start_ahead (rows_of other) c.args.core below c.index-at.result.now head rank top t e o;
      within = λ kind. emptied_within now was c.args.core c.clear.ensures.content kind
          (lines_in other.entries.items c.args.core kind);
      lines = others_stay now was c.args.core c.clear.ensures.content;
      slots = slots_stay now was c.args.core c.clear.ensures.content;
      fixed = ap (λ x. x.fixed) c.clear.ensures.content;
      visits = c.clear.ensures.visits;
    }

pub visit-entry-requires-clause-below : goal.visit-entry-requires-clause-below
visit-entry-requires-clause-below c =
    let at : c.loop-at.at ≡ c.loop-at.at - 1 + 1 = omega arith in
    omega (arith, (at_place c.loop-at.invariant.walk at).0)

pub visit-entry-requires-clause-few : goal.visit-entry-requires-clause-few
visit-entry-requires-clause-few c =
    let at : c.loop-at.at ≡ c.loop-at.at - 1 + 1 = omega arith in
    omega (arith, visits_less c.loop-at.invariant.walk at, c.args.other.now.few)

pub add-requires-clause-core : goal.add-requires-clause-core
add-requires-clause-core c = omega (arith, c.requires.here, ap (λ f. f.cores) c.loop-at.invariant.fixed)

pub add-requires-clause-line : goal.add-requires-clause-line
add-requires-clause-line c =
    let at : c.loop-at.at ≡ c.loop-at.at - 1 + 1 = omega arith in
    let place = at_place c.loop-at.invariant.walk at in
    omega (
      arith,
      c.args.other.now.counted.line (c.loop-at.at - 1) place.0 place.1,
      ap (λ e. e.line) c.visit-entry.ensures.entry,
      ap (λ f. f.line_count) c.requires.alike,
      ap (λ f. f.line_count) c.loop-at.invariant.fixed,
    )

pub unreachable-requires : goal.unreachable-requires
unreachable-requires c =
    let at : c.loop-at.at ≡ c.loop-at.at - 1 + 1 = omega arith in
    let entry : Entry = c.visit-entry.result in
    let others : List Entry = c.args.other.now.entries.items in
    has_room (rows_of c.loop-at.self) (rows_of c.args.other.now) c.args.core entry.kind entry.line
    c.args.other.now.counted
    (ap (λ f. f.room entry.kind) (c.requires.alike ∙ sym c.loop-at.invariant.fixed))
    (c.loop-at.invariant.within entry.kind)
    (there others c.args.core (c.loop-at.at - 1) entry (at_place c.loop-at.invariant.walk at)
    c.visit-entry.ensures.entry)
    (sym c.in_default.ensures.full)

pub loop-at-smaller : goal.loop-at-smaller
loop-at-smaller c =
    let at : c.loop-at.at ≡ c.loop-at.at - 1 + 1 = omega arith in
    omega (arith, visits_less c.loop-at.invariant.walk at, c.visit-entry.ensures.visited)

pub loop-at-preserved : goal.loop-at-preserved
loop-at-preserved c =
    let at : c.loop-at.at ≡ c.loop-at.at - 1 + 1 = omega arith in
    let entry : Entry = c.visit-entry.result in
    let others : List Entry = c.args.other.now.entries.items in
    let old : List Entry = c.loop-at.self.entries.items in
    let new : List Entry = c.add.new.self.entries.items in
    let walk = c.loop-at.invariant.walk in
    let now : Content = threaded_content (rows_of c.add.new.self) in
    let was : Content = threaded_content (rows_of c.loop-at.self) in
    let next : entry.after_on_core ≡ after_on_core others (c.loop-at.at - 1) =
    ap (λ e. e.after_on_core) c.visit-entry.ensures.entry in
    let found :
    set.contains (lines_in new c.args.core (entry_at others (c.loop-at.at - 1)).kind)
    (entry_at others (c.loop-at.at - 1)).line ≡ true =
    sym (ap (λ e. set.contains (lines_in new c.args.core e.kind) e.line) c.visit-entry.ensures.entry)
    ∙ added now was c.args.core entry.kind entry.line now.slots c.in-Ok.ensures.ok in
    record {
      walk = next_walk walk at next c.visit-entry.ensures.visited;
      unseen = λ rank top t e o s. go_ahead walk at next rank top t e o
          (λ i. never (set.contains (lines_in new c.args.core (entry_at others e).kind) (entry_at others e).line)
          (ap (λ k. set.contains (lines_in new c.args.core (entry_at others k).kind) (entry_at others k).line) i
          ∙ found) s)
          (c.loop-at.invariant.unseen rank top t e o
          (fails (set.contains (lines_in old c.args.core (entry_at others e).kind) (entry_at others e).line) (λ i.
          never (set.contains (lines_in new c.args.core (entry_at others e).kind) (entry_at others e).line)
          (keeps now was c.args.core entry.kind entry.line now.slots c.in-Ok.ensures.ok (entry_at others e).kind
          (entry_at others e).line i) s)));
      within = still_within now was c.args.core entry.kind entry.line now.slots c.in-Ok.ensures.ok
          (lines_in others c.args.core)
          (there others c.args.core (c.loop-at.at - 1) entry (at_place walk at) c.visit-entry.ensures.entry)
          c.loop-at.invariant.within;
      lines = λ o d kind. apart_stay now was c.args.core entry.kind entry.line now.slots c.in-Ok.ensures.ok o d kind
          ∙ c.loop-at.invariant.lines o d kind;
      slots = λ o d. c.in-Ok.ensures.others o d ∙ c.loop-at.invariant.slots o d;
      fixed = ap (λ x. x.fixed) c.in-Ok.ensures.ok ∙ c.loop-at.invariant.fixed;
      visits = c.in-Ok.ensures.visits ∙ c.loop-at.invariant.visits;
    }

pub returns-clause-lines : goal.returns-clause-lines
returns-clause-lines c kind =
    let mine : List Entry = c.loop-at.self.entries.items in
    let others : List Entry = c.args.other.now.entries.items in
    same_sets (lines_in mine c.args.core kind) (lines_in others c.args.core kind) (c.loop-at.invariant.within kind)
    (set.is_subset-contains nat_cmp_total (lines_in others c.args.core kind) (lines_in mine c.args.core kind)
    (all_there c.loop-at.invariant.walk mine c.loop-at-test.false c.loop-at.invariant.unseen kind))

pub returns-clause-elsewhere : goal.returns-clause-elsewhere
returns-clause-elsewhere c = c.loop-at.invariant.lines

pub returns-clause-slots : goal.returns-clause-slots
returns-clause-slots c = c.loop-at.invariant.slots

pub returns-clause-fixed : goal.returns-clause-fixed
returns-clause-fixed c = c.loop-at.invariant.fixed

pub returns-clause-visits : goal.returns-clause-visits
returns-clause-visits c = c.loop-at.invariant.visits
