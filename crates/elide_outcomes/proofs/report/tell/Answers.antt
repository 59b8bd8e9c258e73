use Rattle.std.proofs.Common.{Bool, ◌++◌, length, subst}
use Rattle.elide_args.specs.Asked.{texts_of}
use Rattle.text_out.proofs.Writing.{wrote_then}
use Rattle.text_out.specs.Writing.{Wrote}
use Rattle.elide_outcomes.specs.Lines.{count_line, cycle_lines, items_line, room_line, shown_lines, stop_lines}
use Rattle.elide_outcomes.specs.Lines.{stuck_lines}
use Rattle.elide_outcomes.specs.Violated.{violation_lines}
use Rattle.elide_outcomes.proofs.report.tell.Goals as goal

pub returns : goal.returns
returns g c =
    let device = g.O.Out.device in
    let search = c.args.search.now in
    let options = c.args.options.now in
    let shown = rw c.as_slice.ensures.value at c.in_ok-tell_shown.ensures in
    let violated = rw c.as_slice-2.ensures.value at c.in_ok-tell_violations.ensures in
    let stops = rw c.as_slice-3.ensures.value at c.in_ok-tell_stops.ensures in
    let room = rw c.room_words.ensures at c.in_ok-put.ensures in
    subst
    (λ (shows : Bool). Wrote (device c.args.out.now) (device c.put.new.self)
    (items_line options.shows_names (texts_of c.args.words.now)
    ++ shown_lines shows c.args.labels.now search.outcomes.items
    ++ violation_lines options search.violations.items ++ stop_lines search.stops.items
    ++ stuck_lines options.asks_stuck search.stuck ++ cycle_lines options.asks_stuck search.cycle
    ++ count_line shows (length search.outcomes.items) search.states search.stuck search.is_cut
    ++ room_line search.is_cut search.waited))
    c.has_words-shows.ensures
    (wrote_then
    (wrote_then
    (wrote_then (wrote_then (wrote_then (wrote_then (wrote_then c.in_ok-tell_items.ensures shown) violated) stops)
    c.in_ok-tell_stuck.ensures)
    c.in_ok-tell_cycle.ensures)
    c.in_ok-tell_counts.ensures)
    room)
