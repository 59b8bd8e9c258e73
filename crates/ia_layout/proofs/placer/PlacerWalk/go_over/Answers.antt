use Rattle.std.proofs.Common.{rules, arith}
use Rattle.ia_layout.specs.Contents.{entry_place, layout_state}
use Rattle.ia_layout.proofs.Layouts.{after_next, taken_next}
use Rattle.ia_layout.proofs.placer.PlacerWalk.go_over.Goals as goal

pub loop-entry-preserved : goal.loop-entry-preserved
loop-entry-preserved g c =
    let es = c.args.entries.now in
    let i = c.loop-entry.entry-index in
    let before = layout_state c.loop-entry.self.walk in
    let behind = layout_state c.place.new.self in
    let claim : g.claim c.lifetimes = search rules in
    record {
      text = search rules;
      tail = search rules;
      walk = after_next before behind _ es i c.entry-item.result (omega arith) c.entry-item.is c.in_ok-spot.ensures.next
          c.loop-entry.invariant.walk;
      taken = λ t x.
          c.loop-entry.invariant.taken t (taken_next g.T.Taker.Taken (g.met.T.Taker c.lifetimes claim).goes_on
          c.loop-entry.self.taker c.take.new.self t before behind (entry_place c.in_ok-spot.spot) es i
          c.entry-item.result
          (omega arith) c.entry-item.is c.in_ok-spot.ensures.place c.in_ok-spot.ensures.next c.in_ok-take.ensures x);
    }
