use Rattle.std.proofs.Common.{◌≡◌, ◌+◌, ◌∷◌, ◌++◌, [], List, length, sym, ap, ◌∙◌, subst, arith, length-append}
use Rattle.tm_hist.specs.Board.{ShownBoard}
use Rattle.tm_work.specs.Seats.{HaveNoProgress, AreSeats, SeatProgress, seat_with, no_progress}
use Rattle.tm_work.proofs.Turns.{fresh_more, seats_more}
use Rattle.tm_work.proofs.desk.Desk.open.Goals as goal

pub loop-core-preserved : goal.loop-core-preserved
loop-core-preserved g c =
    let i = c.loop-core.invariant in
    let s = c.seat_of.ensures in
    let p = c.push_reserved.ensures in
    let lines = i.lines in
    let room = i.room in
    let kept = p.capacity in
    let more : c.push_reserved.new.self.items ≡ c.loop-core.seats.items ++ seat_with c.loop-core.core no_progress ∷ [] =
    p.items ∙ ap (λ (x : SeatProgress). c.loop-core.seats.items ++ x ∷ []) s.seat in
    let longer = ap length s.ledger in
    record {
      ledger = subst HaveNoProgress (sym s.ledger) (fresh_more c.loop-core.ledger i.ledger);
      lines = omega (arith, longer, lines, length-append c.loop-core.ledger (no_progress ∷ []));
      seats = subst (λ (l : List SeatProgress). AreSeats l (c.loop-core.core + 1)) (sym more)
          (seats_more c.loop-core.seats.items c.loop-core.core i.seats);
      room = omega (arith, room, kept);
    }

pub returns-clause-seats : goal.returns-clause-seats
returns-clause-seats g c =
    let entries = c.cores-cores.ensures.program
    ∙ ap (λ (b : ShownBoard). length b.program.entries) (c.named-ledger.ensures.board ∙ c.requires.given) in
    let low = c.loop-core.auto.core-end in
    let ended = c.loop-core-test.false in
    let all : c.loop-core.core ≡ c.cores-cores.result = omega (arith, low, ended) in
    subst (AreSeats c.loop-core.seats.items) (all ∙ entries) c.loop-core.invariant.seats
