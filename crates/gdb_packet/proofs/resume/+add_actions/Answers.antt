use Rattle.std.proofs.Common.{◌≡◌, ℕ, ◌+◌, ◌-◌, List, sym, subst, take, drop, length, length-drop, arith}
use Rattle.std.proofs.lemmas.List.{take_all}
use Rattle.gdb_packet.specs.Actions.{IsAdded, actions_in, told_actions}
use Rattle.gdb_packet.proofs.Told.{first_added, last_added, refused}
use Rattle.gdb_packet.proofs.resume.+add_actions.Goals as goal

pub returns-in-Err : goal.returns-in-Err
returns-in-Err t c =
    refused c.args.text.now c.end_of-end.result c.in-Err.asked c.args.count c.args.actions.now c.end_of-end.ensures.end
    c.end_of-end.ensures.within (sym c.in-Err.ensures)

pub returns-then-end-text : goal.returns-then-end-text
returns-then-end-text t c =
    last_added c.args.text.now c.end_of-end.result c.in-Ok.told c.args.count c.add_told-more.result c.args.actions.now
    c.add_told-more.new.actions c.end_of-end.ensures.end (omega arith) (sym c.in-Ok.ensures) c.add_told-more.ensures

pub returns-else-end-text : goal.returns-else-end-text
returns-else-end-text t c =
    let rest
    : take (length c.args.text.now - (c.end_of-end.result + 1)) (drop (c.end_of-end.result + 1) c.args.text.now)
    ≡ drop (c.end_of-end.result + 1) c.args.text.now =
    take_all _ (drop (c.end_of-end.result + 1) c.args.text.now)
    (omega (arith, length-drop (c.end_of-end.result + 1) c.args.text.now)) in
    let others =
    subst
    (λ (l : List ℕ).
    IsAdded (told_actions (actions_in l)) c.add_told-more.result c.add_told-more.new.actions
    c.add_actions.new.actions c.add_actions.result)
    rest c.add_actions.ensures in
    first_added c.args.text.now c.end_of-end.result c.in-Ok.told c.args.count c.add_told-more.result c.args.actions.now
    c.add_told-more.new.actions c.add_actions.new.actions c.add_actions.result c.end_of-end.ensures.end (omega arith)
    (sym c.in-Ok.ensures) c.add_told-more.ensures others
