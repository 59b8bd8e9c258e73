use Rattle.std.proofs.Common.{◌≡◌, ◌-◌, ◌++◌, List, ℕ, rules, subst}
use Rattle.std.specs.Prelude.{codes}
use Rattle.text_out.specs.Writing.{Writes}
use Rattle.text_out.proofs.Writing.{writes_stopped, writes_then}
use Rattle.symbols.specs.Shown.{shown_name}
use Rattle.debug_command.specs.Places.{distance_text}
use Rattle.debug_command.proofs.places.write_label.Goals as goal

pub returns-in_err-put : goal.returns-in_err-put
returns-in_err-put g c = writes_stopped
    (shown_name c.args.label.now.name.items ++ (distance_text (c.args.address - c.args.label.now.value) ++ codes ">"))
    c.from_residual.result (search rules) c.in_err-put.ensures

pub returns : goal.returns
returns g c =
    let text : List ℕ =
    shown_name c.args.label.now.name.items ++ (distance_text (c.args.address - c.args.label.now.value) ++ codes ">") in
    let both : c.shown.result.now ++ c.as_slice.result.now ≡ text = search rules in
    writes_then (g.O.Out.device c.write_name.new.out) text c.write_name.result c.in_ok-put.ensures
    (subst
    (λ (l : List ℕ). Writes (g.O.Out.device c.put.new.self) (g.O.Out.device c.write_name.new.out) l c.write_name.result)
    both c.write_name.ensures)
