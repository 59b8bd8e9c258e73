use Rattle.std.proofs.Common.{◌≡◌, ◌≢◌, List, ℕ, length, rules, subst}
use Rattle.ia_text.specs.Listing.{listing_line}
use Rattle.text_out.specs.Writing.{Writes}
use Rattle.text_out.proofs.Writing.{writes_stopped, writes_then}
use Rattle.debug_command.proofs.Labels.{of_code, of_no_code}
use Rattle.debug_command.proofs.places.write_labelled.Goals as goal

pub returns-then-is_empty-clause-text : goal.returns-then-is_empty-clause-text
returns-then-is_empty-clause-text g c =
    let none : length c.args.code.now ≡ 0 = search rules in
    subst
    (λ (l : List ℕ). Writes (g.O.Out.device c.args.out.now) (g.O.Out.device c.write_line.new.out) l c.write_line.result)
    (of_no_code c.args.labels.now c.args.code.now c.args.at none) c.write_line.ensures.text

pub returns-in_err-write_names-clause-text : goal.returns-in_err-write_names-clause-text
returns-in_err-write_names-clause-text g c =
    let some : length c.args.code.now ≢ 0 = search rules in
    subst (λ (l : List ℕ). Writes (g.O.Out.device c.args.out.now) (g.O.Out.device c.write_names.new.out) l
    c.from_residual.result) (of_code c.args.labels.now c.args.code.now c.args.at some)
    (writes_stopped (listing_line c.args.code.now c.args.at) c.from_residual.result (search rules)
    c.in_err-write_names.ensures)

pub returns-clause-text : goal.returns-clause-text
returns-clause-text g c =
    let some : length c.args.code.now ≢ 0 = search rules in
    subst (λ (l : List ℕ). Writes (g.O.Out.device c.args.out.now) (g.O.Out.device c.write_line-2.new.out) l
    c.write_line-2.result) (of_code c.args.labels.now c.args.code.now c.args.at some)
    (writes_then (g.O.Out.device c.write_line-2.new.out) (listing_line c.args.code.now c.args.at) c.write_line-2.result
    c.in_ok-write_names.ensures c.write_line-2.ensures.text)
