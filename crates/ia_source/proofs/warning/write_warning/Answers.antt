use Rattle.std.proofs.Common.{rules, ℕ, ◌∙◌, ◌++◌, ◌∷◌, [], List, codes}
use Rattle.std.specs.Fmt.{decimal}
use Rattle.text_out.proofs.Writing.{writes_stopped, writes_then}
use Rattle.ia_source.proofs.warning.write_warning.Goals as goal

-- what stands behind the label, behind the number, and behind the first words
abbrev end : List ℕ
end = codes "' alone on a line without a colon" ++ 10 ∷ []

abbrev behind_number : List ℕ → List ℕ
behind_number label = codes ": label '" ++ (label ++ end)

abbrev numbered : ℕ → List ℕ → List ℕ
numbered number label = decimal number ++ behind_number label

pub returns-in_err-put : goal.returns-in_err-put
returns-in_err-put g c =
    writes_stopped (numbered c.args.number c.args.label.now) c.from_residual.result (search rules) c.in_err-put.ensures

pub returns-in_err-put-2 : goal.returns-in_err-put-2
returns-in_err-put-2 g c =
    let r = c.from_residual-in_err-put-2.result in
    let stopped = rw (c.as_bytes.ensures.value ∙ c.format.ensures.text) at c.in_err-put-2.ensures in
    writes_then _ (numbered c.args.number c.args.label.now) r c.in_ok-put.ensures
    (writes_stopped (behind_number c.args.label.now) r (search rules) stopped)

pub returns-in_err-put-3 : goal.returns-in_err-put-3
returns-in_err-put-3 g c =
    let r = c.from_residual-in_err-put-3.result in
    let number = rw (c.as_bytes.ensures.value ∙ c.format.ensures.text) at c.in_ok-put-2.ensures in
    writes_then _ (numbered c.args.number c.args.label.now) r c.in_ok-put.ensures
    (writes_then _ (behind_number c.args.label.now) r number
    (writes_stopped (c.args.label.now ++ end) r (search rules) c.in_err-put-3.ensures))

pub returns-in_err-put-4 : goal.returns-in_err-put-4
returns-in_err-put-4 g c =
    let r = c.from_residual-in_err-put-4.result in
    let number = rw (c.as_bytes.ensures.value ∙ c.format.ensures.text) at c.in_ok-put-2.ensures in
    writes_then _ (numbered c.args.number c.args.label.now) r c.in_ok-put.ensures
    (writes_then _ (behind_number c.args.label.now) r number
    (writes_then _ (c.args.label.now ++ end) r c.in_ok-put-3.ensures
    (writes_stopped end r (search rules) c.in_err-put-4.ensures)))

pub returns : goal.returns
returns g c =
    let r = c.put-5.result in
    let number = rw (c.as_bytes.ensures.value ∙ c.format.ensures.text) at c.in_ok-put-2.ensures in
    writes_then _ (numbered c.args.number c.args.label.now) r c.in_ok-put.ensures
    (writes_then _ (behind_number c.args.label.now) r number
    (writes_then _ (c.args.label.now ++ end) r c.in_ok-put-3.ensures
    (writes_then _ end r c.in_ok-put-4.ensures c.put-5.ensures)))
