use Rattle.std.proofs.Common.{rules, ◌≡◌, ◌++◌, ℕ, List, ap, subst, ◌∙◌}
use Rattle.text_out.specs.Writing.{Writes}
use Rattle.elide_why.specs.Lines.{abort_back, abort_front, insn_words}
use Rattle.elide_why.proofs.lines.write_abort.Goals as goal

pub returns : goal.returns
returns g c =
    let front : c.as_slice.result.now ≡ abort_front c.args.core c.args.status c.args.reason.now c.args.words.now =
    search rules in
    let back : c.as_slice-2.result.now ≡ abort_back c.args.reason.now = search rules in
    let insn : List ℕ = insn_words c.args.words.now.insn c.args.words.now.eip in
    subst (λ (t : List ℕ). Writes (g.O.Out.device c.args.out.now) (g.O.Out.device c.write_parts.new.out) t
    c.write_parts.result)
    (ap (λ t. t ++ (insn ++ c.as_slice-2.result.now)) front
    ∙ ap (λ t. abort_front c.args.core c.args.status c.args.reason.now c.args.words.now ++ (insn ++ t)) back)
    c.write_parts.ensures
