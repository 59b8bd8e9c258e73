use Rattle.std.proofs.Common.{rules, ◌≡◌, ◌++◌, ℕ, List, ap, subst, ◌∙◌}
use Rattle.text_out.specs.Writing.{Writes}
use Rattle.tm_hist.specs.Lines.{interference_word}
use Rattle.elide_why.specs.Interference.{interference_back, interference_front}
use Rattle.elide_why.specs.Lines.{insn_words}
use Rattle.elide_why.proofs.interference.write_interference.Goals as goal

pub returns : goal.returns
returns g c =
    let front : c.as_slice.result.now
    ≡ interference_front c.args.core (interference_word c.args.interference) c.args.status c.args.words.now =
    search rules in
    let back : c.as_slice-2.result.now ≡ interference_back c.args.begun = search rules in
    let insn : List ℕ = insn_words c.args.words.now.insn c.args.words.now.eip in
    subst (λ (t : List ℕ). Writes (g.O.Out.device c.args.out.now) (g.O.Out.device c.write_parts.new.out) t
    c.write_parts.result)
    (ap (λ t. t ++ (insn ++ c.as_slice-2.result.now)) front
    ∙ ap (λ t. interference_front c.args.core (interference_word c.args.interference) c.args.status c.args.words.now
    ++ (insn ++ t)) back)
    c.write_parts.ensures
