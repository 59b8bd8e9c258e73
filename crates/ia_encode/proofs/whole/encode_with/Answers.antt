use Rattle.std.proofs.Common.{List, ℕ, subst, sym}
use Rattle.ia_insn.specs.Spelling.{Spells}
use Rattle.ia_insn.proofs.Decodes.{read_back}
use Rattle.ia_insn.proofs.Spelt.{insn_spelt}
use Rattle.ia_encode.proofs.whole.encode_with.Goals as goal

pub returns-clause-spelling : goal.returns-clause-spelling
returns-clause-spelling c = subst (λ (s : List ℕ). Spells s c.args.insn.now) (sym c.written.ensures)
    (insn_spelt c.args.number_wide c.args.place_wide c.args.insn.now c.requires)

pub returns-clause-again : goal.returns-clause-again
returns-clause-again c more =
    let spelling : Spells c.written.result.items c.args.insn.now =
    subst (λ (s : List ℕ). Spells s c.args.insn.now) (sym c.written.ensures)
    (insn_spelt c.args.number_wide c.args.place_wide c.args.insn.now c.requires) in
    read_back c.written.result.items c.args.insn.now more spelling
