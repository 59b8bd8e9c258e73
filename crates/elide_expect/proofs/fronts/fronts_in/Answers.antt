use Rattle.std.proofs.Common.{[], ◌++◌, ◌∙◌, ap}
use Rattle.std.specs.Prelude.{option_map}
use Rattle.elide_expect.specs.Outcomes.{lists_of, onto_front}
use Rattle.elide_expect.specs.Words.{texts}
use Rattle.elide_expect.proofs.ReadFronts.{front_init}
use Rattle.elide_expect.proofs.fronts.fronts_in.Goals as goal

pub loop-word-init : goal.loop-word-init
loop-word-init c =
    let lists = lists_of (texts c.args.words.now) in
    ap (λ rows. option_map (λ ls. texts rows ++ onto_front c.new-2.result.items ls) lists) c.new.ensures.items
    ∙ ap (λ text. option_map (λ ls. [] ++ onto_front text ls) lists) c.new-2.ensures.items
    ∙ front_init (texts c.args.words.now)
