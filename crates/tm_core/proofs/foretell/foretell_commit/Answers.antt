use Rattle.std.proofs.Common.{ℕ, List, [], cond, sym, ap, ◌∙◌}
use Rattle.tm_sets.specs.Content.{Content}
use Rattle.tm_model.specs.Access.{loaded_addresses}
use Rattle.tm_core.specs.declared.foretell.Touches.TheVariants.{Nothing, WriteSet}
use Rattle.tm_core.specs.Representation.{parts_setting}
use Rattle.tm_core.specs.StepRefinement.{add_all}
use Rattle.tm_core.specs.Types.{Lines, Read, Write}
use Rattle.tm_core.proofs.ExplainRooms.{has_room, no_room}
use Rattle.tm_core.proofs.foretell.foretell_commit.Goals as goal

pub returns-in-Some-clause-touched : goal.returns-in-Some-clause-touched
returns-in-Some-clause-touched g c code base size =
    let a : Content = g.S.Sets.content c.args.sets.now in
    let reads : Lines = a.lines c.args.c Read in
    let writes : Lines = a.lines c.args.c Write in
    let loads : List ℕ = loaded_addresses c.args.access in
    c.untouching.ensures.touched
    ∙ sym (ap (λ t. cond t WriteSet Nothing)
    (no_room (parts_setting code base size a) reads writes loads [] (add_all reads loads) writes c.in-Some.over
    (sym c.in-Some.is ∙ c.by_room.ensures code base size)))

pub returns-in-Some-clause-reason : goal.returns-in-Some-clause-reason
returns-in-Some-clause-reason g c code base size =
    c.untouching.ensures.reason ∙ sym c.in-Some.is ∙ c.by_room.ensures code base size

pub returns-in-None-clause-touched : goal.returns-in-None-clause-touched
returns-in-None-clause-touched g c code base size =
    let a : Content = g.S.Sets.content c.args.sets.now in
    let reads : Lines = a.lines c.args.c Read in
    let writes : Lines = a.lines c.args.c Write in
    let loads : List ℕ = loaded_addresses c.args.access in
    sym (ap (λ t. cond t WriteSet Nothing)
    (has_room (parts_setting code base size a) reads writes loads [] (add_all reads loads) writes
    (sym c.in-None.is ∙ c.by_room.ensures code base size)))

pub returns-in-None-clause-reason : goal.returns-in-None-clause-reason
returns-in-None-clause-reason g c code base size = sym c.in-None.is ∙ c.by_room.ensures code base size
