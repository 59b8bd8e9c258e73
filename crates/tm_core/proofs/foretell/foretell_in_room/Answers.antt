use Rattle.std.proofs.Common.{ℕ, List, [], None, cond, sym, ap, ◌∙◌}
use Rattle.tm_sets.specs.Content.{Content}
use Rattle.tm_model.specs.Access.{loaded_addresses, stored_addresses, stores_of}
use Rattle.tm_core.specs.declared.foretell.Touches.{Touches}
use Rattle.tm_core.specs.declared.foretell.Touches.TheVariants.{Accesses, Nothing}
use Rattle.tm_core.specs.ExplainedViews.{Reached}
use Rattle.tm_core.specs.Representation.{parts_setting}
use Rattle.tm_core.specs.StepRefinement.{add_all}
use Rattle.tm_core.specs.Types.{Lines, Read, Write}
use Rattle.tm_core.proofs.ExplainRooms.{has_room, no_room}
use Rattle.tm_core.proofs.foretell.foretell_in_room.Goals as goal

pub returns-in-Some-clause-touched : goal.returns-in-Some-clause-touched
returns-in-Some-clause-touched g c code base size =
    let a : Content = g.S.Sets.content c.args.sets.now in
    let reads : Lines = a.lines c.args.c Read in
    let writes : Lines = a.lines c.args.c Write in
    let loads : List ℕ = loaded_addresses c.args.access in
    let stores : List ℕ = stored_addresses (stores_of c.args.store) in
    let room : Touches = Accesses c.args.access None in
    c.untouching.ensures.touched
    ∙ sym (ap (λ t. cond t room Nothing)
    (no_room (parts_setting code base size a) reads writes loads stores (add_all reads loads) (add_all writes stores)
    c.in-Some.why (sym c.in-Some.is ∙ c.by_room.ensures code base size)))

pub returns-in-Some-clause-reach : goal.returns-in-Some-clause-reach
returns-in-Some-clause-reach g c code base size =
    let a : Content = g.S.Sets.content c.args.sets.now in
    let reads : Lines = a.lines c.args.c Read in
    let writes : Lines = a.lines c.args.c Write in
    let loads : List ℕ = loaded_addresses c.args.access in
    let stores : List ℕ = stored_addresses (stores_of c.args.store) in
    let reached : Reached = (loads, stores) in
    let nothing_reached : Reached = ([], []) in
    c.untouching.ensures.reach
    ∙ sym (ap (λ t. cond t reached nothing_reached)
    (no_room (parts_setting code base size a) reads writes loads stores (add_all reads loads) (add_all writes stores)
    c.in-Some.why (sym c.in-Some.is ∙ c.by_room.ensures code base size)))

pub returns-in-Some-clause-reason : goal.returns-in-Some-clause-reason
returns-in-Some-clause-reason g c code base size =
    c.untouching.ensures.reason ∙ sym c.in-Some.is ∙ c.by_room.ensures code base size

pub returns-in-None-clause-touched : goal.returns-in-None-clause-touched
returns-in-None-clause-touched g c code base size =
    let a : Content = g.S.Sets.content c.args.sets.now in
    let reads : Lines = a.lines c.args.c Read in
    let writes : Lines = a.lines c.args.c Write in
    let loads : List ℕ = loaded_addresses c.args.access in
    let stores : List ℕ = stored_addresses (stores_of c.args.store) in
    let room : Touches = Accesses c.args.access None in
    c.accessing.ensures.touched
    ∙ sym (ap (λ t. cond t room Nothing)
    (has_room (parts_setting code base size a) reads writes loads stores (add_all reads loads) (add_all writes stores)
    (sym c.in-None.is ∙ c.by_room.ensures code base size)))

pub returns-in-None-clause-reach : goal.returns-in-None-clause-reach
returns-in-None-clause-reach g c code base size =
    let a : Content = g.S.Sets.content c.args.sets.now in
    let reads : Lines = a.lines c.args.c Read in
    let writes : Lines = a.lines c.args.c Write in
    let loads : List ℕ = loaded_addresses c.args.access in
    let stores : List ℕ = stored_addresses (stores_of c.args.store) in
    let reached : Reached = (loads, stores) in
    let nothing_reached : Reached = ([], []) in
    c.accessing.ensures.reach
    ∙ sym (ap (λ t. cond t reached nothing_reached)
    (has_room (parts_setting code base size a) reads writes loads stores (add_all reads loads) (add_all writes stores)
    (sym c.in-None.is ∙ c.by_room.ensures code base size)))

pub returns-in-None-clause-reason : goal.returns-in-None-clause-reason
returns-in-None-clause-reason g c code base size =
    c.accessing.ensures.reason ∙ sym c.in-None.is ∙ c.by_room.ensures code base size
