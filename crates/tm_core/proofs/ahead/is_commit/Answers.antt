use Rattle.std.proofs.Common.{◌≡◌, ◌∙◌, ℕ, ◌-◌, List, [], length, refl, subst, sym, ap}
use Rattle.std.specs.Prelude.{◌&&◌}
use Rattle.std.proofs.lemmas.Bool.{eq-eqb, ne_eqb}
use Rattle.tm_rule.proofs.Facts.{LoadIn, load_within}
use Rattle.tm_sets.specs.Content.{Content}
use Rattle.tm_model.specs.Access.{loaded_addresses}
use Rattle.tm_model.specs.Owed.{have_room}
use Rattle.tm_model.specs.Setting.{Setting}
use Rattle.tm_model.specs.Shown.{View}
use Rattle.tm_core.specs.Representation.{cpu_view, parts_setting, regs_of}
use Rattle.tm_core.specs.StepRefinement.{grows, ran_inside, stepped}
use Rattle.tm_core.specs.Types.{Ends, Fails, GoesOn, Nests, Open}
use Rattle.tm_core.proofs.Aheads.{commits, ends_commit, fails_commit}
use Rattle.tm_core.proofs.ExplainRooms.{has_room, no_room}
use Rattle.tm_core.proofs.Inside.{row}
use Rattle.tm_core.proofs.Table.{load_lines}
use Rattle.tm_core.proofs.ahead.is_commit.Goals as goal

pub by_room-requires-clause-access : goal.by_room-requires-clause-access
by_room-requires-clause-access g c =
    let size : ℕ = length c.args.memory.now in
    let loads : LoadIn size c.plan-planned.result.access =
    subst (LoadIn size) (sym c.plan-planned.ensures.load)
    (load_within c.args.code.now.bytes.now c.args.code.now.base size (regs_of c.args.cpu.now)) in
    load_lines size (g.S.Sets.content c.args.sets.now).fixed.line_count c.plan-planned.result.access loads
    c.requires.lines c.requires.small

pub returns-in-Some : goal.returns-in-Some
returns-in-Some g c =
    let a : Content = g.S.Sets.content c.args.sets.now in
    let code : List ℕ = c.args.code.now.bytes.now in
    let base : ℕ = c.args.code.now.base in
    let m : List ℕ = c.args.memory.now in
    let k : Setting = parts_setting code base (length m) a in
    let v : View = cpu_view a c.args.c c.args.cpu.now in
    let loads : List ℕ = loaded_addresses c.plan-planned.result.access in
    let next : View = grows v (c.args.depth - 1) c.in-Ends._regs loads [] in
    let is : stepped k m v (Open c.args.depth) ≡ ran_inside k m v c.args.depth loads (Ends c.in-Ends._regs) =
    row code base (length m) a m v c.args.depth (regs_of c.args.cpu.now) refl c.plan-planned.result.access
    c.plan-planned.result.loaded (Ends c.in-Ends._regs) c.plan-planned.ensures.load c.plan-planned.ensures.value
    (sym c.in-Ends.is ∙ c.plan-planned.ensures.comes_to) in
    sym (ap (commits k m v c.args.depth loads) is ∙ ends_commit k m v c.args.depth loads c.in-Ends._regs
    ∙ ap (λ t. t && have_room k next.reads next.writes) (eq-eqb c.args.depth 1 c.if-depth-eq1.true)
    ∙ no_room k v.reads v.writes loads [] next.reads next.writes c.in-Some._over
    (sym c.in-Some.is ∙ c.by_room.ensures code base (length m)))

pub returns-in-None : goal.returns-in-None
returns-in-None g c =
    let a : Content = g.S.Sets.content c.args.sets.now in
    let code : List ℕ = c.args.code.now.bytes.now in
    let base : ℕ = c.args.code.now.base in
    let m : List ℕ = c.args.memory.now in
    let k : Setting = parts_setting code base (length m) a in
    let v : View = cpu_view a c.args.c c.args.cpu.now in
    let loads : List ℕ = loaded_addresses c.plan-planned.result.access in
    let next : View = grows v (c.args.depth - 1) c.in-Ends._regs loads [] in
    let is : stepped k m v (Open c.args.depth) ≡ ran_inside k m v c.args.depth loads (Ends c.in-Ends._regs) =
    row code base (length m) a m v c.args.depth (regs_of c.args.cpu.now) refl c.plan-planned.result.access
    c.plan-planned.result.loaded (Ends c.in-Ends._regs) c.plan-planned.ensures.load c.plan-planned.ensures.value
    (sym c.in-Ends.is ∙ c.plan-planned.ensures.comes_to) in
    sym (ap (commits k m v c.args.depth loads) is ∙ ends_commit k m v c.args.depth loads c.in-Ends._regs
    ∙ ap (λ t. t && have_room k next.reads next.writes) (eq-eqb c.args.depth 1 c.if-depth-eq1.true)
    ∙ has_room k v.reads v.writes loads [] next.reads next.writes
    (sym c.in-None.is ∙ c.by_room.ensures code base (length m)))

pub returns-else-depth-eq1 : goal.returns-else-depth-eq1
returns-else-depth-eq1 g c =
    let a : Content = g.S.Sets.content c.args.sets.now in
    let code : List ℕ = c.args.code.now.bytes.now in
    let base : ℕ = c.args.code.now.base in
    let m : List ℕ = c.args.memory.now in
    let k : Setting = parts_setting code base (length m) a in
    let v : View = cpu_view a c.args.c c.args.cpu.now in
    let loads : List ℕ = loaded_addresses c.plan-planned.result.access in
    let next : View = grows v (c.args.depth - 1) c.in-Ends._regs loads [] in
    let is : stepped k m v (Open c.args.depth) ≡ ran_inside k m v c.args.depth loads (Ends c.in-Ends._regs) =
    row code base (length m) a m v c.args.depth (regs_of c.args.cpu.now) refl c.plan-planned.result.access
    c.plan-planned.result.loaded (Ends c.in-Ends._regs) c.plan-planned.ensures.load c.plan-planned.ensures.value
    (sym c.in-Ends.is ∙ c.plan-planned.ensures.comes_to) in
    sym (ap (commits k m v c.args.depth loads) is ∙ ends_commit k m v c.args.depth loads c.in-Ends._regs
    ∙ ap (λ t. t && have_room k next.reads next.writes) (ne_eqb c.args.depth 1 c.if-depth-eq1.false))

pub returns-in-Fails : goal.returns-in-Fails
returns-in-Fails g c =
    let a : Content = g.S.Sets.content c.args.sets.now in
    let code : List ℕ = c.args.code.now.bytes.now in
    let base : ℕ = c.args.code.now.base in
    let m : List ℕ = c.args.memory.now in
    let k : Setting = parts_setting code base (length m) a in
    let v : View = cpu_view a c.args.c c.args.cpu.now in
    let loads : List ℕ = loaded_addresses c.plan-planned.result.access in
    let is : stepped k m v (Open c.args.depth) ≡ ran_inside k m v c.args.depth loads (Fails c.in-Fails._cause) =
    row code base (length m) a m v c.args.depth (regs_of c.args.cpu.now) refl c.plan-planned.result.access
    c.plan-planned.result.loaded (Fails c.in-Fails._cause) c.plan-planned.ensures.load c.plan-planned.ensures.value
    (sym c.in-Fails.is ∙ c.plan-planned.ensures.comes_to) in
    sym (ap (commits k m v c.args.depth loads) is
    ∙ fails_commit k m v c.args.depth loads (Fails c.in-Fails._cause) (λ t e. cc))

pub returns-in-GoesOn : goal.returns-in-GoesOn
returns-in-GoesOn g c =
    let a : Content = g.S.Sets.content c.args.sets.now in
    let code : List ℕ = c.args.code.now.bytes.now in
    let base : ℕ = c.args.code.now.base in
    let m : List ℕ = c.args.memory.now in
    let k : Setting = parts_setting code base (length m) a in
    let v : View = cpu_view a c.args.c c.args.cpu.now in
    let loads : List ℕ = loaded_addresses c.plan-planned.result.access in
    let is : stepped k m v (Open c.args.depth) ≡ ran_inside k m v c.args.depth loads (GoesOn c.in-GoesOn._regs
    c.in-GoesOn._store) =
    row code base (length m) a m v c.args.depth (regs_of c.args.cpu.now) refl c.plan-planned.result.access
    c.plan-planned.result.loaded (GoesOn c.in-GoesOn._regs c.in-GoesOn._store) c.plan-planned.ensures.load
    c.plan-planned.ensures.value
    (sym c.in-GoesOn.is ∙ c.plan-planned.ensures.comes_to) in
    sym (ap (commits k m v c.args.depth loads) is
    ∙ fails_commit k m v c.args.depth loads (GoesOn c.in-GoesOn._regs c.in-GoesOn._store) (λ t e. cc))

pub returns-in-Nests : goal.returns-in-Nests
returns-in-Nests g c =
    let a : Content = g.S.Sets.content c.args.sets.now in
    let code : List ℕ = c.args.code.now.bytes.now in
    let base : ℕ = c.args.code.now.base in
    let m : List ℕ = c.args.memory.now in
    let k : Setting = parts_setting code base (length m) a in
    let v : View = cpu_view a c.args.c c.args.cpu.now in
    let loads : List ℕ = loaded_addresses c.plan-planned.result.access in
    let is : stepped k m v (Open c.args.depth) ≡ ran_inside k m v c.args.depth loads (Nests c.in-Nests._regs) =
    row code base (length m) a m v c.args.depth (regs_of c.args.cpu.now) refl c.plan-planned.result.access
    c.plan-planned.result.loaded (Nests c.in-Nests._regs) c.plan-planned.ensures.load c.plan-planned.ensures.value
    (sym c.in-Nests.is ∙ c.plan-planned.ensures.comes_to) in
    sym (ap (commits k m v c.args.depth loads) is
    ∙ fails_commit k m v c.args.depth loads (Nests c.in-Nests._regs) (λ t e. cc))
