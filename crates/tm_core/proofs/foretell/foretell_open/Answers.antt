use Rattle.std.proofs.Common.{ℕ, List, [], length, cond, refl, sym, ap, ◌∙◌, subst}
use Rattle.std.proofs.lemmas.Bool.{eq-eqb, ne_eqb}
use Rattle.tm_rule.proofs.Facts.{LoadIn, StoreIn, load_within, store_within_inside}
use Rattle.tm_sets.specs.Content.{Content}
use Rattle.tm_model.specs.Access.{loaded_addresses}
use Rattle.tm_model.specs.Setting.{Setting}
use Rattle.tm_model.specs.Shown.{View}
use Rattle.tm_core.specs.ExplainedViews.{Reached, reach_in_room}
use Rattle.tm_core.specs.Representation.{cpu_view, parts_setting, regs_of}
use Rattle.tm_core.specs.StepRefinement.{StepResult}
use Rattle.tm_core.specs.Types.{Ends, Fails, GoesOn, Nests}
use Rattle.tm_core.proofs.ExplainReach.{reach_by_load}
use Rattle.tm_core.proofs.ExplainReasons.{shown_by_load}
use Rattle.tm_core.proofs.ExplainTouches.{touched_commits, touched_ends, touched_goes, touched_nests}
use Rattle.tm_core.proofs.ExplainTouches.{within_in_room, within_of_commit}
use Rattle.tm_core.proofs.Inside.{row}
use Rattle.tm_core.proofs.Table.{load_lines, store_lines}
use Rattle.tm_core.proofs.foretell.foretell_open.Goals as goal

pub foretell_in_room-requires-clause-access : goal.foretell_in_room-requires-clause-access
foretell_in_room-requires-clause-access g c =
    let size : ℕ = length c.args.memory.now in
    let loads : LoadIn size c.plan-planned.result.access =
    subst (LoadIn size) (sym c.plan-planned.ensures.load)
    (load_within c.args.listing.now.code.bytes.now c.args.listing.now.code.base size (regs_of c.args.cpu.now)) in
    load_lines size (g.S.Sets.content c.args.sets.now).fixed.line_count c.plan-planned.result.access loads
    c.requires.lines c.requires.small

pub foretell_in_room-requires-in-Nests-clause-access : goal.foretell_in_room-requires-in-Nests-clause-access
foretell_in_room-requires-in-Nests-clause-access g c =
    let size : ℕ = length c.args.memory.now in
    let loads : LoadIn size c.plan-planned.result.access =
    subst (LoadIn size) (sym c.plan-planned.ensures.load)
    (load_within c.args.listing.now.code.bytes.now c.args.listing.now.code.base size (regs_of c.args.cpu.now)) in
    load_lines size (g.S.Sets.content c.args.sets.now).fixed.line_count c.plan-planned.result.access loads
    c.requires.lines c.requires.small

pub foretell_commit-requires-clause-access : goal.foretell_commit-requires-clause-access
foretell_commit-requires-clause-access g c =
    let size : ℕ = length c.args.memory.now in
    let loads : LoadIn size c.plan-planned.result.access =
    subst (LoadIn size) (sym c.plan-planned.ensures.load)
    (load_within c.args.listing.now.code.bytes.now c.args.listing.now.code.base size (regs_of c.args.cpu.now)) in
    load_lines size (g.S.Sets.content c.args.sets.now).fixed.line_count c.plan-planned.result.access loads
    c.requires.lines c.requires.small

pub foretell_in_room-requires-else-depth-eq1-clause-access : goal.foretell_in_room-requires-else-depth-eq1-clause-access
foretell_in_room-requires-else-depth-eq1-clause-access g c =
    let size : ℕ = length c.args.memory.now in
    let loads : LoadIn size c.plan-planned.result.access =
    subst (LoadIn size) (sym c.plan-planned.ensures.load)
    (load_within c.args.listing.now.code.bytes.now c.args.listing.now.code.base size (regs_of c.args.cpu.now)) in
    load_lines size (g.S.Sets.content c.args.sets.now).fixed.line_count c.plan-planned.result.access loads
    c.requires.lines c.requires.small

pub foretell_in_room-requires-clause-store : goal.foretell_in_room-requires-clause-store
foretell_in_room-requires-clause-store g c =
    let size : ℕ = length c.args.memory.now in
    let stores : StoreIn size c.in-GoesOn.store =
    store_within_inside c.args.listing.now.code.bytes.now c.args.listing.now.code.base size
    (regs_of c.args.cpu.now) c.args.depth
    c.plan-planned.result.loaded c.in-GoesOn.field-0 c.in-GoesOn.store
    (sym c.plan-planned.ensures.comes_to ∙ c.in-GoesOn.is) in
    store_lines size (g.S.Sets.content c.args.sets.now).fixed.line_count c.in-GoesOn.store stores c.requires.lines
    c.requires.small

pub returns-in-Fails-clause-reach : goal.returns-in-Fails-clause-reach
returns-in-Fails-clause-reach g c =
    let a : Content = g.S.Sets.content c.args.sets.now in
    let code : List ℕ = c.args.listing.now.code.bytes.now in
    let base : ℕ = c.args.listing.now.code.base in
    let m : List ℕ = c.args.memory.now in
    let v : View = cpu_view a c.args.c c.args.cpu.now in
    c.untouching.ensures.reach
    ∙ sym (reach_by_load code base (length m) a m v c.args.depth c.plan-planned.result.access
    c.plan-planned.result.loaded
    (Fails c.in-Fails.cause) c.plan-planned.ensures.load c.plan-planned.ensures.value (sym c.in-Fails.is
    ∙ c.plan-planned.ensures.comes_to))

pub returns-in-GoesOn-clause-step : goal.returns-in-GoesOn-clause-step
returns-in-GoesOn-clause-step g c =
    let a : Content = g.S.Sets.content c.args.sets.now in
    let code : List ℕ = c.args.listing.now.code.bytes.now in
    let base : ℕ = c.args.listing.now.code.base in
    let m : List ℕ = c.args.memory.now in
    let k : Setting = parts_setting code base (length m) a in
    let v : View = cpu_view a c.args.c c.args.cpu.now in
    touched_goes k m v c.args.depth c.plan-planned.result.access c.in-GoesOn.field-0 c.in-GoesOn.store
    c.foretell_in_room.result.touched
    (c.foretell_in_room.ensures.touched code base (length m))
    ∙ ap (λ (r : StepResult). r.touched)
    (sym (row code base (length m) a m v c.args.depth (regs_of c.args.cpu.now) refl c.plan-planned.result.access
    c.plan-planned.result.loaded
    (GoesOn c.in-GoesOn.field-0 c.in-GoesOn.store) c.plan-planned.ensures.load c.plan-planned.ensures.value (sym
    c.in-GoesOn.is ∙ c.plan-planned.ensures.comes_to)))

pub returns-in-GoesOn-clause-within : goal.returns-in-GoesOn-clause-within
returns-in-GoesOn-clause-within g c =
    let size : ℕ = length c.args.memory.now in
    let loads : LoadIn size c.plan-planned.result.access =
    subst (LoadIn size) (sym c.plan-planned.ensures.load)
    (load_within c.args.listing.now.code.bytes.now c.args.listing.now.code.base size (regs_of c.args.cpu.now)) in
    within_in_room size _ c.plan-planned.result.access c.foretell_in_room.result.touched loads
    (c.foretell_in_room.ensures.touched c.args.listing.now.code.bytes.now c.args.listing.now.code.base size)

pub returns-in-GoesOn-clause-reach : goal.returns-in-GoesOn-clause-reach
returns-in-GoesOn-clause-reach g c =
    let a : Content = g.S.Sets.content c.args.sets.now in
    let code : List ℕ = c.args.listing.now.code.bytes.now in
    let base : ℕ = c.args.listing.now.code.base in
    let m : List ℕ = c.args.memory.now in
    let v : View = cpu_view a c.args.c c.args.cpu.now in
    c.foretell_in_room.ensures.reach code base (length m)
    ∙ sym (reach_by_load code base (length m) a m v c.args.depth c.plan-planned.result.access
    c.plan-planned.result.loaded
    (GoesOn c.in-GoesOn.field-0 c.in-GoesOn.store) c.plan-planned.ensures.load c.plan-planned.ensures.value (sym
    c.in-GoesOn.is ∙ c.plan-planned.ensures.comes_to))

pub returns-in-GoesOn-clause-reason : goal.returns-in-GoesOn-clause-reason
returns-in-GoesOn-clause-reason g c =
    let a : Content = g.S.Sets.content c.args.sets.now in
    let code : List ℕ = c.args.listing.now.code.bytes.now in
    let base : ℕ = c.args.listing.now.code.base in
    let m : List ℕ = c.args.memory.now in
    let v : View = cpu_view a c.args.c c.args.cpu.now in
    c.foretell_in_room.ensures.reason code base (length m)
    ∙ sym (shown_by_load code base (length m) a m v c.args.depth c.plan-planned.result.access
    c.plan-planned.result.loaded
    (GoesOn c.in-GoesOn.field-0 c.in-GoesOn.store) c.plan-planned.ensures.load c.plan-planned.ensures.value (sym
    c.in-GoesOn.is ∙ c.plan-planned.ensures.comes_to))

pub returns-in-Nests-clause-step : goal.returns-in-Nests-clause-step
returns-in-Nests-clause-step g c =
    let a : Content = g.S.Sets.content c.args.sets.now in
    let code : List ℕ = c.args.listing.now.code.bytes.now in
    let base : ℕ = c.args.listing.now.code.base in
    let m : List ℕ = c.args.memory.now in
    let k : Setting = parts_setting code base (length m) a in
    let v : View = cpu_view a c.args.c c.args.cpu.now in
    touched_nests k m v c.args.depth c.plan-planned.result.access c.in-Nests.field-0
    c.foretell_in_room-in-Nests.result.touched
    (c.foretell_in_room-in-Nests.ensures.touched code base (length m))
    ∙ ap (λ (r : StepResult). r.touched)
    (sym (row code base (length m) a m v c.args.depth (regs_of c.args.cpu.now) refl c.plan-planned.result.access
    c.plan-planned.result.loaded
    (Nests c.in-Nests.field-0) c.plan-planned.ensures.load c.plan-planned.ensures.value (sym c.in-Nests.is
    ∙ c.plan-planned.ensures.comes_to)))

pub returns-in-Nests-clause-within : goal.returns-in-Nests-clause-within
returns-in-Nests-clause-within g c =
    let size : ℕ = length c.args.memory.now in
    let loads : LoadIn size c.plan-planned.result.access =
    subst (LoadIn size) (sym c.plan-planned.ensures.load)
    (load_within c.args.listing.now.code.bytes.now c.args.listing.now.code.base size (regs_of c.args.cpu.now)) in
    within_in_room size _ c.plan-planned.result.access c.foretell_in_room-in-Nests.result.touched loads
    (c.foretell_in_room-in-Nests.ensures.touched c.args.listing.now.code.bytes.now c.args.listing.now.code.base size)

pub returns-in-Nests-clause-reach : goal.returns-in-Nests-clause-reach
returns-in-Nests-clause-reach g c =
    let a : Content = g.S.Sets.content c.args.sets.now in
    let code : List ℕ = c.args.listing.now.code.bytes.now in
    let base : ℕ = c.args.listing.now.code.base in
    let m : List ℕ = c.args.memory.now in
    let v : View = cpu_view a c.args.c c.args.cpu.now in
    c.foretell_in_room-in-Nests.ensures.reach code base (length m)
    ∙ sym (reach_by_load code base (length m) a m v c.args.depth c.plan-planned.result.access
    c.plan-planned.result.loaded
    (Nests c.in-Nests.field-0) c.plan-planned.ensures.load c.plan-planned.ensures.value (sym c.in-Nests.is
    ∙ c.plan-planned.ensures.comes_to))

pub returns-in-Nests-clause-reason : goal.returns-in-Nests-clause-reason
returns-in-Nests-clause-reason g c =
    let a : Content = g.S.Sets.content c.args.sets.now in
    let code : List ℕ = c.args.listing.now.code.bytes.now in
    let base : ℕ = c.args.listing.now.code.base in
    let m : List ℕ = c.args.memory.now in
    let v : View = cpu_view a c.args.c c.args.cpu.now in
    c.foretell_in_room-in-Nests.ensures.reason code base (length m)
    ∙ sym (shown_by_load code base (length m) a m v c.args.depth c.plan-planned.result.access
    c.plan-planned.result.loaded
    (Nests c.in-Nests.field-0) c.plan-planned.ensures.load c.plan-planned.ensures.value (sym c.in-Nests.is
    ∙ c.plan-planned.ensures.comes_to))

pub returns-then-depth-eq1-clause-step : goal.returns-then-depth-eq1-clause-step
returns-then-depth-eq1-clause-step g c =
    let a : Content = g.S.Sets.content c.args.sets.now in
    let code : List ℕ = c.args.listing.now.code.bytes.now in
    let base : ℕ = c.args.listing.now.code.base in
    let m : List ℕ = c.args.memory.now in
    let k : Setting = parts_setting code base (length m) a in
    let v : View = cpu_view a c.args.c c.args.cpu.now in
    touched_commits k m v c.args.depth c.plan-planned.result.access c.in-Ends.field-0
    c.foretell_commit.result.touched (eq-eqb c.args.depth 1 c.if-depth-eq1.true)
    (c.foretell_commit.ensures.touched code base (length m))
    ∙ ap (λ (r : StepResult). r.touched)
    (sym (row code base (length m) a m v c.args.depth (regs_of c.args.cpu.now) refl c.plan-planned.result.access
    c.plan-planned.result.loaded
    (Ends c.in-Ends.field-0) c.plan-planned.ensures.load c.plan-planned.ensures.value (sym c.in-Ends.is
    ∙ c.plan-planned.ensures.comes_to)))

pub returns-then-depth-eq1-clause-within : goal.returns-then-depth-eq1-clause-within
returns-then-depth-eq1-clause-within g c =
    let size : ℕ = length c.args.memory.now in
    within_of_commit size _ c.foretell_commit.result.touched
    (c.foretell_commit.ensures.touched c.args.listing.now.code.bytes.now c.args.listing.now.code.base size)

pub returns-then-depth-eq1-clause-reach : goal.returns-then-depth-eq1-clause-reach
returns-then-depth-eq1-clause-reach g c =
    let a : Content = g.S.Sets.content c.args.sets.now in
    let code : List ℕ = c.args.listing.now.code.bytes.now in
    let base : ℕ = c.args.listing.now.code.base in
    let m : List ℕ = c.args.memory.now in
    let k : Setting = parts_setting code base (length m) a in
    let v : View = cpu_view a c.args.c c.args.cpu.now in
    let nothing_reached : Reached = ([], []) in
    let more : Reached = reach_in_room k v.reads v.writes (loaded_addresses c.plan-planned.result.access) [] in
    c.foretell_commit.ensures.reach
    ∙ ap (λ b. cond b nothing_reached more) (sym (eq-eqb c.args.depth 1 c.if-depth-eq1.true))
    ∙ sym (reach_by_load code base (length m) a m v c.args.depth c.plan-planned.result.access
    c.plan-planned.result.loaded
    (Ends c.in-Ends.field-0) c.plan-planned.ensures.load c.plan-planned.ensures.value (sym c.in-Ends.is
    ∙ c.plan-planned.ensures.comes_to))

pub returns-then-depth-eq1-clause-reason : goal.returns-then-depth-eq1-clause-reason
returns-then-depth-eq1-clause-reason g c =
    let a : Content = g.S.Sets.content c.args.sets.now in
    let code : List ℕ = c.args.listing.now.code.bytes.now in
    let base : ℕ = c.args.listing.now.code.base in
    let m : List ℕ = c.args.memory.now in
    let v : View = cpu_view a c.args.c c.args.cpu.now in
    c.foretell_commit.ensures.reason code base (length m)
    ∙ sym (shown_by_load code base (length m) a m v c.args.depth c.plan-planned.result.access
    c.plan-planned.result.loaded
    (Ends c.in-Ends.field-0) c.plan-planned.ensures.load c.plan-planned.ensures.value (sym c.in-Ends.is
    ∙ c.plan-planned.ensures.comes_to))

pub returns-else-depth-eq1-clause-step : goal.returns-else-depth-eq1-clause-step
returns-else-depth-eq1-clause-step g c =
    let a : Content = g.S.Sets.content c.args.sets.now in
    let code : List ℕ = c.args.listing.now.code.bytes.now in
    let base : ℕ = c.args.listing.now.code.base in
    let m : List ℕ = c.args.memory.now in
    let k : Setting = parts_setting code base (length m) a in
    let v : View = cpu_view a c.args.c c.args.cpu.now in
    touched_ends k m v c.args.depth c.plan-planned.result.access c.in-Ends.field-0
    c.foretell_in_room-else-depth-eq1.result.touched (ne_eqb c.args.depth 1 c.if-depth-eq1.false)
    (c.foretell_in_room-else-depth-eq1.ensures.touched code base (length m))
    ∙ ap (λ (r : StepResult). r.touched)
    (sym (row code base (length m) a m v c.args.depth (regs_of c.args.cpu.now) refl c.plan-planned.result.access
    c.plan-planned.result.loaded
    (Ends c.in-Ends.field-0) c.plan-planned.ensures.load c.plan-planned.ensures.value (sym c.in-Ends.is
    ∙ c.plan-planned.ensures.comes_to)))

pub returns-else-depth-eq1-clause-within : goal.returns-else-depth-eq1-clause-within
returns-else-depth-eq1-clause-within g c =
    let size : ℕ = length c.args.memory.now in
    let loads : LoadIn size c.plan-planned.result.access =
    subst (LoadIn size) (sym c.plan-planned.ensures.load)
    (load_within c.args.listing.now.code.bytes.now c.args.listing.now.code.base size (regs_of c.args.cpu.now)) in
    within_in_room size _ c.plan-planned.result.access c.foretell_in_room-else-depth-eq1.result.touched loads
    (c.foretell_in_room-else-depth-eq1.ensures.touched c.args.listing.now.code.bytes.now
    c.args.listing.now.code.base size)

pub returns-else-depth-eq1-clause-reach : goal.returns-else-depth-eq1-clause-reach
returns-else-depth-eq1-clause-reach g c =
    let a : Content = g.S.Sets.content c.args.sets.now in
    let code : List ℕ = c.args.listing.now.code.bytes.now in
    let base : ℕ = c.args.listing.now.code.base in
    let m : List ℕ = c.args.memory.now in
    let k : Setting = parts_setting code base (length m) a in
    let v : View = cpu_view a c.args.c c.args.cpu.now in
    let nothing_reached : Reached = ([], []) in
    let more : Reached = reach_in_room k v.reads v.writes (loaded_addresses c.plan-planned.result.access) [] in
    c.foretell_in_room-else-depth-eq1.ensures.reach code base (length m)
    ∙ ap (λ b. cond b nothing_reached more) (sym (ne_eqb c.args.depth 1 c.if-depth-eq1.false))
    ∙ sym (reach_by_load code base (length m) a m v c.args.depth c.plan-planned.result.access
    c.plan-planned.result.loaded
    (Ends c.in-Ends.field-0) c.plan-planned.ensures.load c.plan-planned.ensures.value (sym c.in-Ends.is
    ∙ c.plan-planned.ensures.comes_to))

pub returns-else-depth-eq1-clause-reason : goal.returns-else-depth-eq1-clause-reason
returns-else-depth-eq1-clause-reason g c =
    let a : Content = g.S.Sets.content c.args.sets.now in
    let code : List ℕ = c.args.listing.now.code.bytes.now in
    let base : ℕ = c.args.listing.now.code.base in
    let m : List ℕ = c.args.memory.now in
    let v : View = cpu_view a c.args.c c.args.cpu.now in
    c.foretell_in_room-else-depth-eq1.ensures.reason code base (length m)
    ∙ sym (shown_by_load code base (length m) a m v c.args.depth c.plan-planned.result.access
    c.plan-planned.result.loaded
    (Ends c.in-Ends.field-0) c.plan-planned.ensures.load c.plan-planned.ensures.value (sym c.in-Ends.is
    ∙ c.plan-planned.ensures.comes_to))
