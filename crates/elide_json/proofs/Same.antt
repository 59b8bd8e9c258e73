-- The members of a machine are the same, told by rows or by its memory.
use Rattle.std.proofs.Common.{◌≡◌, ◌∙◌, ℕ, List, Bor, ap}
use Rattle.std.specs.List.{zip}
use Rattle.elide_object.specs.Object.{list_value}
use Rattle.elide_program.specs.declared.parts.MemoryParts.{MemoryParts}
use Rattle.serde_json.specs.Data.{Data, Members}
use Rattle.tm_core.specs.Theorem.{ShownMachine as Machine}
use Rattle.elide_json.specs.Cores.{cores_value}
use Rattle.elide_json.specs.Memory.{AreRowsOf, dump_at, dump_row, dumps_value, show_at, show_row, shows_value}
use Rattle.elide_json.specs.Objects.{shown_members, three_members}
use Rattle.elide_json.specs.Shown.{sent_members}
use Rattle.elide_json.specs.declared.memory.Rows.{Rows}
use Rattle.elide_json.specs.declared.objects.Shown.{Shown}
use Rattle.elide_json.proofs.Lists.{list_by}

pub shown_same : (shown : Shown) (machine : Machine) (parts : MemoryParts) (texts : List (Bor (List ℕ))) (rows : Rows) →
    shown.machine.now ≡ machine → shown.dumps.now ≡ rows.dumps.items → shown.shows.now ≡ rows.shows.items →
    AreRowsOf machine.memory parts texts rows → (others : Members) →
    sent_members shown others ≡ shown_members machine parts texts others
shown_same shown machine parts texts rows is dumps shows are others =
    let cores = cores_value shown.machine.now in
    let parts_same : list_value dump_row shown.dumps.now ≡ dumps_value machine.memory parts.dumps.items =
    ap (list_value dump_row) dumps
    ∙ list_by dump_row (dump_at machine.memory) rows.dumps.items parts.dumps.items are.dumps in
    let values_same : list_value show_row shown.shows.now ≡ shows_value machine.memory texts parts.values.items =
    ap (list_value show_row) shows
    ∙ list_by show_row (show_at machine.memory) rows.shows.items (zip texts parts.values.items) are.shows in
    ap
    (λ (c : Data). three_members c (list_value dump_row shown.dumps.now) (list_value show_row shown.shows.now) others)
    (ap cores_value is)
    ∙ ap (λ (d : Data). three_members (cores_value machine) d (list_value show_row shown.shows.now) others) parts_same
    ∙ ap (λ (d : Data). three_members (cores_value machine) (dumps_value machine.memory parts.dumps.items) d others)
    values_same
