-- The definitions that ask for a set's length or members, once more over lists of lines: a FinSet's do not compute,
-- and these do. They are shown to be the same.
use Rattle.std.specs.Prelude.{◌≡◌, ℕ, ◌+◌, Bool, ◌||◌, ◌&&◌, not, nat_lt, List, [], ◌∷◌, ◌++◌, map, Option, Some}
use Rattle.std.specs.Prelude.{unwrap_or}
use Rattle.std.specs.Prelude.{None, nat_eq, if◌then◌else◌, refl}
use Rattle.std.proofs.Common.{ap, ◌∙◌, cond}
use Rattle.std.specs.List.{list_any}
use Rattle.std.specs.Ordering.{nat_cmp}
use Rattle.std.specs.FinSet as set
use Rattle.std.specs.Cmp.{nat_cmp_total}
use Rattle.ia_word.specs.Line.{line}
use Rattle.tm_model.specs.Access.{Stores, stored_addresses, stores_of}
use Rattle.tm_model.specs.Conflicts.{Doomed, addresses_loaded_by, addresses_written_by, depth_at_hit, doom_after_other}
use Rattle.tm_model.specs.Conflicts.{doom_after_own, doomed_after, is_hit}
use Rattle.tm_model.specs.Isolated.{Body, instruction_after, isolated_body}
use Rattle.tm_model.specs.Owed.{abort_at, outcome_of_event, owed_after, owed_inside, owed_outcome, owed_under}
use Rattle.tm_model.specs.Owed.{owed_with_room}
use Rattle.tm_model.specs.Setting.{Setting}
use Rattle.tm_model.specs.State.{Closed, Core, Halted, Midway, Opened, Pending, State, seen_by, seen_memory}
use Rattle.tm_model.specs.Steps.{must_wait}
use Rattle.tm_model.specs.Types.{Capacity, Committed, Drained, Ends, Event, Fails, GoesOn, Idle, Inside}
use Rattle.tm_model.specs.Types.{Nests, Outcome, InsideResult}

-- ---- the definitions over lists of lines

abbrev is_in : List ℕ → ℕ → Bool
is_in lines place = list_any (λ other. nat_eq other place) lines

abbrev share_line : List ℕ → List ℕ → Bool
share_line addresses others = list_any (is_in (map line addresses)) (map line others)

abbrev distinct : List ℕ → ℕ
distinct [] = 0
distinct (place ∷ lines) = cond (is_in lines place) (distinct lines) (distinct lines + 1)

same_len : (lines : List ℕ) → set.len {R = nat_cmp} (set.from_list lines) ≡ distinct lines
same_len [] = set.len-empty nat_cmp
same_len (place ∷ lines) =
    set.len-insert nat_cmp_total (set.from_list lines) place
    ∙ (λ i. cond (set.contains-from_list_nat lines place i) (same_len lines i) (same_len lines i + 1))

same_members : (lines others : List ℕ) →
    list_any (set.contains {R = nat_cmp} (set.from_list lines)) others ≡ list_any (is_in lines) others
same_members lines [] = refl
same_members lines (place ∷ others) = λ i.
    set.contains-from_list_nat lines place i || same_members lines others i

abbrev is_hit_by_lists : List ℕ → List ℕ → Body → Bool
is_hit_by_lists loads stores body =
    share_line body.loads stores
    || (share_line (stored_addresses body.stores) stores || share_line (stored_addresses body.stores) loads)

abbrev depth_at_hit_by_lists : List ℕ → List ℕ → Option Body → Option ℕ
depth_at_hit_by_lists loads stores None = None
depth_at_hit_by_lists loads stores (Some body) = if is_hit_by_lists loads stores body then Some body.depth else None

abbrev doom_after_other_by_lists : Setting → List ℕ → List ℕ → List ℕ → Core → Option ℕ → Option ℕ
doom_after_other_by_lists setting memory loads stores (Opened regs steps) None =
    depth_at_hit_by_lists loads stores (isolated_body setting regs memory steps)
doom_after_other_by_lists setting memory loads stores core doom = doom

abbrev pub doomed_after_by_lists : Setting → State → Doomed → ℕ → Outcome → Doomed
doomed_after_by_lists setting state doomed number outcome other =
    if nat_eq other number
    then doom_after_own outcome (doomed number)
    else doom_after_other_by_lists setting (seen_by state other)
    (addresses_loaded_by setting (seen_by state number) (state.cores number) outcome)
    (addresses_written_by setting state.memory (state.pending number) (state.cores number) outcome)
    (state.cores other) (doomed other)

abbrev owed_with_room_by_lists : Setting → Body → Stores → Outcome → Outcome
owed_with_room_by_lists setting body stores outcome =
    if not (nat_lt setting.read_lines (distinct (map line (setting.load_of body.regs ++ body.loads))))
    && not (nat_lt setting.write_lines (distinct (map line (stored_addresses (stores ++ body.stores)))))
    then outcome
    else abort_at Capacity body.depth

abbrev owed_inside_by_lists : Setting → Body → InsideResult → Outcome
owed_inside_by_lists setting body (Fails cause) = abort_at cause body.depth
owed_inside_by_lists setting body (GoesOn regs store) = owed_with_room_by_lists setting body (stores_of store) Inside
owed_inside_by_lists setting body (Nests regs) = owed_with_room_by_lists setting body [] Inside
owed_inside_by_lists setting body (Ends regs) =
    owed_with_room_by_lists setting body [] (if nat_eq body.depth 1 then Committed else Inside)

abbrev owed_after_by_lists : Setting → List ℕ → Option Body → Outcome
owed_after_by_lists setting memory None = Idle
owed_after_by_lists setting memory (Some body) =
    owed_inside_by_lists setting body (instruction_after setting memory body)

abbrev pub owed_outcome_by_lists : Setting → List ℕ → Core → Option ℕ → Outcome
owed_outcome_by_lists setting memory (Opened regs steps) None =
    owed_after_by_lists setting memory (isolated_body setting regs memory steps)
owed_outcome_by_lists setting memory core doom = owed_outcome setting memory core doom

-- what is owed under an event, by what is owed to what a core sees
abbrev pub owes_under : (List ℕ → Core → Option ℕ → Outcome) → Setting → Option Event → List ℕ → Pending → Core →
    Option ℕ → Outcome
owes_under owes setting event memory pending core doom =
    let seen : List ℕ = seen_memory memory pending in
    let outcome : Outcome = owes seen core doom in
    unwrap_or (outcome_of_event event setting memory pending core doom)
    (if must_wait setting seen pending core outcome then Drained else outcome)

-- the same as is owed, by the setting first
abbrev pub owing : Setting → Option Event → List ℕ → Pending → Core → Option ℕ → Outcome
owing setting event = owed_under event setting

abbrev pub owing_by_lists : Setting → Option Event → List ℕ → Pending → Core → Option ℕ → Outcome
owing_by_lists setting = owes_under (owed_outcome_by_lists setting) setting

-- ---- they are the same

same_hit : (loads stores : List ℕ) (body : Body) →
    is_hit loads stores body ≡ is_hit_by_lists loads stores body
same_hit loads stores body = λ i.
    same_members (map line body.loads) (map line stores) i
    || (same_members (map line (stored_addresses body.stores)) (map line stores) i
    || same_members (map line (stored_addresses body.stores)) (map line loads) i)

same_depth : (loads stores : List ℕ) (body : Option Body) →
    depth_at_hit loads stores body ≡ depth_at_hit_by_lists loads stores body
same_depth loads stores None = refl
same_depth loads stores (Some body) = ap (λ t. cond t (Some body.depth) None) (same_hit loads stores body)

same_doom : (setting : Setting) (memory loads stores : List ℕ) (core : Core) (doom : Option ℕ) →
    doom_after_other setting memory loads stores core doom
    ≡ doom_after_other_by_lists setting memory loads stores core doom
same_doom setting memory loads stores (Opened regs steps) None =
    same_depth loads stores (isolated_body setting regs memory steps)
same_doom setting memory loads stores (Opened regs steps) (Some depth) = refl
same_doom setting memory loads stores (Closed regs) doom = refl
same_doom setting memory loads stores (Midway regs value) doom = refl
same_doom setting memory loads stores (Halted regs stop) doom = refl

pub same_doomed : (setting : Setting) → doomed_after setting ≡ doomed_after_by_lists setting
same_doomed setting = λ i state doomed number outcome other.
    cond (nat_eq other number) (doom_after_own outcome (doomed number))
    (same_doom setting (seen_by state other)
    (addresses_loaded_by setting (seen_by state number) (state.cores number) outcome)
    (addresses_written_by setting state.memory (state.pending number) (state.cores number) outcome)
    (state.cores other) (doomed other) i)

same_room : (setting : Setting) (body : Body) (stores : Stores) (outcome : Outcome) →
    owed_with_room setting body stores outcome ≡ owed_with_room_by_lists setting body stores outcome
same_room setting body stores outcome = λ i.
    cond (not (nat_lt setting.read_lines (same_len (map line (setting.load_of body.regs ++ body.loads)) i))
    && not (nat_lt setting.write_lines (same_len (map line (stored_addresses (stores ++ body.stores))) i)))
    outcome (abort_at Capacity body.depth)

same_inside : (setting : Setting) (body : Body) (within : InsideResult) →
    owed_inside setting body within ≡ owed_inside_by_lists setting body within
same_inside setting body (Fails cause) = refl
same_inside setting body (GoesOn regs store) = same_room setting body (stores_of store) Inside
same_inside setting body (Nests regs) = same_room setting body [] Inside
same_inside setting body (Ends regs) = same_room setting body [] (if nat_eq body.depth 1 then Committed else Inside)

same_after : (setting : Setting) (memory : List ℕ) (body : Option Body) →
    owed_after setting memory body ≡ owed_after_by_lists setting memory body
same_after setting memory None = refl
same_after setting memory (Some body) = same_inside setting body (instruction_after setting memory body)

same_at : (setting : Setting) (memory : List ℕ) (core : Core) (doom : Option ℕ) →
    owed_outcome setting memory core doom ≡ owed_outcome_by_lists setting memory core doom
same_at setting memory (Opened regs steps) None =
    same_after setting memory (isolated_body setting regs memory steps)
same_at setting memory (Opened regs steps) (Some depth) = refl
same_at setting memory (Closed regs) doom = refl
same_at setting memory (Midway regs value) doom = refl
same_at setting memory (Halted regs stop) doom = refl

pub same_owed : (setting : Setting) → owed_outcome setting ≡ owed_outcome_by_lists setting
same_owed setting = λ i memory core doom. same_at setting memory core doom i

pub same_under : (setting : Setting) → owing setting ≡ owing_by_lists setting
same_under setting = λ i. owes_under (same_owed setting i) setting
