-- The lines that `elide outcomes` prints (docs/FORMATS.md, "Outcomes"), and their order.
use Rattle.std.specs.Prelude.{ℕ, Bool, true, false, not, ◌&&◌, List, [], ◌∷◌, ◌++◌, codes, length, Option, Some, None}
use Rattle.std.specs.Prelude.{if◌then◌else◌}
use Rattle.std.specs.Prelude.{IsPermutation, IsSorted}
use Rattle.std.specs.Cmp.Lexicographic.{slice_cmp}
use Rattle.std.specs.Fmt.{decimal}
use Rattle.std.specs.List.{flat_map}
use Rattle.std.specs.Ordering.{nat_cmp}
use Rattle.elide_args.specs.declared.subcommand.OutcomesOptions.{OutcomesOptions}
use Rattle.text_out.specs.Number.{eight_digits}
use Rattle.text_out.specs.TextLine.{line_end}
use Rattle.tm_hist.specs.Lines.{stop_word}
use Rattle.tm_model.specs.declared.outcome.Pick.{Pick}
use Rattle.tm_outcomes.specs.declared.cycle.Cycle.{Cycle}
use Rattle.tm_outcomes.specs.declared.searching.Search.{Search}
use Rattle.tm_outcomes.specs.declared.stops.ReachedStop.{ReachedStop}
use Rattle.tm_outcomes.specs.declared.stuck.Stuck.{Stuck}
use Rattle.tm_outcomes.specs.declared.table.FoundOutcome.{FoundOutcome}
use Rattle.tm_schedule.specs.Picks.{pick_word}
use Rattle.elide_outcomes.specs.Names.{label_at}
use Rattle.elide_outcomes.specs.Violated.{violation_lines}
use Rattle.symbols.specs.declared.symbol.Symbol.{Symbol}

-- ---- names, where they are asked for

-- the items, by the words that say them, on a line of their own
abbrev pub words_text : List (List ℕ) → List ℕ
words_text words = flat_map (λ (word : List ℕ). codes " " ++ word) words

abbrev pub words_line : List (List ℕ) → List ℕ
words_line [] = []
words_line (word ∷ words) = word ++ words_text words ++ line_end

abbrev pub items_line : Bool → List (List ℕ) → List ℕ
items_line is_asked words = if is_asked then words_line words else []

-- the name of a label, between `<` and `>`
abbrev pub name_text : Option (List ℕ) → List ℕ
name_text None = []
name_text (Some name) = codes " <" ++ name ++ codes ">"

-- ---- outcomes

-- a value in eight hex digits, behind it the name of the label at this address, if there is one, and a space
abbrev pub item_text : List Symbol → ℕ → List ℕ
item_text labels value = eight_digits value ++ name_text (label_at labels value) ++ codes " "

-- how many states show the values, between spaces
abbrev pub ends_text : ℕ → List ℕ
ends_text ends = codes " " ++ decimal ends ++ codes " "

-- a step of a schedule: a space, and the word that `--steps` takes, the number of its core and the letter of its event
abbrev pub step_text : Pick → List ℕ
step_text pick = codes " " ++ pick_word pick

-- the line of an outcome
abbrev pub outcome_line : List Symbol → FoundOutcome → List ℕ
outcome_line labels told =
    flat_map (item_text labels) told.values.items ++ ends_text told.ends ++ flat_map step_text told.schedule.items
    ++ line_end

-- those of several
abbrev pub outcome_lines : List Symbol → List FoundOutcome → List ℕ
outcome_lines labels outcomes = flat_map (outcome_line labels) outcomes

-- something is shown where a word says it
abbrev pub has_words : List (List ℕ) → Bool
has_words [] = false
has_words (word ∷ words) = true

-- where something is shown of them
abbrev pub shown_lines : Bool → List Symbol → List FoundOutcome → List ℕ
shown_lines shows labels outcomes = if shows then outcome_lines labels outcomes else []

-- ---- what is wrong

-- a reason to stop that was looked for, and a schedule that leads there
abbrev pub stop_line : ReachedStop → List ℕ
stop_line told =
    codes "stop  " ++ stop_word told.why ++ codes " " ++ flat_map step_text told.schedule.items ++ line_end

abbrev pub stop_lines : List ReachedStop → List ℕ
stop_lines stops = flat_map stop_line stops

-- how many states have no way to an end, and a schedule that leads to one
abbrev pub stuck_line : Stuck → List ℕ
stuck_line stuck =
    codes "stuck " ++ ends_text stuck.states ++ flat_map step_text stuck.schedule.items ++ line_end

-- where there are such
abbrev pub stuck_text : Option Stuck → List ℕ
stuck_text None = []
stuck_text (Some stuck) = stuck_line stuck

-- where it is asked for
abbrev pub stuck_lines : Bool → Option Stuck → List ℕ
stuck_lines asks_stuck stuck = if asks_stuck then stuck_text stuck else []

-- how many states a cycle can be made from for ever, a schedule that leads to one, and the steps of the cycle
abbrev pub cycle_line : Cycle → List ℕ
cycle_line cycle =
    codes "cycle " ++ ends_text cycle.states ++ flat_map step_text cycle.schedule.items ++ codes " |"
    ++ flat_map step_text cycle.steps.items ++ line_end

-- where there are such
abbrev pub cycle_text : Option Cycle → List ℕ
cycle_text None = []
cycle_text (Some cycle) = cycle_line cycle

-- where it is asked for
abbrev pub cycle_lines : Bool → Option Cycle → List ℕ
cycle_lines asks_stuck cycle = if asks_stuck then cycle_text cycle else []

-- ---- how many there are

abbrev pub states_text : ℕ → List ℕ
states_text states = decimal states ++ codes " states"

-- how many outcomes there are, where something is shown of them, and how many states were found
abbrev pub counts_text : Bool → ℕ → ℕ → List ℕ
counts_text shows outcomes states =
    if shows then decimal outcomes ++ codes " outcomes in " ++ decimal states ++ codes " states"
    else states_text states

-- behind them, where there are states without a way to an end
abbrev pub wayless_text : Option Stuck → List ℕ
wayless_text None = []
wayless_text (Some stuck) = codes ", " ++ decimal stuck.states ++ codes " of them without a way to an end"

-- behind them, where the search ended at its limit
abbrev pub cut_text : Bool → List ℕ
cut_text is_cut = if is_cut then codes ": cut at the limit, there may be more" else []

-- the line of the counts
abbrev pub count_line : Bool → ℕ → ℕ → Option Stuck → Bool → List ℕ
count_line shows outcomes states stuck is_cut =
    counts_text shows outcomes states ++ wayless_text stuck ++ cut_text is_cut ++ line_end

-- ---- room for stores

-- behind the counts, where the search did not end at its limit, and somewhere a step waited for room
abbrev pub room_line : Bool → Bool → List ℕ
room_line is_cut waited =
    if waited && not is_cut
    then codes "a store waited for room: a larger store buffer may show more" ++ line_end
    else []

-- ---- all of them

-- the lines of a search whose outcomes stand in this order, of which these words say what is shown, by these labels
abbrev pub search_text : OutcomesOptions → List (List ℕ) → List Symbol → Search → List ℕ
search_text options words labels search =
    items_line options.shows_names words
    ++ shown_lines (has_words words) labels search.outcomes.items
    ++ violation_lines options search.violations.items ++ stop_lines search.stops.items
    ++ stuck_lines options.asks_stuck search.stuck ++ cycle_lines options.asks_stuck search.cycle
    ++ count_line (has_words words) (length search.outcomes.items) search.states search.stuck search.is_cut
    ++ room_line search.is_cut search.waited

-- those that were found, each once, in the order of their values: the first item decides, where it is alike the next
pub record AreInOrder (found told : List FoundOutcome) : Type 0 where
  pub each_once : IsPermutation found told
  pub sorted : IsSorted (λ a b. slice_cmp nat_cmp a.values.items b.values.items) told
