-- What `elide outcomes` prints (docs/FORMATS.md, "Outcomes"): the lines of what a search over all schedules of FILE's
-- program found, and how much that is.
use Rattle.std.specs.Prelude.{◌≡◌, ℕ, ◌≤◌, ◌||◌, Bool, false, true, not, nat_lt, length, All, List, Option, Some}
use Rattle.std.specs.Io.KnownBytes.{Appends}
use Rattle.std.specs.Option.{option_copied}
use Rattle.elide_args.specs.declared.subcommand.OutcomesOptions.{OutcomesOptions}
use Rattle.elide_program.specs.Settings.{number_or}
use Rattle.elide_program.specs.declared.file.ProgramFile.{ProgramFile}
use Rattle.elide_setup.specs.Setup.{IsAsked}
use Rattle.elide_setup.specs.declared.machine.Setup.{Setup}
use Rattle.tm_outcomes.specs.Outcomes.{AreThere, IsSearch}
use Rattle.tm_outcomes.specs.Verdicts.{IsVerdict}
use Rattle.tm_outcomes.specs.declared.searching.Search.{Search}
use Rattle.tm_rule.specs.declared.kinds.Stop.{Stop}
use Rattle.tm_outcomes.specs.declared.trial.Trial.{Trial}
use Rattle.tm_condition.specs.declared.check.Check.{Check}
use Rattle.tm_outcomes.specs.declared.trial.Item.{Item}
use Rattle.elide_checks.specs.Ends.{AreEndChecks}
use Rattle.elide_outcomes.specs.Items.{AreItems, AreWordsOf}
use Rattle.elide_outcomes.specs.Names.{IsLabelOf}
use Rattle.elide_outcomes.specs.declared.found.Found.{Found}
use Rattle.elide_outcomes.specs.Lines.{AreInOrder, search_text}
use Rattle.elide_outcomes.specs.Object.{IsObjectWritten}
use Rattle.elide_outcomes.specs.Stops.{AreStops}
use Rattle.elide_outcomes.specs.Under.{AreUnder, IsUnder}
use Rattle.elide_outcomes.specs.Verdict.{answer_of}
use Rattle.elide_outcomes.specs.declared.verdict.Answer.{Answer}
use Rattle.elide_outcomes.specs.declared.under.Under.{Under}

-- ---- what is searched

-- something else is asked for than what is shown
abbrev pub asks_more : OutcomesOptions → Bool
asks_more options =
    ((options.asks_stuck || nat_lt 0 (length options.stops.items)) || nat_lt 0 (length options.checks.items))
    || nat_lt 0 (length options.forbids.items)

-- the machine is this one, with what is shown and checked of it, what its steps come under, and the reasons to stop
-- that are looked for
pub record IsMade (setup : Setup) (shown : List Item) (checked : List Check) (under : Under) (reasons : List Stop)
    (trial : Trial) : Type 0 where
  pub program : trial.program.now ≡ setup.program
  pub limits : trial.limits ≡ setup.limits
  pub items : trial.items.now ≡ shown
  pub events : AreUnder under (nat_lt 0 setup.limits.stores) trial.events
  pub stops : trial.stops.now ≡ reasons
  pub checks : trial.checks.now ≡ checked

-- it is the one that a file was made into, what is shown of it is what `--show` says, by the file's symbols, what is
-- checked is what `--check` and `--forbid` say, by the symbols of the program that a text is read as, its steps come
-- under what `--events` says, and the reasons to stop that are looked for are these
pub record IsTrialOf (text : List ℕ) (file : ProgramFile) (setup : Setup) (options : OutcomesOptions) (under : Under)
    (reasons : List Stop) (trial : Trial) : Type 0 where
  pub items : List Item
  pub checks : List Check
  pub made : IsMade setup items checks under reasons trial
  pub shown : AreItems file (not (asks_more options)) (option_copied options.show) items
  pub checked : AreEndChecks text file options.checks.items options.forbids.items checks

-- the most states: a million by default, and 1 or more
pub record IsLimit (option : Option (List ℕ)) (most : ℕ) : Type 0 where
  pub said : number_or 1000000 option ≡ Some most
  pub some : 1 ≤ most

-- what is shown is there, and this is what a search found, but for the order of its outcomes, which is that of their
-- values
pub record IsSorted (trial : Trial) (most : ℕ) (found : Search) : Type 0 where
  pub there : AreThere trial
  pub search : Search
  pub searched : IsSearch trial most search
  pub verdict : IsVerdict trial search
  pub order : AreInOrder search.outcomes.items found.outcomes.items
  pub states : found.states ≡ search.states
  pub cut : found.is_cut ≡ search.is_cut
  pub stuck : found.stuck ≡ search.stuck
  pub cycle : found.cycle ≡ search.cycle
  pub stops : found.stops ≡ search.stops
  pub violations : found.violations ≡ search.violations
  pub waited : found.waited ≡ search.waited

-- with labels that the file has
pub record IsFound (file : ProgramFile) (trial : Trial) (most : ℕ) (found : Found) : Type 0 where
  pub sorted : IsSorted trial most found.search
  pub labels : All (IsLabelOf file) found.labels.items

-- ---- what is told of it

-- its lines were written, or with `--json` its object
pub record AreWritten (options : OutcomesOptions) (words : List (List ℕ)) (found : Found)
    (before after : Option (List ℕ)) : Type 0 where
  pub lines : options.is_json ≡ false →
      Appends before after (search_text options words found.labels.items found.search)
  pub object : options.is_json ≡ true → IsObjectWritten options words found.search before after

-- with the words of the value of `--show`
pub record IsWritten (options : OutcomesOptions) (found : Found) (before after : Option (List ℕ)) : Type 0 where
  pub words : List (List ℕ)
  pub given : AreWordsOf (option_copied options.show) words
  pub wrote : AreWritten options words found before after

-- the search of FILE's program that the options ask for found this
pub record IsSearched (content : List ℕ → Option (List ℕ)) (options : OutcomesOptions) (found : Found) : Type 0 where
  pub setup : Setup
  pub asked : IsAsked (content options.machine.file.now) options.machine setup
  pub under : Under
  pub said : IsUnder (option_copied options.events) under
  pub stops : List Stop
  pub named : AreStops options.stops.items stops
  pub trial : Trial
  pub shows : IsTrialOf asked.read.text asked.file setup options under stops trial
  pub most : ℕ
  pub limit : IsLimit (option_copied options.limit) most
  pub is_found : IsFound asked.file trial most found

-- what it found was written, and the answer says whether its limit ended it, or it found what is wrong
pub record IsPrinted (content : List ℕ → Option (List ℕ)) (options : OutcomesOptions) (answer : Answer)
    (before after : Option (List ℕ)) : Type 0 where
  pub found : Found
  pub searched : IsSearched content options found
  pub came_to : answer ≡ answer_of options.asks_stuck found.search
  pub wrote : IsWritten options found before after
