-- A search of the machine of a file, or of a text.
use Rattle.std.proofs.Common.{◌≡◌, ℕ, Bool, List, Option, Result, All, not, ap, subst, sym, ◌∙◌}
use Rattle.std.proofs.lemmas.Result.{IfOk-weaker}
use Rattle.std.specs.Option.{option_copied}
use Rattle.std.specs.Result.{IfOk}
use Rattle.elide_args.specs.declared.subcommand.OutcomesOptions.{OutcomesOptions}
use Rattle.elide_checks.specs.Ends.{AreEndChecks}
use Rattle.elide_program.specs.Files.{Gives, most_bytes}
use Rattle.elide_program.specs.ProgramFile.{IsFile}
use Rattle.elide_program.specs.Settings.{AreSettings}
use Rattle.elide_program.specs.declared.file.ProgramFile.{ProgramFile}
use Rattle.elide_program.specs.declared.settings.Settings.{Settings}
use Rattle.elide_setup.specs.Setup.{IsSetup}
use Rattle.elide_setup.specs.declared.machine.Setup.{Setup}
use Rattle.tm_condition.specs.declared.check.Check.{Check}
use Rattle.tm_outcomes.specs.declared.searching.Search.{Search}
use Rattle.tm_outcomes.specs.declared.trial.Item.{Item}
use Rattle.tm_outcomes.specs.declared.trial.Trial.{Trial}
use Rattle.tm_rule.specs.declared.kinds.Stop.{Stop}
use Rattle.elide_outcomes.specs.Items.{AreItems}
use Rattle.elide_outcomes.specs.Names.{IsLabelOf}
use Rattle.elide_outcomes.specs.Printed.{IsFound, IsLimit, IsMade, IsSearched, IsSorted, IsTrialOf, asks_more}
use Rattle.elide_outcomes.specs.Stops.{AreStops}
use Rattle.elide_outcomes.specs.Under.{IsUnder}
use Rattle.elide_outcomes.specs.declared.command.Asked.{Asked}
use Rattle.elide_outcomes.specs.declared.found.Found.{Found}
use Rattle.elide_outcomes.specs.declared.under.Under.{Under}

abbrev pub IsFoundOf : List ℕ → ProgramFile → Settings → Asked → Found → Type 0
IsFoundOf text file settings asked found =
    (trial : Trial) × (setup : Setup) × IsSetup file settings setup
    × IsTrialOf text file setup asked.options.now asked.under asked.stops.now trial
    × IsFound file trial asked.most found

abbrev pub IsFoundOfText : List ℕ → Settings → Asked → Found → Type 0
IsFoundOfText text settings asked found =
    (file : ProgramFile) × IsFile text file × (trial : Trial) × (setup : Setup) × IsSetup file settings setup
    × IsTrialOf text file setup asked.options.now asked.under asked.stops.now trial
    × IsFound file trial asked.most found

-- a search of a machine, with the labels of its file
pub found_of_file : (text : List ℕ) (file : ProgramFile) (settings : Settings) (asked : Asked) (setup : Setup)
    (items : List Item) (checks : List Check) (found : Found) →
    (trial : Trial) × IsMade setup items checks asked.under asked.stops.now trial
    × IsSorted trial asked.most found.search →
    IsSetup file settings setup →
    AreItems file (not (asks_more asked.options.now)) (option_copied asked.options.now.show) items →
    AreEndChecks text file asked.options.now.checks.items asked.options.now.forbids.items checks →
    All (IsLabelOf file) found.labels.items → IsFoundOf text file settings asked found
found_of_file text file settings asked setup items checks found sought made shown checked labels = (
  sought.0,
  setup,
  made,
  record { items = items; checks = checks; made = sought.1; shown = shown; checked = checked },
  record { sorted = sought.2; labels = labels },
)

-- what the search of a text found that FILE was read as, by settings, events, stops and a limit that the options say
abbrev pub searched_by : (content : List ℕ → Option (List ℕ)) (options : OutcomesOptions) (settings : Settings)
    (under : Under) (stops : List Stop) (most : ℕ) (text view : List ℕ) (found : Found)
    → Gives (content options.machine.file.now) most_bytes text → view ≡ text → AreSettings options.machine settings
    → IsUnder (option_copied options.events) under → AreStops options.stops.items stops
    → IsLimit (option_copied options.limit) most
    → (file : ProgramFile) × IsFile view file × (trial : Trial) × (setup : Setup) × IsSetup file settings setup
    × IsTrialOf view file setup options under stops trial × IsFound file trial most found
    → IsSearched content options found
searched_by content options settings under stops most text view found given same said events named limit made = record {
  setup = made.3;
  asked = record {
    file = made.0;
    read = record { text = text; given = given; read = subst (λ (text : List ℕ). IsFile text made.0) same made.1 };
    settings = settings;
    said = said;
    made = made.4;
  };
  under = under;
  said = events;
  stops = stops;
  named = named;
  trial = made.2;
  shows = subst (λ (text : List ℕ). IsTrialOf text made.0 made.3 options under stops made.2) same made.5;
  most = most;
  limit = limit;
  is_found = made.6;
}
