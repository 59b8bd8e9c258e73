-- What `replay` prints below the state and the dump, and the object that it prints in place of lines (docs/JSON.md,
-- "replay").
use Rattle.std.specs.Prelude.{ℕ, Bool, true, false, List, [], ◌∷◌, ◌++◌, codes}
use Rattle.elide_args.specs.declared.subcommand.ReplayOptions.{ReplayOptions}
use Rattle.elide_json.specs.Objects.{replay_value}
use Rattle.elide_object.specs.Object.{object_text}
use Rattle.tm_core.specs.Theorem.{ShownMachine as Machine}
use Rattle.elide_setup.specs.declared.machine.Setup.{Setup}
use Rattle.elide_replay.specs.declared.agreement.Agreement.{Agreement}
use Rattle.elide_replay.specs.declared.agreement.Agreement.TheVariants.{Agrees, Differs}

abbrev pub agreement_text : Agreement → List ℕ
agreement_text Agrees = codes "agree" ++ 10 ∷ []
agreement_text Differs = codes "differ" ++ 10 ∷ []

abbrev pub is_agreement : Agreement → Bool
is_agreement Agrees = true
is_agreement Differs = false

-- the exit status
abbrev pub agreement_status : Agreement → ℕ
agreement_status Agrees = 0
agreement_status Differs = 1

abbrev pub agreement_object : Machine → Setup → ReplayOptions → Agreement → List ℕ
agreement_object machine setup options agreement =
    object_text (replay_value machine setup.parts options.machine.shows.items (is_agreement agreement)
    (agreement_status agreement))
