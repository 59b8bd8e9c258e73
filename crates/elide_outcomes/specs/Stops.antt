-- The reasons to stop that are looked for, as the words of `--stop` say them (docs/FORMATS.md, "Outcomes").
use Rattle.std.specs.Prelude.{◌≡◌, ℕ, List}
use Rattle.std.specs.Borrow.{Bor}
use Rattle.std.specs.List.{AllZip}
use Rattle.tm_hist.specs.Lines.{stop_word}
use Rattle.tm_rule.specs.declared.kinds.Stop.{Stop}

-- one a word, in the order of the command line
abbrev pub AreStops : List (Bor (List ℕ)) → List Stop → Type 0
AreStops words stops = AllZip (λ word why. stop_word why ≡ word.now) words stops
