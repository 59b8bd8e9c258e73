-- What is printed behind what the device held, of which a copy is gathered.
use Rattle.std.proofs.Common.{ℕ, Bool, List, Option, append-nil, subst}
use Rattle.std.specs.Io.KnownBytes.{Appends, Keeps}
use Rattle.text_out.proofs.Writing.{appends_same, appends_then}
use Rattle.elide_args.specs.declared.subcommand.OutcomesOptions.{OutcomesOptions}
use Rattle.elide_outcomes.specs.Printed.{AreWritten, IsPrinted}
use Rattle.elide_outcomes.specs.declared.found.Found.{Found}
use Rattle.elide_outcomes.specs.declared.verdict.Answer.{Answer}

passed_on : (first begun ended last : Option (List ℕ)) (text : List ℕ) → Keeps first begun → Appends begun ended text
    → Keeps ended last → Appends first last text
passed_on first begun ended last text before wrote behind =
    subst (Appends first last) (append-nil text)
    (appends_then first ended last text _
    (appends_then first begun ended _ text (appends_same first begun before) wrote) (appends_same ended last behind))

words_on : (options : OutcomesOptions) (words : List (List ℕ)) (found : Found)
    (first begun ended last : Option (List ℕ)) →
    Keeps first begun → AreWritten options words found begun ended → Keeps ended last →
    AreWritten options words found first last
words_on options words found first begun ended last before written behind = record {
  lines = λ no. passed_on first begun ended last _ before (written.lines no) behind;
  object = λ yes. passed_on first begun ended last _ before (written.object yes) behind;
}

pub printed_on : (content : List ℕ → Option (List ℕ)) (options : OutcomesOptions) (answer : Answer)
    (first begun ended last : Option (List ℕ)) → Keeps first begun → IsPrinted content options answer begun ended →
    Keeps ended last → IsPrinted content options answer first last
printed_on content options answer first begun ended last before printed behind = record {
  found = printed.found;
  searched = printed.searched;
  came_to = printed.came_to;
  wrote = record {
    words = printed.wrote.words;
    given = printed.wrote.given;
    wrote = words_on options printed.wrote.words printed.found first begun ended last before printed.wrote.wrote behind;
  };
}
