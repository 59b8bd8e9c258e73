use Rattle.std.proofs.Common.{ℕ, List, Bor, subst}
use Rattle.std.proofs.lemmas.Result.{on_ok_weaker}
use Rattle.elide_args.specs.Asked.{texts_of}
use Rattle.elide_outcomes.specs.Printed.{AreWritten}
use Rattle.elide_outcomes.proofs.command.write.Goals as goal

pub returns-clause-ok : goal.returns-clause-ok
returns-clause-ok g c =
    let device = g.O.Out.device in
    on_ok_weaker c.write_words.result
    (λ written. record {
      words = texts_of c.in_ok-words.words.items;
      given = c.in_ok-words.ensures;
      wrote =
          subst
          (λ (words : List (Bor (List ℕ))). AreWritten c.args.options.now (texts_of words) c.args.found.now
          (device c.args.out.now).contents (device c.write_words.new.out).contents)
          c.as_slice.ensures.value written;
    })
    c.write_words.ensures.ok
