-- What stands before the steps, one behind the other.
use Rattle.std.proofs.Common.{◌≡◌, ℕ, List, ◌++◌, refl}
use Rattle.elide_program.specs.Names.{IsNameOf}
use Rattle.text_out.proofs.Writing.{wrote_then}
use Rattle.text_out.specs.Writing.{Device, Wrote}
use Rattle.page_run.specs.Plain.{ArePlain, WrotePlain}
use Rattle.elide_page.proofs.Pieces.{both_plain}
use Rattle.elide_page.specs.Fronts.{IsFrontOf, lists_text, names_text}
use Rattle.elide_page.specs.declared.job.Job.{Job}
use Rattle.elide_page.specs.declared.shows.Shown.{Shown}

pub front_written : (job : Job) (shows : List Shown) (name : List ℕ) (a b c d : Device) →
    IsNameOf job.subject.path.now name →
    Wrote a b (names_text job name) → ArePlain (names_text job name) → WrotePlain b c →
    Wrote c d (lists_text job shows) → ArePlain (lists_text job shows) →
    (text : List ℕ) × IsFrontOf job shows text × Wrote a d text
front_written job shows name a b c d named names plain_names program lists plain_lists = (
  names_text job name ++ (program.text ++ lists_text job shows),
  record {
    name = name;
    named = named;
    program = program.text;
    plain = both_plain (names_text job name) (program.text ++ lists_text job shows) plain_names
        (both_plain program.text (lists_text job shows) program.plain plain_lists);
    is = refl;
  },
  wrote_then names (wrote_then program.wrote lists),
)
