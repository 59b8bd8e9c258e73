-- The page of a job (docs/FORMATS.md, "Pages").
use Rattle.std.specs.Prelude.{◌≡◌, ℕ, List, [], ◌++◌, Some}
use Rattle.text_out.specs.Writing.{Device}
use Rattle.page_telling.specs.Told.{AreLinesWritten}
use Rattle.page_template.specs.declared.template.TheConstants.{HEAD, MIDDLE, TAIL}
use Rattle.page_text.specs.Escaped.{title_text}
use Rattle.elide_page.specs.Fronts.{IsFrontOf}
use Rattle.elide_page.specs.Reasons.{AreReasonsOf}
use Rattle.elide_page.specs.declared.job.Job.{Job}
use Rattle.elide_page.specs.declared.shows.Shown.{Shown}

-- a device that holds these bytes
abbrev pub holding : List ℕ → Device
holding bytes = record { contents = Some bytes; failures = 0 }

-- the page's own markup up to its data, with the title
abbrev pub head_text : List ℕ → List ℕ
head_text title = HEAD.now ++ (title_text title 200 ++ MIDDLE.now)

-- the page's own markup, and in it the data: what comes before the steps, the steps as they are written to a device
-- that held nothing, and why they aborted or stopped; nothing else, nothing left out, and in this order
pub record IsPageOf (job : Job) (bytes : List ℕ) : Type 0 where
  pub shows : List Shown
  pub front : List ℕ
  pub opens : IsFrontOf job shows front
  pub steps : List ℕ
  pub tells : AreLinesWritten job.stretch (holding []) (holding steps)
  pub reasons : List ℕ
  pub explains : AreReasonsOf job.stretch reasons
  pub is : bytes ≡ head_text job.subject.title.now ++ (front ++ (steps ++ (reasons ++ TAIL.now)))
