-- The parts of a page, one behind the other.
use Rattle.std.proofs.Common.{◌≡◌, ℕ, List, [], ◌++◌, Option, append-nil, refl, subst}
use Rattle.std.specs.Io.KnownBytes.{Appends, Keeps}
use Rattle.text_out.proofs.Writing.{appends_same, appends_then}
use Rattle.text_out.specs.Writing.{Device, Wrote}
use Rattle.page_telling.specs.Told.{AreLinesWritten}
use Rattle.page_run.specs.declared.stretch.Stretch.{Stretch}
use Rattle.page_template.specs.declared.template.TheConstants.{TAIL}
use Rattle.elide_page.specs.Fronts.{IsFrontOf}
use Rattle.elide_page.specs.Pages.{IsPageOf, head_text, holding}
use Rattle.elide_page.specs.Reasons.{AreReasonsOf}
use Rattle.elide_page.specs.declared.job.Job.{Job}
use Rattle.elide_page.specs.declared.shows.Shown.{Shown}

-- what was written of steps, as it is written to a device that held nothing
steps_held : (stretch : Stretch) (first last : Device) (h : AreLinesWritten stretch first last) →
    (text : List ℕ) × AreLinesWritten stretch (holding []) (holding text) × Wrote first last text
steps_held stretch first last h = (
  _,
  record {
    picks = h.picks;
    course = h.course;
    total = h.total;
    told = h.told;
    run = h.run;
    opening = h.opening;
    plain = h.plain;
    wrote = record { bytes = refl; failures = refl };
  },
  h.wrote,
)

-- a page that was written to what gathers for a device, and handed on
pub page_written : (job : Job) (shows : List Shown) (first last : Option (List ℕ)) (a b c d e : Device) →
    Keeps first a.contents →
    Wrote a b (head_text job.subject.title.now) →
    (front : List ℕ) × IsFrontOf job shows front × Wrote b c front →
    AreLinesWritten job.stretch c d →
    (reasons : List ℕ) × AreReasonsOf job.stretch reasons × Wrote d e reasons →
    Appends e.contents last TAIL.now →
    (bytes : List ℕ) × IsPageOf job bytes × Appends first last bytes
page_written job shows first last a b c d e begun head front lines reasons tail =
    let steps = steps_held job.stretch c d lines in
    let end : List ℕ = reasons.0 ++ TAIL.now in
    let ended : Appends d.contents last end =
    appends_then d.contents e.contents last reasons.0 TAIL.now reasons.2.bytes tail in
    let told : Appends c.contents last (steps.0 ++ end) =
    appends_then c.contents d.contents last steps.0 end steps.2.bytes ended in
    let inner : Appends b.contents last (front.0 ++ (steps.0 ++ end)) =
    appends_then b.contents c.contents last front.0 (steps.0 ++ end) front.2.bytes told in
    let title : List ℕ = head_text job.subject.title.now in
    let whole : Appends a.contents last (title ++ (front.0 ++ (steps.0 ++ end))) =
    appends_then a.contents b.contents last title (front.0 ++ (steps.0 ++ end)) head.bytes inner in (
      title ++ (front.0 ++ (steps.0 ++ end)),
      record {
        shows = shows;
        front = front.0;
        opens = front.1;
        steps = steps.0;
        tells = steps.1;
        reasons = reasons.0;
        explains = reasons.1;
        is = refl;
      },
      appends_then first a.contents last [] (title ++ (front.0 ++ (steps.0 ++ end)))
          (appends_same first a.contents begun) whole,
    )

-- a text on a device that gathers, which handed on what it held
pub handed_on : (first ended last : Option (List ℕ)) (text : List ℕ) →
    Appends first ended text → Keeps ended last → Appends first last text
handed_on first ended last text h k =
    subst (λ (l : List ℕ). Appends first last l) (append-nil text)
    (appends_then first ended last text [] h (appends_same ended last k))
