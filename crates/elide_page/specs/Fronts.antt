-- What stands in a page's data before its steps (docs/FORMATS.md, "Pages"; page/README.md).
use Rattle.std.specs.Prelude.{◌≡◌, ℕ, Bool, true, false, List, [], ◌∷◌, ◌++◌, codes, decimal, length}
use Rattle.elide_program.specs.Names.{IsNameOf}
use Rattle.elide_program.specs.declared.form.Form.{Form}
use Rattle.elide_program.specs.declared.form.Form.TheVariants as form
use Rattle.page_run.specs.Plain.{ArePlain}
use Rattle.page_text.specs.Commas.{comma_if}
use Rattle.page_text.specs.Escaped.{string_text}
use Rattle.elide_page.specs.Notes.{notes_text}
use Rattle.elide_page.specs.declared.job.Job.{Job}
use Rattle.elide_page.specs.declared.job.Subject.{Subject}
use Rattle.elide_page.specs.declared.shows.Shown.{Shown}

-- what the program is written as
abbrev pub form_word : Form → List ℕ
form_word form.Source = codes "source"
form_word form.Executable = codes "elf"
form_word form.Image = codes "image"

-- FILE's name
abbrev pub file_text : List ℕ → List ℕ
file_text name = codes "{\"format\":1,\"name\":" ++ string_text name 60

-- the title
abbrev pub title_text_of : Subject → List ℕ
title_text_of subject = codes ",\"title\":" ++ string_text subject.title.now 200

abbrev pub titles_text : Subject → List ℕ → List ℕ
titles_text subject name = file_text name ++ title_text_of subject

-- what the program is written as, and the command that makes the page
abbrev pub kind_text : Subject → List ℕ
kind_text subject =
    codes ",\"kind\":\"" ++ (form_word subject.form
    ++ (codes "\",\"command\":" ++ string_text subject.command.now 600))

abbrev pub subject_text : Subject → List ℕ → List ℕ
subject_text subject name = titles_text subject name ++ kind_text subject

abbrev pub core_count : Subject → ℕ
core_count subject = length subject.loaded.setup.now.program.entries

-- how many cores there are
abbrev pub cores_text : Subject → List ℕ
cores_text subject = codes ",\"cores\":" ++ decimal (core_count subject)

-- how many lines a transaction can load, and how many it can store to
abbrev pub reads_text : Subject → List ℕ
reads_text subject = codes ",\"limits\":[" ++ decimal subject.loaded.setup.now.limits.read_lines

abbrev pub writes_text : Subject → List ℕ
writes_text subject = codes "," ++ decimal subject.loaded.setup.now.limits.write_lines

abbrev pub sets_text : Subject → List ℕ
sets_text subject = reads_text subject ++ writes_text subject

-- these, and how many steps came before
abbrev pub limits_text : Subject → ℕ → List ℕ
limits_text subject from =
    cores_text subject ++ (sets_text subject ++ (codes "],\"from\":" ++ decimal from))

abbrev pub names_text : Job → List ℕ → List ℕ
names_text job name = subject_text job.subject name ++ limits_text job.subject job.stretch.window.from

-- a variable: what it is called, and its address
abbrev pub shown_text : Shown → List ℕ
shown_text shown =
    codes "[" ++ (string_text shown.name.now 60 ++ (codes "," ++ (decimal shown.address ++ codes "]")))

-- variables, behind a comma where there was another before
abbrev pub shows_text : Bool → List Shown → List ℕ
shows_text some [] = []
shows_text some (shown ∷ others) = comma_if some ++ (shown_text shown ++ shows_text true others)

abbrev pub lists_text : Job → List Shown → List ℕ
lists_text job shows =
    codes ",\n\"show\":[" ++ (shows_text false shows
    ++ (codes "],\n\"notes\":[" ++ (notes_text job.stretch.window false job.subject.notes.now ++ codes "]")))

-- with FILE's own name; of the program's lines, its labels and where its code stands no more than that they end no
-- element
pub record IsFrontOf (job : Job) (shows : List Shown) (text : List ℕ) : Type 0 where
  pub name : List ℕ
  pub named : IsNameOf job.subject.path.now name
  pub program : List ℕ
  pub plain : ArePlain text
  pub is : text ≡ names_text job name ++ (program ++ lists_text job shows)
