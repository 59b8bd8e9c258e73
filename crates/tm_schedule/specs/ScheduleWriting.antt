-- What is left to write of a schedule, while its steps come.
use Rattle.std.specs.Prelude.{ℕ, List, map, Option, Some, None}
use Rattle.tm_model.specs.declared.outcome.Pick.{Pick}
use Rattle.tm_schedule.specs.ScheduleRuns.{run_word, runs_behind, runs_of}
use Rattle.tm_schedule.specs.ScheduleWords.{words_text}
use Rattle.tm_schedule.specs.declared.schedule.runs.Run.{Run}
use Rattle.tm_schedule.specs.declared.schedule.writer.ScheduleWriter.{ScheduleWriter}

-- the runs of steps that are to come, behind a run that has begun, if any
abbrev pub runs_left : Option Run → List Pick → List Run
runs_left None picks = runs_of picks
runs_left (Some run) picks = runs_behind run picks

-- their words
unfoldable pub left_text : ScheduleWriter → List Pick → List ℕ
left_text writer picks = words_text 16 writer.column (map run_word (runs_left writer.run picks))
