-- What the objects of commands stand for, as they are sent.
use Rattle.std.specs.Prelude.{codes}
use Rattle.std.specs.Option.{option_copied}
use Rattle.elide_object.specs.Object.{list_value}
use Rattle.serde_json.specs.Data.{Data, Members, boolean, member, object}
use Rattle.elide_json.specs.Cores.{cores_value}
use Rattle.elide_json.specs.Memory.{dump_row, show_row}
use Rattle.elide_json.specs.Objects.{running_value, status_member, three_members}
use Rattle.elide_json.specs.Outcomes.{command_value}
use Rattle.elide_json.specs.declared.objects.ReplayObject.{ReplayObject}
use Rattle.elide_json.specs.declared.objects.RunEnd.{RunEnd}
use Rattle.elide_json.specs.declared.objects.Shown.{Shown}
use Rattle.elide_json.specs.declared.objects.ThreadsObject.{ThreadsObject}

-- the members of a machine whose memory is told by rows
abbrev pub sent_members : Shown → Members → Members
sent_members shown others =
    three_members (cores_value shown.machine.now) (list_value dump_row shown.dumps.now)
    (list_value show_row shown.shows.now) others

abbrev pub sent_run : RunEnd → Data
sent_run o =
    object (sent_members o.shown (member (codes "running") (running_value (option_copied o.running))
    (status_member o.status)))

abbrev pub sent_replay : ReplayObject → Data
sent_replay o =
    command_value (codes "replay") (sent_members o.shown (member (codes "agree") (boolean o.agrees)
    (status_member o.status)))

abbrev pub sent_threads : ThreadsObject → Data
sent_threads o = command_value (codes "threads") (sent_members o.shown (status_member 0))
