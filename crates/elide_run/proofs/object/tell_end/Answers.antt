use Rattle.std.proofs.Common.{◌≡◌, ◌∙◌, ℕ, List, Option, ap, subst}
use Rattle.std.specs.Io.KnownBytes.{Appends}
use Rattle.elide_json.specs.Objects.{run_members}
use Rattle.elide_json.specs.Outcomes.{run_back}
use Rattle.elide_device.specs.Gathering.{told}
use Rattle.elide_device.specs.declared.gathered.Gathered.{Gathered}
use Rattle.elide_run.proofs.Ends.{ending_by}
use Rattle.elide_why.proofs.Passing.{kept_last}
use Rattle.elide_run.specs.Object.{asked_running, ending_status, running_cores}
use Rattle.elide_run.proofs.object.tell_end.Goals as goal

pub returns-clause-told : goal.returns-clause-told
returns-clause-told g c =
    let held : Gathered g.row.O.Denot → Option (List ℕ) =
    λ m. told (g.O.Out.device m.out).contents (g.O.Out.device m.before.value).contents m.failures m.row.items in
    let machine = c.args.machine.now in
    let options = c.args.options.now in
    let parts = c.args.setup.now.parts in
    let texts = options.machine.shows.items in
    let cores : c.as_slice.result.now ≡ running_cores machine = c.as_slice.ensures.value ∙ c.running_of-cores.ensures in
    let again : c.as_slice-2.result.now ≡ running_cores machine =
    c.as_slice-2.ensures.value ∙ c.running_of-cores.ensures in
    let text :
    run_back options.traces
    (run_members machine parts texts (asked_running options.expects_halt c.as_slice-2.result.now) c.status_of.result)
    ≡ run_back options.traces
    (run_members machine parts texts (asked_running options.expects_halt (running_cores machine))
    (ending_status c.ending_of_cores-ending.result)) =
    ap (λ (l : List ℕ). run_back options.traces
    (run_members machine parts texts (asked_running options.expects_halt l) c.status_of.result)) again
    ∙ ap (λ (n : ℕ). run_back options.traces
    (run_members machine parts texts (asked_running options.expects_halt (running_cores machine)) n))
    c.status_of.ensures in
    record {
      came_to = c.ending_of_cores-ending.ensures ∙ ending_by options.expects_halt machine c.as_slice.result.now cores;
      wrote = kept_last (held c.args.page) (held c.put_end.new.out) (g.O.Out.device c.in_ok-out.out).contents _
          (subst (λ (l : List ℕ). Appends (held c.args.page) (held c.put_end.new.out) l) text
          c.in_ok-put_end.ensures.wrote.bytes)
          c.in_ok-out.ensures.kept;
    }
