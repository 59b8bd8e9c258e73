use Rattle.std.proofs.Common.{◌≡◌, ℕ, false, List, [], refl}
use Rattle.std.proofs.lemmas.Result.{IfOk-weaker}
use Rattle.text_out.proofs.Writing.{wrote_none}
use Rattle.text_out.specs.Writing.{Device, Wrote}
use Rattle.elide_device.specs.Gathering.{told}
use Rattle.elide_device.specs.declared.gathered.Gathered.{Gathered}
use Rattle.elide_replay.proofs.once_more.tell_reasons.Goals as goal

pub returns-in-Some-clause-told : goal.returns-in-Some-clause-told
returns-in-Some-clause-told g c =
    let held : Gathered g.row.O.Denot → Device = λ m. record {
      contents = told (g.O.Out.device m.out).contents (g.O.Out.device m.before.value).contents m.failures m.row.items;
      failures = m.failures;
    } in
    let explains = c.args.rerun.options.now.explains in
    IfOk-weaker c.tell_history.result
    (λ (given : Gathered g.row.O.Denot). (lines : List ℕ) × Wrote (held c.args.page) (held given) lines)
    (λ (given : Gathered g.row.O.Denot). (lines : List ℕ) × (explains ≡ false → lines ≡ [])
    × Wrote (held c.args.page) (held given) lines)
    (λ given h. (h.0, (λ e. let none = c.requires e in let some = c.in-Some.is in cc), h.1))
    c.tell_history.ensures.told

pub returns-in-None-clause-told : goal.returns-in-None-clause-told
returns-in-None-clause-told g c = ([], (λ e. refl), wrote_none _)
