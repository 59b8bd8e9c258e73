use Rattle.std.proofs.Common.{◌≡◌, ◌∙◌, ℕ, false, List, [], None, Some, ap, refl, sym}
use Rattle.std.proofs.lemmas.Result.{IfOk-weaker}
use Rattle.std.specs.Option.{option_copied}
use Rattle.text_out.proofs.Writing.{wrote_none}
use Rattle.text_out.specs.Writing.{Device, Wrote}
use Rattle.elide_device.specs.Gathering.{told}
use Rattle.elide_device.specs.declared.gathered.Gathered.{Gathered}
use Rattle.elide_threads.proofs.workers.tell_reasons.Goals as goal

pub returns-in-Some-clause-told : goal.returns-in-Some-clause-told
returns-in-Some-clause-told g c =
    let held : Gathered g.row.O.Denot → Device = λ m. record {
      contents = told (g.O.Out.device m.out).contents (g.O.Out.device m.before.value).contents m.failures m.row.items;
      failures = m.failures;
    } in
    let explains = c.args.options.now.explains in
    IfOk-weaker c.tell_history.result
    (λ (given : Gathered g.row.O.Denot). (lines : List ℕ) × Wrote (held c.args.page) (held given) lines)
    (λ (given : Gathered g.row.O.Denot). (lines : List ℕ) × (explains ≡ false → lines ≡ [])
    × Wrote (held c.args.page) (held given) lines)
    (λ given h. (
      h.0,
      (λ e.
          let clash : Some c.in-Some.places.now ≡ None =
          sym (ap option_copied c.in-Some.is) ∙ c.as_ref-places.ensures.value ∙ c.requires e in
          cc),
      h.1,
    ))
    c.tell_history.ensures.told

pub returns-in-None-clause-told : goal.returns-in-None-clause-told
returns-in-None-clause-told g c = ([], (λ e. refl), wrote_none _)
