use Rattle.std.proofs.Common.{◌≡◌, ◌∙◌, ℕ, List, subst}
use Rattle.std.proofs.lemmas.Result.{on_ok_weaker}
use Rattle.text_out.specs.Writing.{Wrote}
use Rattle.page_run.specs.Plain.{ArePlain}
use Rattle.elide_page.specs.Fronts.{lists_text}
use Rattle.elide_page.proofs.front.put_lists.Goals as goal

pub returns-clause-text : goal.returns-clause-text
returns-clause-text g c =
    let old = g.O.Out.device c.args.out.now in
    let new = g.O.Out.device c.put_plain.new.out in
    let text : List ℕ = lists_text c.args.job.now c.args.shows.now in
    let is : c.as_slice.result.now ≡ text = c.as_slice.ensures.value ∙ c.in_ok-text.ensures in
    on_ok_weaker c.put_plain.result (λ (h : Wrote old new c.as_slice.result.now). subst (Wrote old new) is h)
    c.put_plain.ensures.text

pub returns-clause-plain : goal.returns-clause-plain
returns-clause-plain g c =
    let text : List ℕ = lists_text c.args.job.now c.args.shows.now in
    let is : c.as_slice.result.now ≡ text = c.as_slice.ensures.value ∙ c.in_ok-text.ensures in
    on_ok_weaker c.put_plain.result (λ (h : ArePlain c.as_slice.result.now). subst ArePlain is h)
    c.put_plain.ensures.plain
