use Rattle.std.proofs.Common.{List, length, refl, subst}
use Rattle.std.proofs.lemmas.Option.{slice_get_read}
use Rattle.std.proofs.lemmas.Result.{IfErr-weaker}
use Rattle.tm_model.specs.declared.outcome.Pick.{Pick}
use Rattle.elide_setup.specs.Refused.{IsNotPaged}
use Rattle.elide_outcomes.specs.Refused.{IsNotShown, none_told, not_written}
use Rattle.elide_outcomes.proofs.paged.PageAsked.write.Goals as goal

pub returns-in-Some : goal.returns-in-Some
returns-in-Some g c =
    let text = c.args.searched.text.now in
    let options = c.args.searched.machine.now in
    let told = c.args.searched.told.now in
    let one = c.in-Some.outcome.now in
    IfErr-weaker c.write_page.result (IsNotPaged text options c.as_slice-picks.result.now)
    (IsNotShown text options told c.args.self)
    (λ why none.
    not_written c.in-Of.index c.in-Of.path one c.in-Of.is
    (slice_get_read told (length told) c.in-Of.index one refl c.in-Some.ensures.lookup.3.0 c.in-Some.ensures.lookup.1)
    (subst (λ (picks : List Pick). IsNotPaged text options picks why) c.as_slice-picks.ensures.value none))
    c.write_page.ensures.refused

pub returns-in-None : goal.returns-in-None
returns-in-None g c = none_told c.in-Of.index c.in-Of.path c.in-Of.is c.in-None.ensures.lookup.3 refl
