use Rattle.std.proofs.Common.{◌≡◌, ℕ, List, Option, Some, subst}
use Rattle.std.proofs.lemmas.Result.{IfErr-weaker}
use Rattle.std.specs.Borrow.{Bor}
use Rattle.elide_setup.specs.Refused.{IsNotPaged}
use Rattle.elide_setup.specs.declared.fault.Refusal.{Refusal}
use Rattle.tm_hunt.specs.Deciding.{deciding}
use Rattle.tm_hunt.specs.declared.searching.Found.{Found}
use Rattle.tm_model.specs.declared.outcome.Pick.{Pick}
use Rattle.elide_hunt.proofs.command.write_page.Goals as goal

pub returns-in-Some-Some : goal.returns-in-Some-Some
returns-in-Some-Some g c =
    let ended = c.args.ended in
    let text : List ℕ = ended.text.now in
    let machine = ended.options.now.machine in
    let page : Option (Bor (List ℕ)) = c.args.page in
    let run : Found = c.in-Some-Some.found in
    IfErr-weaker c.write_page.result (IsNotPaged text machine c.deciding-picks.result.now)
    (λ (why : Refusal). (given : Bor (List ℕ)) × (found : Found) × (page ≡ Some given)
    × (ended.search.now.found ≡ Some found) × IsNotPaged text machine (deciding found.failure) why)
    (λ why h. (
      c.in-Some-Some.page,
      run,
      c.in-Some-Some.is-0,
      c.in-Some-Some.is-1,
      subst (λ (picks : List Pick). IsNotPaged text machine picks why) c.deciding-picks.ensures h,
    ))
    c.write_page.ensures.refused
