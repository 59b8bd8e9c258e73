use Rattle.std.proofs.Common.{◌≡◌, ◌≢◌, ◌≤◌, ◌⊎◌, codes, length, Some}
use Rattle.std.proofs.lemmas.Result.{IfErr-weaker, IfOk-weaker}
use Rattle.elide_program.specs.Entries.{AreStarts, for_cores}
use Rattle.elide_program.specs.Refusals.{HasNoStart, IsWant, NamesOption}
use Rattle.elide_program.specs.declared.fault.ProgramRefusal.{ProgramRefusal}
use Rattle.elide_program.proofs.Refusing.{no_count}
use Rattle.elide_program.proofs.file.starts_of.Goals as goal

pub returns-clause-starts : goal.returns-clause-starts
returns-clause-starts c =
    IfOk-weaker c.for_cores.result
    (λ starts. length starts.items ≤ 64 → starts.items ≡ for_cores c.args.cores c.in_ok-addresses.addresses.items)
    (λ starts. length starts.items ≤ 64 → AreStarts c.args.file.now (Some c.args.list) c.args.cores starts.items)
    (λ starts is few. (c.in_ok-addresses.addresses.items, c.in_ok-addresses.ensures.entries, is few))
    c.for_cores.ensures.starts

pub returns-clause-none : goal.returns-clause-none
returns-clause-none c =
    let file = c.args.file.now in
    let list = c.args.list.text.now in
    let addresses = c.in_ok-addresses.addresses.items in
    IfErr-weaker c.for_cores.result
    (λ (why : ProgramRefusal). IsWant why
    ⊎ ((length addresses ≢ 1) × (length addresses ≢ c.args.cores) × NamesOption (codes "--entry") why))
    (λ (why : ProgramRefusal). HasNoStart file list c.args.cores why)
    (λ why h. no_count file list c.args.cores addresses why c.in_ok-addresses.ensures.entries h)
    c.for_cores.ensures.none
