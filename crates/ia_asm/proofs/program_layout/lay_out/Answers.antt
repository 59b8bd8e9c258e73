use Rattle.std.proofs.Common.{◌≡◌, None, sym, subst}
use Rattle.ia_asm.specs.Faults.{at_line}
use Rattle.ia_asm.specs.Assemblies.{fault_of}
use Rattle.ia_asm.specs.Assembles.{RefusedAs}
use Rattle.ia_asm.specs.ProgramLayouts.{ForEntries}
use Rattle.ia_asm.proofs.ProgramLayouts.{laid_out, told_line}
use Rattle.ia_asm.proofs.program_layout.lay_out.Goals as goal

pub returns-in-Some-clause-exact : goal.returns-in-Some-clause-exact
returns-in-Some-clause-exact c =
    let source = c.args.reader.now.source.now in
    let names = c.find_fault.new.reader.names in
    let told = subst (λ o. ForEntries c.find_places.new.reader.source.now names (λ es. o ≡ fault_of es)) c.in-Some.is
    c.in_ok-fault.ensures.exact in
    subst (RefusedAs source) (sym c.at_line.ensures)
    (subst (λ s. RefusedAs s (at_line c.in-Some.fault c.in-Some.line)) c.in_ok-layout.ensures.source
    (told_line c.find_places.new.reader.source.now names c.in-Some.fault c.in-Some.line told))

pub returns-clause-exact : goal.returns-clause-exact
returns-clause-exact c =
    let source = c.args.reader.now.source.now in
    let names = c.find_fault.new.reader.names in
    let none = subst (λ o. ForEntries c.find_places.new.reader.source.now names (λ es. o ≡ fault_of es)) c.in_default.is
    c.in_ok-fault.ensures.exact in
    laid_out source c.find_places.new.reader.names names c.in_ok-layout.layout c.in_ok-fault.ensures.grows
    c.in_ok-layout.ensures.exact
    (subst (λ s. ForEntries s names (λ es. None ≡ fault_of es)) c.in_ok-layout.ensures.source none)
