use Rattle.std.proofs.Common.{ℕ, Bool, List, Option, MatchResult, subst, sym}
use Rattle.elide_program.specs.Files.{Gives, most_bytes}
use Rattle.elide_asm.specs.Printed.{IsAssembly, Prints, RefusesSource}
use Rattle.elide_asm.proofs.Printed.{of_file}
use Rattle.elide_asm.proofs.assembler.asm.Goals as goal

pub returns-then-options : goal.returns-then-options
returns-then-options g c =
    let content : Option (List ℕ) = g.P.Paths.content c.args.paths.now c.args.options.now.file.now in
    let source = c.as_slice.result.now in
    let before = g.O.Out.device c.args.out.now in
    let after = g.O.Out.device c.list.new.out in
    of_file c.list.result content c.args.options.now.lists source before after
    (subst (Gives content most_bytes) (sym c.as_slice.ensures.value) c.in_ok-text.ensures)
    (subst (λ (lists : Bool). MatchResult c.list.result (λ _. Prints (IsAssembly lists source) before after)
    (RefusesSource source (IsAssembly lists source) before after)) (sym c.if-options.true) c.list.ensures)

pub returns : goal.returns
returns g c =
    let content : Option (List ℕ) = g.P.Paths.content c.args.paths.now c.args.options.now.file.now in
    let source = c.as_slice-else-options.result.now in
    let before = g.O.Out.device c.args.out.now in
    let after = g.O.Out.device c.write.new.out in
    of_file c.write.result content c.args.options.now.lists source before after
    (subst (Gives content most_bytes) (sym c.as_slice-else-options.ensures.value) c.in_ok-text.ensures)
    (subst (λ (lists : Bool). MatchResult c.write.result (λ _. Prints (IsAssembly lists source) before after)
    (RefusesSource source (IsAssembly lists source) before after)) (sym c.if-options.false) c.write.ensures)
