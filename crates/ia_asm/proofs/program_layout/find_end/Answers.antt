use Rattle.std.proofs.Common.{◌∙◌, ap}
use Rattle.ia_layout.specs.Placement.{LayoutState}
use Rattle.ia_asm.proofs.ProgramLayouts.{end_found}
use Rattle.ia_asm.proofs.program_layout.find_end.Goals as goal

pub returns-clause-exact : goal.returns-clause-exact
returns-clause-exact c =
    let (es, reads, fits, (walked, taken)) = c.in_ok-placer.ensures.exact in
    end_found c.args.reader.now.source.now c.place_all.new.reader.names c.args.base c.in_ok-end.end
    (es, reads, fits, c.in_ok-end.ensures.end ∙ ap (λ (s : LayoutState). s.text) walked)
