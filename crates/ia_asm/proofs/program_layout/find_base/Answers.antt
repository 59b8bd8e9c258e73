use Rattle.std.proofs.Common.{◌∙◌, ap}
use Rattle.ia_layout.specs.Placement.{base_of}
use Rattle.ia_layout.specs.Contents.{base_with, or_base}
use Rattle.ia_asm.proofs.Outputs.{given_all}
use Rattle.ia_asm.proofs.ProgramLayouts.{base_found}
use Rattle.ia_asm.proofs.program_layout.find_base.Goals as goal

pub returns-clause-exact : goal.returns-clause-exact
returns-clause-exact c =
    let (es, reads, fits, kept) = c.in_ok-go_over.ensures.exact in
    base_found c.args.reader.now.source.now c.go_over.new.self.names c.base.result (
      es,
      reads,
      fits,
      c.base.ensures ∙ given_all base_with c.new-first.result c.go_over.new.walk es kept
          ∙ ap (λ o. or_base o (base_of es)) c.new-first.ensures,
    )
