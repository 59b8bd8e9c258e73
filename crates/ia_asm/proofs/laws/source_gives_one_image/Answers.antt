use Rattle.ia_asm.proofs.OneImage.{source_gives_one_image}
use Rattle.ia_asm.proofs.laws.source_gives_one_image.Goals as goal

pub returns : goal.returns
returns c = source_gives_one_image
