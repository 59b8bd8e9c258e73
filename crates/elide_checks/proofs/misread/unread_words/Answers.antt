use Rattle.elide_checks.proofs.Parts.{shorter}
use Rattle.elide_checks.proofs.misread.unread_words.Goals as goal

pub parts-smaller : goal.parts-smaller
parts-smaller c = shorter _ _ _ c.in-Some.ensures.some
