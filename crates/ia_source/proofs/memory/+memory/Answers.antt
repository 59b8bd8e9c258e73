use Rattle.std.proofs.Common.{List, None, map, ap, sym, ◌∙◌}
use Rattle.std.proofs.lemmas.List.{take_rest}
use Rattle.ia_lex.specs.declared.token.Token.{Token}
use Rattle.ia_lex.specs.Tokens.{lexeme_of}
use Rattle.ia_source.specs.MemoryOperands.{memory_from, terms_content, piece_content}
use Rattle.ia_source.proofs.MemoryOperands.{behind_some}
use Rattle.ia_source.proofs.memory.+memory.Goals as goal

pub behind_sign-returns-in-Some-with_piece : goal.behind_sign-returns-in-Some-with_piece
behind_sign-returns-in-Some-with_piece t c =
    c.behind_piece.ensures
    ∙ ap (λ (l : List Token). memory_from 0 c.in-Some-with_piece.mem (terms_content c.with_piece.new.terms) None
    (map lexeme_of l)) (take_rest c.args.tokens.now c.in-Some.taken)
    ∙ sym (behind_some c.args.mem (terms_content c.args.terms.now) c.args.negative c.args.register c.args.tokens.now
    (piece_content c.in-Some.piece) c.in-Some.taken
    c.in-Some-with_piece.mem (terms_content c.with_piece.new.terms) c.in-Some.ensures.piece c.in-Some-with_piece.ensures
    c.in-Some.ensures.some)
