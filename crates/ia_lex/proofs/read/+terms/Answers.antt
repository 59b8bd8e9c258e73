use Rattle.std.proofs.Common.{◌≡◌, ℕ, ◌-◌, ◌<◌, ◌++◌, List, [], ◌∷◌, Option, Some, None, length, map, ap, sym, ◌∙◌}
use Rattle.std.proofs.Common.{arith}
use Rattle.std.proofs.lemmas.List.{map-append}
use Rattle.std.proofs.lemmas.Grind.{common_steps}
use Rattle.ia_lex.specs.Tokens.{Lexeme, lexeme_of}
use Rattle.ia_lex.specs.Terms.{TermContent, term_content, atom_content, terms_at, with_terms}
use Rattle.ia_lex.proofs.TermLists.{terms_one}
use Rattle.ia_lex.proofs.read.+terms.Goals as goal

pub behind_sign-returns-in-Some-atom : goal.behind_sign-returns-in-Some-atom
behind_sign-returns-in-Some-atom t c =
    let items = c.args.out.items in
    let lt : length c.args.out.items < 16 = grind (arith, common_steps) in
    let p : TermContent = record { negative = c.args.negative; atom = atom_content c.in-Some-atom.atom } in
    let pushed : map term_content c.push.new.self.items ≡ map term_content items ++ p ∷ []
    =
    ap (map term_content) c.push.ensures.items
    ∙ map-append term_content items ((record { negative = c.args.negative; atom = c.in-Some-atom.atom }) ∷ []) in
    let after : List TermContent → ℕ → Option (List TermContent × List Lexeme) =
    λ front n. with_terms front (terms_at (16 - n) None (map lexeme_of c.in-Some.rest.now)) in
    c.behind_term.ensures
    ∙ ap (λ f. after f (length c.push.new.self.items)) pushed
    ∙ ap (after (map term_content items ++ p ∷ [])) c.push.ensures.len
    ∙ sym (terms_one (map term_content items) (length items) c.args.negative (atom_content c.in-Some-atom.atom)
    (lexeme_of c.in-Some.token.now) (map lexeme_of c.in-Some.rest.now) lt c.in-Some-atom.ensures)
    ∙ ap (λ (l : List _). with_terms (map term_content items)
    (terms_at (16 - length items) (Some c.args.negative) (map lexeme_of l))) (sym c.in-Some.ensures.cases.0)
