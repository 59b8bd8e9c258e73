use Rattle.std.proofs.Common.{◌≡◌, ◌+◌, ◌-◌, ◌++◌, ◌∷◌, [], Some, None, sym, ◌∙◌, ap, drop, take, length, arith}
use Rattle.std.proofs.Common.{length-drop}
use Rattle.std.proofs.lemmas.List.{map-append, take_rest}
use Rattle.std.specs.Prelude.{codes}
use Rattle.elide_expect.specs.Patterns.{pieces_of, place_of}
use Rattle.elide_expect.proofs.Behind.{nows, pieces_end, pieces_more}
use Rattle.elide_expect.proofs.pieces.pieces_of.Goals as goal

pub loop-at-preserved : goal.loop-at-preserved
loop-at-preserved c =
    let text = c.args.text.now in
    let from = c.loop-at.from in
    let at = c.in-Some.at in
    let rest = take_rest text from in
    let size : length (take (length text - from) (drop from text)) ≡ length text - from =
    ap length rest ∙ length-drop from text in
    let long : from + at - from ≡ at = omega arith in
    let pushed : nows c.push.new.self.items ≡ nows c.loop-at.pieces.items ++ take at (drop from text) ∷ []
    = ap nows c.in_ok-push.ensures.items ∙ map-append (λ row. row.now) c.loop-at.pieces.items _
    ∙ ap (λ n. nows c.loop-at.pieces.items ++ take n (drop from text) ∷ []) long in
    let found : place_of (codes "...") (drop from text) ≡ Some at
    = ap (place_of (codes "...")) (sym rest) ∙ sym c.in-Some.ensures.place in
    record {
      within = omega (arith, size, c.in-Some.ensures.within);
      read = ap (λ l. l ++ pieces_of (drop (from + (at + 3)) text)) pushed
          ∙ pieces_more (nows c.loop-at.pieces.items) from at text (pieces_of text) c.loop-at.invariant.read found;
    }

pub returns : goal.returns
returns c =
    let text = c.args.text.now in
    let from = c.loop-at.from in
    let rest = take_rest text from in
    let found : place_of (codes "...") (drop from text) ≡ None
    = ap (place_of (codes "...")) (sym rest) ∙ sym c.in_default.ensures.place in
    ap nows c.in_ok-push-2.ensures.items ∙ map-append (λ row. row.now) c.loop-at.pieces.items _
    ∙ ap (λ l. nows c.loop-at.pieces.items ++ l ∷ []) rest
    ∙ pieces_end (nows c.loop-at.pieces.items) (drop from text) (pieces_of text) c.loop-at.invariant.read found
