use Rattle.std.proofs.Common.{◌≡◌, ◌+◌, ◌-◌, ◌++◌, ◌∷◌, [], Some, None, sym, ◌∙◌, ap, drop, take, length, get_or, arith}
use Rattle.std.proofs.Common.{length-drop, nat_eq}
use Rattle.std.proofs.lemmas.List.{drop-drop, drop_all, take_rest}
use Rattle.std.specs.List.{ends_with}
use Rattle.elide_expect.specs.Patterns.{meets, place_of, some_end}
use Rattle.elide_expect.proofs.Behind.{behind_step, last_step, left, nothing, nows, of_none}
use Rattle.elide_expect.proofs.pieces.end_meets.Goals as goal

pub loop-piece-preserved : goal.loop-piece-preserved
loop-piece-preserved c =
    let line = c.args.line.now in
    let from = c.loop-piece.from in
    let at = c.in-Some-place_of.at in
    let i = c.loop-piece.piece-index in
    let p = (get_or c.in-Some.middle.now i nothing).now in
    let after = nows (drop (i + 1) c.in-Some.middle.now ++ c.in-Some.last.now ∷ []) in
    let rest = take_rest line from in
    let size : length (take (length line - from) (drop from line)) ≡ length line - from =
    ap length rest ∙ length-drop from line in
    let found : place_of p (drop from line) ≡ Some at
    = ap (place_of p) (sym rest) ∙ sym c.in-Some-place_of.ensures.place in
    record {
      within = omega (arith, size, c.in-Some-place_of.ensures.within);
      read = ap (some_end (meets after)) (sym (drop-drop (at + length p) from line))
          ∙ sym (ap (left after p (drop from line)) found)
          ∙ sym (behind_step c.in-Some.middle.now c.in-Some.last.now i (drop from line) c.loop-piece-test.true)
          ∙ c.loop-piece.invariant.read;
    }

pub returns-in_default : goal.returns-in_default
returns-in_default c = sym (of_none c.args.pieces.now c.args.line.now c.in_default.ensures.cases)

pub returns-in_default-place_of : goal.returns-in_default-place_of
returns-in_default-place_of c =
    let line = c.args.line.now in
    let from = c.loop-piece.from in
    let i = c.loop-piece.piece-index in
    let p = (get_or c.in-Some.middle.now i nothing).now in
    let after = nows (drop (i + 1) c.in-Some.middle.now ++ c.in-Some.last.now ∷ []) in
    let found : place_of p (drop from line) ≡ None
    = ap (place_of p) (sym (take_rest line from)) ∙ sym c.in_default-place_of.ensures.place in
    sym (ap (left after p (drop from line)) found)
    ∙ sym (behind_step c.in-Some.middle.now c.in-Some.last.now i (drop from line) c.loop-piece-test.true)
    ∙ c.loop-piece.invariant.read

pub returns : goal.returns
returns c =
    let line = c.args.line.now in
    let from = c.loop-piece.from in
    c.ends_with.ensures.value
    ∙ ap (λ l. ends_with nat_eq l c.in-Some.last.now.now) (take_rest line from)
    ∙ sym (last_step c.in-Some.last.now.now (drop from line))
    ∙ ap (λ rows. some_end (meets (nows (rows ++ c.in-Some.last.now ∷ []))) (drop from line))
    (sym (drop_all c.loop-piece.piece-index c.in-Some.middle.now c.loop-piece-test.false))
    ∙ c.loop-piece.invariant.read
