use Rattle.std.proofs.Common.{◌≡◌, ◌+◌, ◌++◌, ◌∷◌, [], ◌∙◌, ap, sym, arith, append_assoc, length, length-append, None}
use Rattle.ia_lex.specs.Lines.{lines_of}
use Rattle.tm_model.specs.declared.outcome.Pick.{Pick}
use Rattle.tm_schedule.specs.ScheduleWords.{words_from}
use Rattle.tm_schedule.proofs.ShortWords.{at_most_one, behind, behind_is, digit_fault, digit_steps, fault, steps}
use Rattle.tm_schedule.proofs.schedule.numbers.read_short.Goals as goal

pub words-preserved : goal.words-preserved
words-preserved c =
    let i = c.words.invariant in
    let old = c.words.picks.items in
    let new = c.push_reserved.new.self.items in
    let left = c.words.left.now in
    let rest = c.in-Some.rest.now in
    let core = c.in-Some.core in
    let pick : Pick = record { core = core; event = None } in
    let ends = c.in-Some.ends in
    let line = c.words.line in
    let short = c.in-Some.ensures in
    let one = at_most_one ends in
    let added = c.from-line.ensures in
    let long : length new ≡ length old + 1 = ap length c.push_reserved.ensures.items ∙ length-append old (pick ∷ []) in
    let ahead = behind_is (line + 1) ends in
    let below : behind (line + 1) ends ≡ line + c.from-line.result + 1 = omega arith in
    let two = ap length short.1 in
    let shorter : length left ≡ 2 + length rest = omega arith in
    let same = c.push_reserved.ensures.capacity in
    record {
      fault = λ form. i.fault form ∙ digit_fault form left rest core (line + 1) (length old) ends short
          ∙ ap (λ k. fault form (length old + 1) (words_from k (lines_of rest))) below
          ∙ ap (λ k. fault form k (words_from (line + c.from-line.result + 1) (lines_of rest))) (sym long);
      steps = λ form. i.steps form ∙ ap (λ xs. old ++ xs) (digit_steps form left rest core (line + 1) ends short)
          ∙ ap (λ k. old ++ pick ∷ steps form (words_from k (lines_of rest))) below
          ∙ sym (append_assoc old (pick ∷ []) (steps form (words_from (line + c.from-line.result + 1) (lines_of rest))))
          ∙ ap (λ xs. xs ++ steps form (words_from (line + c.from-line.result + 1) (lines_of rest)))
          (sym c.push_reserved.ensures.items);
      room = omega (arith, i.room, shorter, long, same);
      few = omega (arith, i.few, shorter, one, added);
    }
