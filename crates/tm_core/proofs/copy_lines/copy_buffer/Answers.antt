use Rattle.std.proofs.Common.{◌≡◌, ℕ, Some, None, Option, cond, map, sym, ap, ◌∙◌, arith}
use Rattle.std.proofs.lemmas.List.{take_all}
use Rattle.std.specs.Ordering.{nat_cmp}
use Rattle.std.specs.FinMap as map_of
use Rattle.ia_word.specs.Line.{line}
use Rattle.tm_buffer.specs.Buffer.{holds}
use Rattle.tm_core.proofs.Copies.{all_taken}
use Rattle.tm_core.proofs.copy_lines.copy_buffer.Goals as goal

pub loop-place-init : goal.loop-place-init
loop-place-init g c = record {
  end = c.lines-place-end.ensures.count;
  order = c.clear.ensures.order;
  part = λ q.
      ap (λ m. map_of.get m q) c.clear.ensures.bytes ∙ map_of.get-empty nat_cmp q
      ∙ sym (ap (λ xs. cond (holds xs (line q)) (map_of.get c.args.twin.now.bytes q) None) c.clear.ensures.order);
  slots = ap (map ((g.S.Sets.content c.args.sets.now).slots c.args.core)) c.clear.ensures.order
      ∙ sym (ap (λ xs. map {A = ℕ} {B = Option ℕ} Some xs) c.clear.ensures.slots);
  room = c.clear.ensures.room;
}

pub returns-clause-bytes : goal.returns-clause-bytes
returns-clause-bytes g c =
    let all : c.loop-place.buffer.order ≡ c.args.twin.now.order =
    c.loop-place.invariant.order
    ∙ take_all c.loop-place.place c.args.twin.now.order
    (omega (arith, c.loop-place.invariant.end, c.loop-place-test.false)) in
    all_taken c.loop-place.buffer c.args.twin.now all c.loop-place.invariant.part c.lines-place-end.ensures.nowhere_else
