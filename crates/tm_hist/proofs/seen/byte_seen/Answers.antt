use Rattle.std.proofs.Common.{◌≡◌, ◌≤◌, List, ℕ, ap, length, sym, take, ◌∙◌, arith}
use Rattle.std.specs.Prelude.{slice_index}
use Rattle.ia_word.specs.declared.width.Width.TheVariants.{B}
use Rattle.tm_model.specs.State.{seen_memory}
use Rattle.tm_model.specs.Types.{Store}
use Rattle.tm_hist.proofs.SeenBytes.{length-seen, seen_next}
use Rattle.tm_hist.proofs.seen.byte_seen.Goals as goal

pub loop-store-preserved : goal.loop-store-preserved
loop-store-preserved c =
    let m = c.args.memory.now in
    let p = c.args.pending.now in
    let i = c.loop-store.store-index in
    let none : Store = record { addr = 0; width = B; value = 0 } in
    let before : List ℕ = seen_memory m (take i p) in
    let size : length before ≡ length m = length-seen m (take i p) in
    let long : length m ≤ length before = omega arith in
    c.byte_after-byte.ensures before long c.loop-store.invariant
    ∙ ap (λ (l : List ℕ). slice_index l c.args.at) (sym (seen_next m p i none c.loop-store-test.true))
