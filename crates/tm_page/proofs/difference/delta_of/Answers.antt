use Rattle.std.proofs.Common.{◌≡◌, ℕ, ◌&&◌, not, cond, Option, Some, None, length, sym, ap, ◌∙◌}
use Rattle.std.specs.FinSet as set
use Rattle.tm_core.specs.Theorem.{view_at}
use Rattle.tm_page.proofs.Made.{made_so}
use Rattle.tm_page.specs.Applied.{is_listed, stored_at}
use Rattle.tm_page.specs.Difference.{addresses_told, byte_told}
use Rattle.tm_page.specs.Shows.{IsAddress}
use Rattle.tm_page.specs.Types.{Store}
use Rattle.tm_page.proofs.difference.delta_of.Goals as goal

pub returns : goal.returns
returns c = λ start b.
    let told : (at : ℕ) → IsAddress (length c.args.machine.now.memory) at → stored_at c.in_ok-stored.stored.items at
    ≡ cond (is_listed (addresses_told c.args.outcome c.args.before.now.reach c.args.kept.now
    c.store_pended-pending.result c.args.before.now.oldest) at)
    (Some (byte_told c.args.outcome c.args.machine.now c.args.before.now.asked.core at)) None =
    rw c.in_ok-stored.ensures at c.stored_by.ensures in
    made_so start c.args.machine.now c.args.before.now c.args.outcome c.args.kept.now c.put_together.result b
    c.put_together.ensures.core c.put_together.ensures.outcome c.put_together.ensures.state
    c.put_together.ensures.registers
    (λ line.
    ap (λ v. is_listed v.items line) c.put_together.ensures.reads
    ∙ c.in_ok-reads.ensures line
    ∙ ap
    (λ xs. set.contains (view_at c.args.machine.now c.args.before.now.asked.core).reads line && not (is_listed xs line))
    c.as_slice.ensures.value)
    (λ line.
    ap (λ v. is_listed v.items line) c.put_together.ensures.writes
    ∙ c.in_ok-writes.ensures line
    ∙ ap (λ xs. set.contains (view_at c.args.machine.now c.args.before.now.asked.core).writes line
    && not (is_listed xs line))
    c.as_slice-2.ensures.value)
    (λ at within. ap (λ v. stored_at v.items at) c.put_together.ensures.stored ∙ told at within
    ∙ ap (λ (pended : Option Store).
    cond (is_listed (addresses_told c.args.outcome c.args.before.now.reach c.args.kept.now pended
    c.args.before.now.oldest) at)
    (Some (byte_told c.args.outcome c.args.machine.now c.args.before.now.asked.core at)) None)
    (sym c.put_together.ensures.pending))
    (c.put_together.ensures.pending ∙ c.store_pended-pending.ensures)
    c.put_together.ensures.hits
