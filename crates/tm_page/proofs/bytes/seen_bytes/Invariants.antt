use Rattle.std.proofs.Common.{◌≡◌, ℕ, Some, None, cond, length, take}
use Rattle.tm_core.specs.Seen.{byte_seen}
use Rattle.tm_page.specs.Applied.{is_listed, stored_at}
use Rattle.tm_page.specs.Shows.{IsAddress}
use Rattle.tm_page.proofs.bytes.seen_bytes.Given as goal

abbrev pub invariant-loop-index : goal.invariant-loop-index
invariant-loop-index l = record {
  end : l.index-end ≡ length l.addresses;
  told : (at : ℕ) → IsAddress (length l.machine.memory) at →
      stored_at l.bytes.items at
      ≡ cond (is_listed (take l.index l.addresses) at) (Some (byte_seen l.machine l.core at)) None;
}
