use Rattle.std.proofs.Common.{◌≡◌, ℕ, ◌&&◌, not, length, take}
use Rattle.tm_page.specs.Applied.{is_listed}
use Rattle.tm_page.proofs.lines.joined.Given as goal

abbrev pub invariant-loop-index : goal.invariant-loop-index
invariant-loop-index l = record {
  end : l.index-end ≡ length l.new;
  told :
      (line : ℕ) → is_listed l.lines.items line ≡ (is_listed (take l.index l.new) line && not (is_listed l.old line));
}
