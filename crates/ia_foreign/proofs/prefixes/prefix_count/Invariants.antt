use Rattle.std.proofs.Common.{◌≡◌, ◌+◌, drop}
use Rattle.std.specs.List.{prefix_len}
use Rattle.ia_foreign.specs.Prefixes.{is_prefix}
use Rattle.ia_foreign.proofs.prefixes.prefix_count.Given as goal

abbrev pub invariant-loop-place : goal.invariant-loop-place
invariant-loop-place l = l.place + prefix_len is_prefix (drop l.place l.bytes) ≡ prefix_len is_prefix l.bytes
