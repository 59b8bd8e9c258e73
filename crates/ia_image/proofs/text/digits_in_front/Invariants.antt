use Rattle.std.proofs.Common.{◌≡◌, ◌+◌, drop}
use Rattle.std.specs.List.{prefix_len}
use Rattle.ia_image.specs.ImageText.{is_hex}
use Rattle.ia_image.proofs.text.digits_in_front.Given as goal

abbrev pub invariant-loop-place : goal.invariant-loop-place
invariant-loop-place l = l.place + prefix_len is_hex (drop l.place l.text) ≡ prefix_len is_hex l.text
