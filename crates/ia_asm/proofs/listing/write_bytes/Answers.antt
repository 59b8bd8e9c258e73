use Rattle.std.proofs.Common.{ap, sym, ◌∙◌, ◌++◌, append_assoc}
use Rattle.std.specs.List.{flat_map, range_with_len}
use Rattle.ia_asm.specs.ListingText.{bytes_line}
use Rattle.ia_asm.proofs.ListingLines.{lines_more}
use Rattle.ia_asm.proofs.listing.write_bytes.Goals as goal

pub loop-index-preserved : goal.loop-index-preserved
loop-index-preserved c =
    let line = bytes_line c.args.bytes.now c.args.at in
    let so_far = flat_map line (range_with_len 0 c.loop-index.index) in
    c.in_ok-write_bytes_line.ensures ∙ ap (λ text. text ++ line c.loop-index.index) c.loop-index.invariant
    ∙ append_assoc c.args.out.now.items so_far (line c.loop-index.index)
    ∙ ap (λ text. c.args.out.now.items ++ text) (sym (lines_more line c.loop-index.index))
