use Rattle.std.proofs.Common.{◌≡◌, ◌/◌, length, vec_len, sym, ap, ◌∙◌, rules}
use Rattle.tm_buffer.specs.Buffer.{lines_of, place_of}
use Rattle.std.specs.Option.{is_some}
use Rattle.tm_buffer.proofs.TakenOver.{off_lines}
use Rattle.tm_buffer.proofs.Places.{len_lines}
use Rattle.tm_buffer.proofs.stored.Buffer.lines.Goals as goal

pub returns-clause-distinct : goal.returns-clause-distinct
returns-clause-distinct c =
    let count : vec_len c.self.inside.lines ≡ length c.self.inside.lines.items = search rules in
    c.len.ensures ∙ count ∙ sym (len_lines c.self.inside.lines.items c.self.invariant.0.at_its_place)
    ∙ ap (λ h. Rattle.std.specs.FinSet.len (lines_of h.order)) c.self.view_is

pub returns-clause-nowhere_else : goal.returns-clause-nowhere_else
returns-clause-nowhere_else c = λ q off.
    ap (λ h. Rattle.std.specs.FinMap.get h.bytes q) (sym c.self.view_is)
    ∙ off_lines c.self.inside.lines.items c.self.inside.masks.items c.self.inside.bytes.items q
    (ap (λ h. is_some (place_of h.order (q / 64))) c.self.view_is ∙ off)
