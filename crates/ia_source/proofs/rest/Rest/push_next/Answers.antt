use Rattle.std.proofs.Common.{◌+◌, false, refl, sym, ◌∙◌, ap, drop, subst}
use Rattle.ia_item.specs.Fits.{AllFit}
use Rattle.ia_lex.specs.Lines.{lines_of}
use Rattle.ia_names.specs.Namings.{naming_of}
use Rattle.ia_names.proofs.Namings.{is_naming}
use Rattle.ia_source.specs.Contents.{Reading}
use Rattle.ia_source.specs.Source.{lines_onto, source_content}
use Rattle.ia_source.specs.Rests.{entries_with}
use Rattle.ia_source.proofs.ReadLines.{one_refused}
use Rattle.ia_source.proofs.Rests.{first_left, same_content}
use Rattle.ia_source.proofs.SourceFits.{line_fit}
use Rattle.ia_source.proofs.rest.Rest.push_next.Goals as goal

pub returns-in-Err-clause-read : goal.returns-in-Err-clause-read
returns-in-Err-clause-read c r h =
    let self = c.args.self.now in
    let line = c.first_line-taken.result.0.now in
    let taken = c.first_line-taken.result.1 in
    let s = source_content r self.state c.make_room.new.names self.defined c.make_room.new.entries.list.items in
    one_refused s line (lines_of (drop (self.place + taken) self.source.now)) c.in-Err.fault
    (entries_with r self c.args.names.now c.args.entries.now.list.items)
    (sym (ap (lines_onto s) (first_left self.source.now line self.place taken c.first_line-taken.ensures.lines))
    ∙ ap (λ t. lines_onto t (lines_of (drop self.place self.source.now)))
    (same_content r self.state c.args.names.now c.make_room.new.names self.defined c.args.entries.now.list.items
    c.make_room.new.entries.list.items
    c.make_room.ensures.scope (ap (λ v. v.items) c.make_room.ensures.entries)))
    (c.in-Err.ensures.line r h)

pub returns-clause-fit : goal.returns-clause-fit
returns-clause-fit c h =
    let names = c.push_line.new.names in
    let r : Reading = record { naming = naming_of names; written = false } in
    line_fit r _ _ c.first_line-taken.result.0.now c.make_room.new.entries.list.items c.push_line.new.entries.list.items
    (c.in-Ok.ensures.line r (is_naming names)) refl refl
    (subst AllFit (sym (ap (λ v. v.items) c.make_room.ensures.entries)) h)
