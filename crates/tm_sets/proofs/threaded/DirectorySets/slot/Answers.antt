use Rattle.std.proofs.Common.{◌≡◌, ◌<◌, List, Some, IfSome, true, length, sym, ap, ◌∙◌, subst}
use Rattle.std.proofs.lemmas.List.{get_or_read}
use Rattle.std.specs.Option.{is_some}
use Rattle.tm_sets.specs.Row.{no_entry, entry_at}
use Rattle.tm_sets.specs.declared.interface.Kind.TheVariants.{Write}
use Rattle.tm_sets.specs.declared.row.Entry.{Entry}
use Rattle.tm_sets.proofs.Members.{is_triple, slot_absent}
use Rattle.tm_sets.specs.DirectoryRows.{rows_of}
use Rattle.tm_sets.proofs.Slotting.{slot_is, directory_slots}
use Rattle.tm_sets.proofs.threaded.DirectorySets.slot.Goals as goal

pub returns-in-Some-clause-all : goal.returns-in-Some-clause-all
returns-in-Some-clause-all c =
    directory_slots (rows_of c.args.self.now) c.args.self.now.threaded c.args.self.now.counted

pub returns-in-None-clause-all : goal.returns-in-None-clause-all
returns-in-None-clause-all c =
    directory_slots (rows_of c.args.self.now) c.args.self.now.threaded c.args.self.now.counted

pub returns-in-Some-clause-value : goal.returns-in-Some-clause-value
returns-in-Some-clause-value c =
    let es : List Entry = c.args.self.now.entries.items in
    let below : c.in-Some.place < length es =
    subst (λ o. IfSome o (λ place. place < length es)) c.in-Some.is c.find-place.ensures.place in
    let triple : is_triple (entry_at es c.in-Some.place) c.args.core Write c.args.line ≡ true =
    subst (λ o. IfSome o (λ place. is_triple (entry_at es place) c.args.core Write c.args.line ≡ true)) c.in-Some.is
    c.find-place.ensures.triple in
    ap (λ e. Some e.slot) (get_or_read es c.in-Some.place c.index.result.now below c.index.ensures no_entry)
    ∙ sym
    (slot_is (rows_of c.args.self.now) c.args.self.now.counted c.args.core c.args.line c.in-Some.place below triple)

pub returns-in-None-clause-value : goal.returns-in-None-clause-value
returns-in-None-clause-value c =
    sym (slot_absent c.args.self.now.entries.items c.args.core c.args.line
    (sym c.find-place.ensures.found ∙ ap is_some c.in-None.is))
