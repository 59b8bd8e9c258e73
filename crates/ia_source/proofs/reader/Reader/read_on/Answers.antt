use Rattle.std.proofs.Common.{[], ◌++◌, List, sym, ◌∙◌, ap, map, append-nil, subst}
use Rattle.std.specs.Prelude.{Ok}
use Rattle.std.proofs.lemmas.List.{map-append}
use Rattle.std.proofs.lemmas.List.Elements.{All-append}
use Rattle.ia_item.specs.declared.item.Entry.{Entry}
use Rattle.ia_item.specs.Fits.{FitsEntry}
use Rattle.ia_names.proofs.Namings.{grows_more, naming_less}
use Rattle.ia_source.specs.Contents.{entry_content}
use Rattle.ia_source.specs.Source.{Tells}
use Rattle.ia_source.specs.Rests.{entries_with}
use Rattle.ia_source.proofs.Fronts.{lines_behind}
use Rattle.ia_source.proofs.Rests.{none_left, entries_in_front, both_in_front, told_behind}
use Rattle.ia_source.proofs.reader.Reader.read_on.Goals as goal

pub returns-in-Err-clause-exact : goal.returns-in-Err-clause-exact
returns-in-Err-clause-exact g c r h =
    let walked = c.parts.invariant.walked in
    subst (λ t. Tells t c.in-Err.fault)
    (walked.1 r (naming_less r.naming c.parts.self.names c.part.new.names c.part.ensures.grows h))
    (told_behind (map (entry_content r) walked.0) (entries_with r c.parts.rest c.parts.self.names []) c.in-Err.fault
    (c.in-Err.ensures.read r h))

pub parts-preserved : goal.parts-preserved
parts-preserved g c =
    let walked = c.parts.invariant.walked in
    let es : List Entry = walked.0 in
    let fs : List Entry = c.in-Ok.part.items in
    let names = c.part.new.names in
    record {
      source = c.parts.invariant.source;
      none = c.parts.invariant.none;
      grows = grows_more c.args.self.now.names c.parts.self.names names c.parts.invariant.grows c.part.ensures.grows;
      walked = (
        es ++ fs,
        λ r h.
            let rest = entries_with r c.part.new.self names [] in
            ap (λ a. lines_behind a rest) (map-append (entry_content r) es fs)
            ∙ both_in_front (map (entry_content r) es) (map (entry_content r) fs) rest
            ∙ ap (lines_behind (map (entry_content r) es))
            (sym (entries_in_front r c.part.new.self names fs) ∙ c.in-Ok.ensures.read r h)
            ∙ walked.1 r (naming_less r.naming c.parts.self.names names c.part.ensures.grows h),
        All-append FitsEntry es fs walked.2 c.in-Ok.ensures.fit,
        (g.met.W.Walk c.lifetimes assumption).goes_on c.args.walk.now c.parts.walk c.go_over.new.self es fs walked.3
            (subst (λ (l : List Entry). g.W.Walk.Walked c.parts.walk l c.go_over.new.self) c.as_slice.ensures.value
            c.in_ok-go_over.ensures),
      );
    }

pub returns-clause-exact : goal.returns-clause-exact
returns-clause-exact g c =
    let walked = c.parts.invariant.walked in (
      walked.0,
      λ r h.
          sym (walked.1 r h)
          ∙ ap (lines_behind (map (entry_content r) walked.0))
          (none_left r c.parts.rest c.parts.self.names [] (c.is_left.ensures.none c.parts-test.false))
          ∙ ap Ok (append-nil (map (entry_content r) walked.0)),
      walked.2,
      walked.3,
    )
