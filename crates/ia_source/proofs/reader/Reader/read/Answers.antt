use Rattle.std.proofs.Common.{false, List, sym, ◌∙◌, subst}
use Rattle.ia_item.specs.declared.item.Entry.{Entry}
use Rattle.ia_names.specs.Namings.{naming_of}
use Rattle.ia_names.proofs.Namings.{grows_more, is_naming}
use Rattle.ia_source.specs.Contents.{Reading}
use Rattle.ia_source.specs.Source.{ReadsAs, Tells}
use Rattle.ia_source.proofs.Rests.{from_start, none_left, part_then_rest}
use Rattle.ia_source.proofs.reader.Reader.read.Goals as goal

pub returns-in-Err-clause-grows : goal.returns-in-Err-clause-grows
returns-in-Err-clause-grows g c =
    grows_more c.args.self.now.names c.leave.new.self c.part.new.names c.leave.ensures.grows c.part.ensures.grows

pub returns-in-Err-clause-exact : goal.returns-in-Err-clause-exact
returns-in-Err-clause-exact g c =
    let names = c.part.new.names in
    let r : Reading = record { naming = naming_of names; written = false } in
    subst (λ t. Tells t c.in-Err.fault)
    (from_start r c.new-rest.result c.leave.new.self c.args.self.now.source.now c.new-rest.ensures.source
    c.new-rest.ensures.place c.leave.ensures.scope c.new-rest.ensures.state c.new-rest.ensures.defined)
    (c.in-Err.ensures.read r (is_naming names))

pub returns-in_err-go_over-clause-grows : goal.returns-in_err-go_over-clause-grows
returns-in_err-go_over-clause-grows g c =
    grows_more c.args.self.now.names c.leave.new.self c.part.new.names c.leave.ensures.grows c.part.ensures.grows

pub returns-then-is_left-clause-grows : goal.returns-then-is_left-clause-grows
returns-then-is_left-clause-grows g c =
    grows_more c.args.self.now.names c.leave.new.self c.read_on.new.self.names c.leave.ensures.grows
    (grows_more c.leave.new.self c.part.new.names c.read_on.new.self.names c.part.ensures.grows c.read_on.ensures.grows)

pub returns-then-is_left-clause-exact : goal.returns-then-is_left-clause-exact
returns-then-is_left-clause-exact g c =
    part_then_rest g.W.Walk.Walked (g.met.W.Walk c.lifetimes assumption).goes_on c.read_on.result
    c.args.self.now.source.now c.part.new.self c.part.new.names c.read_on.new.self.names
    c.args.walk.now c.go_over.new.self c.read_on.new.walk c.in-Ok.part.items
    (λ r h. c.in-Ok.ensures.read r h
    ∙ from_start r c.new-rest.result c.leave.new.self c.args.self.now.source.now c.new-rest.ensures.source
    c.new-rest.ensures.place c.leave.ensures.scope c.new-rest.ensures.state c.new-rest.ensures.defined)
    c.read_on.ensures.grows c.in-Ok.ensures.fit
    (subst (λ (l : List Entry). g.W.Walk.Walked c.args.walk.now l c.go_over.new.self) c.as_slice.ensures.value
    c.in_ok-go_over.ensures)
    c.read_on.ensures.exact

pub invariant_of-self-else-is_left : goal.invariant_of-self-else-is_left
invariant_of-self-else-is_left g c = record { kept = ∣ reads ∣₁ }
  where
    reads : ReadsAs c.args.self.now.source.now c.part.new.names c.in-Ok.part.items
    reads r h =
        sym (from_start r c.new-rest.result c.leave.new.self c.args.self.now.source.now c.new-rest.ensures.source
        c.new-rest.ensures.place c.leave.ensures.scope c.new-rest.ensures.state c.new-rest.ensures.defined)
        ∙ sym (c.in-Ok.ensures.read r h)
        ∙ none_left r c.part.new.self c.part.new.names c.in-Ok.part.items (c.is_left.ensures.none c.if-is_left.false)

pub returns-clause-grows : goal.returns-clause-grows
returns-clause-grows g c =
    grows_more c.args.self.now.names c.leave.new.self c.part.new.names c.leave.ensures.grows c.part.ensures.grows

pub returns-clause-exact : goal.returns-clause-exact
returns-clause-exact g c = (
  c.in-Ok.part.items,
  λ r h.
      sym (from_start r c.new-rest.result c.leave.new.self c.args.self.now.source.now c.new-rest.ensures.source
      c.new-rest.ensures.place c.leave.ensures.scope c.new-rest.ensures.state c.new-rest.ensures.defined)
      ∙ sym (c.in-Ok.ensures.read r h)
      ∙ none_left r c.part.new.self c.part.new.names c.in-Ok.part.items (c.is_left.ensures.none c.if-is_left.false),
  c.in-Ok.ensures.fit,
  subst (λ (l : List Entry). g.W.Walk.Walked c.args.walk.now l c.go_over.new.self) c.as_slice.ensures.value
      c.in_ok-go_over.ensures,
)
