use Rattle.std.proofs.Common.{List, refl, sym, subst}
use Rattle.ia_item.specs.declared.item.Entry.{Entry}
use Rattle.ia_item.specs.Fits.{AllFit}
use Rattle.ia_source.proofs.Kept.{kept_read, read_fit}
use Rattle.ia_source.proofs.reader.Reader.go_over.Goals as goal

pub go_over-requires : goal.go_over-requires
go_over-requires g c κs =
    let self = c.args.self.now in
    let reads =
    kept_read (λ v. v.items) self.source.now self.names self.whole c.in-Some.entries self.kept c.in-Some.is in (
      (refl, tt),
      subst AllFit (sym c.as_slice.ensures.value) (read_fit self.source.now self.names c.in-Some.entries.items reads),
    )

pub returns-in_ok-go_over-in-Some-clause-exact : goal.returns-in_ok-go_over-in-Some-clause-exact
returns-in_ok-go_over-in-Some-clause-exact g c =
    let self = c.args.self.now in
    let reads =
    kept_read (λ v. v.items) self.source.now self.names self.whole c.in-Some.entries self.kept c.in-Some.is in (
      c.in-Some.entries.items,
      reads,
      read_fit self.source.now self.names c.in-Some.entries.items reads,
      subst (λ (l : List Entry). g.W.Walk.Walked c.args.walk.now l c.go_over.new.self) c.as_slice.ensures.value
          c.in_ok-go_over-in-Some.ensures,
    )
