use Rattle.std.proofs.Common.{◌≡◌, sym, ap, ◌∙◌}
use Rattle.std.specs.FinSet as set
use Rattle.tm_sets.specs.LineSet.{lines_of}
use Rattle.tm_sets.proofs.Same.{same_of_subset, itself}
use Rattle.tm_sets.proofs.line_set.LineSet.is_same.Goals as goal

pub returns-then-count-clause-lines : goal.returns-then-count-clause-lines
returns-then-count-clause-lines c subset =
    let mine : lines_of c.deref.result.now ≡ lines_of c.args.self.now.order =
    ap lines_of c.deref.ensures.value ∙ ap (λ h. lines_of h.order) c.self.view_is in
    let theirs : lines_of c.deref-then-count.result.now ≡ lines_of c.args.other.now.order =
    ap lines_of c.deref-then-count.ensures.value ∙ ap (λ h. lines_of h.order) c.other.view_is in
    sym mine
    ∙ same_of_subset c.deref.result.now (lines_of c.deref-then-count.result.now)
    (ap set.len mine ∙ sym c.count.ensures ∙ c.if-count.true ∙ c.count-2.ensures ∙ sym (ap set.len theirs))
    (sym c.are_within.ensures ∙ subset)
    ∙ theirs

pub returns-then-count-clause-all : goal.returns-then-count-clause-all
returns-then-count-clause-all c same =
    let mine : lines_of c.deref.result.now ≡ lines_of c.args.self.now.order =
    ap lines_of c.deref.ensures.value ∙ ap (λ h. lines_of h.order) c.self.view_is in
    let theirs : lines_of c.deref-then-count.result.now ≡ lines_of c.args.other.now.order =
    ap lines_of c.deref-then-count.ensures.value ∙ ap (λ h. lines_of h.order) c.other.view_is in
    c.are_within.ensures
    ∙ itself (lines_of c.deref.result.now) (lines_of c.deref-then-count.result.now) (mine ∙ same ∙ sym theirs)
