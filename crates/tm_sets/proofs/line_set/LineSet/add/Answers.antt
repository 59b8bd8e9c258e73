use Rattle.std.proofs.Common.{◌≡◌, ◌+◌, ◌++◌, ◌∷◌, [], ℕ, List, false, cond, length, sym, ap, ◌∙◌, arith}
use Rattle.std.proofs.lemmas.List.{length_push}
use Rattle.std.specs.Result.{is_ok}
use Rattle.std.specs.FinSet as set
use Rattle.tm_sets.specs.LineSet.{lines_of, place_of}
use Rattle.tm_sets.proofs.Lists.{kept, pushed, len_push}
use Rattle.tm_sets.proofs.Placing.{place_stays}
use Rattle.tm_sets.proofs.line_set.LineSet.add.Goals as goal

pub returns-then-is_some-clause-ok : goal.returns-then-is_some-clause-ok
returns-then-is_some-clause-ok c =
    sym (kept (lines_of c.args.self.now.order) c.args.line
    (sym c.place.ensures.found ∙ sym c.is_some.ensures ∙ c.if-is_some.true))

pub invariant_of-self : goal.invariant_of-self
invariant_of-self c =
    let old : List ℕ = c.self.inside.lines.items in
    let items : c.push.new.self.items ≡ old ++ c.args.line ∷ [] =
    c.push.ensures.items ∙ ap (λ r. cond (is_ok r) (old ++ c.args.line ∷ []) old) c.unwrap.ensures in
    let lines : lines_of old ≡ lines_of c.args.self.now.order = ap (λ h. lines_of h.order) c.self.view_is in
    let new : set.contains (lines_of old) c.args.line ≡ false =
    ap (λ s. set.contains s c.args.line) lines ∙ sym c.place.ensures.found ∙ sym c.is_some.ensures
    ∙ c.if-is_some.false in
    let one : set.len (lines_of (old ++ c.args.line ∷ [])) ≡ length (old ++ c.args.line ∷ []) =
    ap (λ s. set.len s) (pushed old c.args.line) ∙ len_push (lines_of old) c.args.line new
    ∙ ap (λ n. n + 1) c.self.invariant.0 ∙ sym (length_push old c.args.line) in (
      ap (λ xs. set.len (lines_of xs)) items ∙ one ∙ sym (ap length items),
      omega (
        arith,
        ap length items,
        length_push old c.args.line,
        ap length c.as_slice.ensures.value,
        c.if-as_slice-self.false,
        c.self.invariant.1,
      ),
      omega (arith, c.push.ensures.capacity, c.self.invariant.2),
      c.self.invariant.3,
    )

pub returns-clause-ok : goal.returns-clause-ok
returns-clause-ok c =
    let old : List ℕ = c.self.inside.lines.items in
    let items : c.push.new.self.items ≡ old ++ c.args.line ∷ [] =
    c.push.ensures.items ∙ ap (λ r. cond (is_ok r) (old ++ c.args.line ∷ []) old) c.unwrap.ensures in
    ap lines_of items ∙ pushed old c.args.line ∙ ap (λ h. set.insert (lines_of h.order) c.args.line) c.self.view_is

pub returns-clause-order : goal.returns-clause-order
returns-clause-order c =
    let old : List ℕ = c.self.inside.lines.items in
    let items : c.push.new.self.items ≡ old ++ c.args.line ∷ [] =
    c.push.ensures.items ∙ ap (λ r. cond (is_ok r) (old ++ c.args.line ∷ []) old) c.unwrap.ensures in
    λ other there. ap (λ xs. place_of xs other) (items ∙ ap (λ h. h.order ++ c.args.line ∷ []) c.self.view_is)
    ∙ place_stays c.args.self.now.order c.args.line other there
