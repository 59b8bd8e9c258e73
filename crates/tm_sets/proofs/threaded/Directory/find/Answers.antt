use Rattle.std.proofs.Common.{◌≡◌, ◌+◌, ◌-◌, List, false, get_or, sym, ap, ◌∙◌, arith}
use Rattle.std.proofs.lemmas.List.{get_or_read}
use Rattle.tm_sets.specs.declared.row.Entry.{Entry}
use Rattle.tm_sets.specs.Row.{entry_at}
use Rattle.tm_sets.specs.Threaded.{after_on_line}
use Rattle.tm_sets.specs.DirectoryRows.{rows_of}
use Rattle.tm_sets.proofs.Counting.{never}
use Rattle.tm_sets.proofs.Members.{is_triple, present}
use Rattle.tm_sets.proofs.Asking.{picked, passed}
use Rattle.tm_sets.proofs.Finding.{start_walk, start_ahead, at_place, next_walk, go_ahead, visits_less, visits_within}
use Rattle.tm_sets.proofs.Finding.{visits_all, unseen_absent}
use Rattle.tm_sets.proofs.threaded.Directory.find.Goals as goal

pub loop-at-init : goal.loop-at-init
loop-at-init c =
    let head : c.index-at.result.now ≡ get_or c.args.self.now.line_heads.items c.args.line 0 =
    get_or_read c.args.self.now.line_heads.items c.args.line c.index-at.result.now
    (omega (arith, c.requires.line, c.args.self.now.sized.lines))
    c.index-at.ensures 0 in
    record {
      walk = start_walk (rows_of c.args.self.now) c.args.self.now.threaded c.args.line c.requires.line
          c.index-at.result.now head;
      unseen = λ rank top t e o s. start_ahead (rows_of c.args.self.now) c.args.line c.requires.line
          c.index-at.result.now head rank top t e o;
    }

pub visit-entry-requires-clause-below : goal.visit-entry-requires-clause-below
visit-entry-requires-clause-below c =
    let at : c.loop-at.at ≡ c.loop-at.at - 1 + 1 = omega arith in
    omega (arith, (at_place c.loop-at.invariant.walk at).0)

pub visit-entry-requires-clause-few : goal.visit-entry-requires-clause-few
visit-entry-requires-clause-few c =
    let at : c.loop-at.at ≡ c.loop-at.at - 1 + 1 = omega arith in
    omega (arith, visits_within c.loop-at.invariant.walk at, c.args.self.now.few)

pub returns-then-is_use-clause-found : goal.returns-then-is_use-clause-found
returns-then-is_use-clause-found c =
    let at : c.loop-at.at ≡ c.loop-at.at - 1 + 1 = omega arith in
    let here = at_place c.loop-at.invariant.walk at in
    sym (present c.args.self.now.entries.items (c.loop-at.at - 1) c.args.core c.args.kind c.args.line here.0
    (picked c.args.self.now.entries.items c.args.line c.args.core c.args.kind (c.loop-at.at - 1)
    c.visit-entry.result here
    c.visit-entry.ensures.entry (sym c.is_use.ensures ∙ c.if-is_use.true)))

pub returns-then-is_use-clause-visited : goal.returns-then-is_use-clause-visited
returns-then-is_use-clause-visited c =
    let at : c.loop-at.at ≡ c.loop-at.at - 1 + 1 = omega arith in
    omega (arith, visits_less c.loop-at.invariant.walk at, c.visit-entry.ensures.visited)

pub loop-at-smaller : goal.loop-at-smaller
loop-at-smaller c =
    let at : c.loop-at.at ≡ c.loop-at.at - 1 + 1 = omega arith in
    omega (arith, visits_within c.loop-at.invariant.walk at, c.visit-entry.ensures.visited)

pub loop-at-preserved : goal.loop-at-preserved
loop-at-preserved c =
    let at : c.loop-at.at ≡ c.loop-at.at - 1 + 1 = omega arith in
    let es : List Entry = c.args.self.now.entries.items in
    let next : c.visit-entry.result.after_on_line ≡ after_on_line c.args.self.now.entries.items (c.loop-at.at - 1) =
    ap (λ e. e.after_on_line) c.visit-entry.ensures.entry in
    let other : is_triple (entry_at es (c.loop-at.at - 1)) c.args.core c.args.kind c.args.line ≡ false =
    passed es c.args.line c.args.core c.args.kind (c.loop-at.at - 1) c.visit-entry.result c.visit-entry.ensures.entry
    (sym c.is_use.ensures ∙ c.if-is_use.false) in
    record {
      walk = next_walk c.loop-at.invariant.walk at next c.visit-entry.ensures.visited;
      unseen = λ rank top t e o s. go_ahead c.loop-at.invariant.walk at next rank top t e o (λ i.
          never (is_triple (entry_at es e) c.args.core c.args.kind c.args.line) s
          (ap (λ k. is_triple (entry_at es k) c.args.core c.args.kind c.args.line) i ∙ other))
          (c.loop-at.invariant.unseen rank top t e o s);
    }

pub returns-clause-found : goal.returns-clause-found
returns-clause-found c =
    sym (unseen_absent c.loop-at.invariant.walk c.args.core c.args.kind c.loop-at-test.false c.loop-at.invariant.unseen)

pub returns-clause-visited : goal.returns-clause-visited
returns-clause-visited c =
    omega (arith, visits_all c.loop-at.invariant.walk c.loop-at-test.false)

pub returns-clause-none : goal.returns-clause-none
returns-clause-none c = visits_all c.loop-at.invariant.walk c.loop-at-test.false

pub returns-then-is_use-clause-triple : goal.returns-then-is_use-clause-triple
returns-then-is_use-clause-triple c =
    let at : c.loop-at.at ≡ c.loop-at.at - 1 + 1 = omega arith in
    picked c.args.self.now.entries.items c.args.line c.args.core c.args.kind (c.loop-at.at - 1) c.visit-entry.result
    (at_place c.loop-at.invariant.walk at) c.visit-entry.ensures.entry (sym c.is_use.ensures ∙ c.if-is_use.true)
