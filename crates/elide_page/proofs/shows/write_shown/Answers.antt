use Rattle.std.proofs.Common.{◌≡◌, ◌∙◌, ℕ, ◌+◌, Bool, false, List, [], ◌∷◌, ◌++◌, ap, subst, sym, take}
use Rattle.std.proofs.lemmas.List.{take_more}
use Rattle.std.specs.Prelude.{slice_index_or}
use Rattle.text_out.proofs.Writing.{wrote_then}
use Rattle.text_out.specs.Writing.{Wrote}
use Rattle.page_text.specs.Commas.{comma_if}
use Rattle.elide_page.specs.Fronts.{shown_text, shows_text}
use Rattle.elide_page.specs.declared.shows.Shown.{Shown}
use Rattle.elide_page.proofs.Listing.{shows_and, some_shown, some_then}
use Rattle.elide_page.proofs.shows.write_shown.Goals as goal

pub loop-shown-preserved : goal.loop-shown-preserved
loop-shown-preserved g c =
    let list : List Shown = c.args.list.now in
    let i = c.loop-shown.shown-index in
    let none : Shown = record { name = record { ref_ptr = (0, 0); now = [] }; address = 0 } in
    let shown : Shown = slice_index_or list i none in
    let more : take (i + 1) list ≡ take i list ++ shown ∷ [] = take_more list i none c.loop-shown-test.true in
    let front : List ℕ = shows_text false (take i list) in
    let text : front ++ (comma_if c.loop-shown.some ++ shown_text shown) ≡ shows_text false (take (i + 1) list) =
    ap (λ (some : Bool). front ++ (comma_if some ++ shown_text shown)) c.loop-shown.invariant.some
    ∙ sym (shows_and false (take i list) shown) ∙ ap (shows_text false) (sym more) in
    record {
      wrote = subst (λ (t : List ℕ). Wrote (g.O.Out.device c.args.out.now) (g.O.Out.device c.write_one.new.out) t) text
          (wrote_then c.loop-shown.invariant.wrote (wrote_then c.in_ok-write_comma.ensures c.in_ok-write_one.ensures));
      some = sym (some_then false (take i list) shown) ∙ ap (some_shown false) (sym more);
    }
