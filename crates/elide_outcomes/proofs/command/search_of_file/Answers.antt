use Rattle.std.proofs.Common.{ℕ, List, Bool, Bor, not, subst}
use Rattle.std.specs.Option.{option_copied}
use Rattle.tm_outcomes.specs.declared.trial.Item.{Item}
use Rattle.elide_checks.specs.Ends.{AreEndChecks}
use Rattle.elide_outcomes.specs.Items.{AreItems}
use Rattle.std.proofs.lemmas.Result.{err_from_is_err_and}
use Rattle.elide_checks.specs.Refused.{AreNoChecks}
use Rattle.elide_outcomes.specs.Printed.{IsMade, IsSorted}
use Rattle.elide_outcomes.specs.Refused.{AreNoItems, IsNotSearchedBy, no_checks, no_items, no_search, not_loaded}
use Rattle.tm_outcomes.specs.declared.trial.Trial.{Trial}
use Rattle.elide_outcomes.proofs.Trials.{found_of_file}
use Rattle.elide_outcomes.proofs.command.search_of_file.Goals as goal

pub returns : goal.returns
returns g c =
    let asked = c.args.asked.now in
    let options = asked.options.now in
    let text = c.args.text.now in
    let file = c.args.file.now in
    let items = c.in_ok-items.items.items in
    let checks = c.in_ok-ends.ends.checks.items in
    let search = c.in_ok-search.search in
    let sought = subst
    (λ (l : List Item). (trial : Trial) × IsMade c.in_ok-setup.setup l checks asked.under asked.stops.now trial
    × IsSorted trial asked.most search)
    c.as_slice-4.ensures.value c.in_ok-search.ensures in
    let shown = subst (λ (asks : Bool). AreItems file (not asks) (option_copied options.show) items)
    c.asks_more.ensures c.in_ok-items.ensures in
    let checked = subst
    (λ (l : List (Bor (List ℕ))). AreEndChecks text file l options.forbids.items checks) c.as_slice.ensures.value
    (subst (λ (l : List (Bor (List ℕ))). AreEndChecks text file c.as_slice.result.now l checks)
    c.as_slice-2.ensures.value c.in_ok-ends.ensures) in
    found_of_file text file c.args.settings.now asked c.in_ok-setup.setup items checks
    (record { search = search; labels = c.in_ok-labels.labels })
    sought c.in_ok-setup.ensures.setup shown checked c.in_ok-labels.ensures

-- ---- why it is not searched

pub returns-in_err-items : goal.returns-in_err-items
returns-in_err-items g c =
    let p = err_from_is_err_and c.from_residual.result c.from_residual.ensures.1 in
    rw (p.1, p.2)
    (no_items (subst (λ (asks : Bool). AreNoItems c.args.file.now (not asks)
    (option_copied c.args.asked.now.options.now.show) c.in_err-items.field-0.0) c.asks_more.ensures
    c.in_err-items.ensures))

pub returns-in_err-ends : goal.returns-in_err-ends
returns-in_err-ends g c =
    let r = c.from_residual-in_err-ends in
    let p = err_from_is_err_and r.result r.ensures.1 in
    let options = c.args.asked.now.options.now in
    let text = c.args.text.now in
    let file = c.args.file.now in
    rw (p.1, p.2)
    (no_checks
    (subst (λ (l : List (Bor (List ℕ))). AreNoChecks text file l options.forbids.items c.in_err-ends.field-0.0)
    c.as_slice.ensures.value
    (subst (λ (l : List (Bor (List ℕ))). AreNoChecks text file c.as_slice.result.now l c.in_err-ends.field-0.0)
    c.as_slice-2.ensures.value c.in_err-ends.ensures)))

pub returns-in_err-setup : goal.returns-in_err-setup
returns-in_err-setup g c =
    let r = c.from_residual-in_err-setup in
    let p = err_from_is_err_and r.result r.ensures.1 in
    let h = c.in_err-setup.ensures.none in
    rw (p.1, p.2) (not_loaded h.0 h.2 h.1)

pub returns-in_err-search : goal.returns-in_err-search
returns-in_err-search g c =
    let r = c.from_residual-in_err-search in
    let p = err_from_is_err_and r.result r.ensures.1 in
    let asked = c.args.asked.now in
    let options = asked.options.now in
    let text = c.args.text.now in
    let file = c.args.file.now in
    let items = c.in_ok-items.items.items in
    let checks = c.in_ok-ends.ends.checks.items in
    rw (p.1, p.2)
    (no_search c.in_ok-setup.setup c.in_ok-setup.ensures.setup (record {
      items = items;
      checks = checks;
      shown = subst (λ (asks : Bool). AreItems file (not asks) (option_copied options.show) items) c.asks_more.ensures
          c.in_ok-items.ensures;
      checked = subst (λ (l : List (Bor (List ℕ))). AreEndChecks text file l options.forbids.items checks)
          c.as_slice.ensures.value
          (subst (λ (l : List (Bor (List ℕ))). AreEndChecks text file c.as_slice.result.now l checks)
          c.as_slice-2.ensures.value
          c.in_ok-ends.ensures);
      none = subst (λ (l : List Item). IsNotSearchedBy c.in_ok-setup.setup l checks asked.under asked.stops.now
          c.in_err-search.field-0.0)
          c.as_slice-4.ensures.value c.in_err-search.ensures;
    }))
