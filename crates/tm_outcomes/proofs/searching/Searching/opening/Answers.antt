use Rattle.std.proofs.Common.{◌≡◌, ◌≤◌, List, None, [], ◌∷◌, ◌++◌, ℕ, false, length, refl, sym, ap, ◌∙◌, subst, arith}
use Rattle.std.specs.Prelude.{All}
use Rattle.std.proofs.lemmas.Bool.{false≢true}
use Rattle.std.proofs.lemmas.List.Elements.{All-nil}
use Rattle.tm_outcomes.specs.Kept.{AreOlder, digest_at}
use Rattle.tm_outcomes.specs.Nodes.{IsEnd, IsStep, IsTree}
use Rattle.tm_outcomes.specs.Outcomes.{AreDistinct, IsTold}
use Rattle.tm_outcomes.specs.Searching.{AreStops, AreViolations}
use Rattle.tm_outcomes.specs.Verdicts.{IsStop, IsViolation}
use Rattle.tm_outcomes.specs.declared.findings.Findings.{Findings}
use Rattle.tm_outcomes.specs.declared.links.Link.{Link}
use Rattle.tm_outcomes.specs.declared.nodes.Node.{Node}
use Rattle.tm_outcomes.specs.declared.searching.Searching.{Searching}
use Rattle.tm_outcomes.specs.declared.stops.ReachedStop.{ReachedStop}
use Rattle.tm_outcomes.specs.declared.table.FoundOutcome.{FoundOutcome}
use Rattle.tm_outcomes.specs.declared.violations.Violation.{Violation}
use Rattle.tm_outcomes.proofs.Kept.{newest_added, newest_none, older_first}
use Rattle.tm_outcomes.proofs.Trees.{first_tree}
use Rattle.tm_outcomes.proofs.searching.Searching.opening.Goals as goal

pub returns-clause-done : goal.returns-clause-done
returns-clause-done c = λ trial.
    let node : Node = record { parent = 0; steps = c.new-6.result; digest = c.args.digest; older = None } in
    let nodes : c.add.new.self.nodes.items ≡ node ∷ [] =
    c.in_ok-add.ensures.nodes ∙ ap (λ (ns : List Node). ns ++ node ∷ []) c.new.ensures.items in
    let links : c.add.new.self.links.items ≡ [] = ap (λ v. v.items) c.in_ok-add.ensures.links ∙ c.new-3.ensures.items in
    let found = c.in_ok-add.ensures.found in
    let outcomes : c.add.new.self.found.outcomes.items ≡ [] =
    ap (λ (f : Findings). f.outcomes.items) found ∙ c.new-5.ensures.outcomes in
    let ends : c.add.new.self.found.ends.items ≡ [] =
    ap (λ (f : Findings). f.ends.items) found ∙ c.new-5.ensures.ends in
    let stops : c.add.new.self.found.stops.items ≡ [] =
    ap (λ (f : Findings). f.stops.items) found ∙ c.new-5.ensures.stops in
    let violations : c.add.new.self.found.violations.items ≡ [] =
    ap (λ (f : Findings). f.violations.items) found ∙ c.new-5.ensures.violations in
    let waited : c.add.new.self.found.waited ≡ false =
    ap (λ (f : Findings). f.waited) found ∙ c.new-5.ensures.waited in (
      [] ∷ [],
      record {
        tree = subst (λ (ns : List Node). IsTree trial ns ([] ∷ [])) (sym nodes) (first_tree trial node);
        steps =
            subst (λ (ls : List Link). All (IsStep trial ([] ∷ [])) ls) (sym links) (All-nil (IsStep trial ([] ∷ [])));
        ends = subst (λ (es : List ℕ). All (IsEnd trial ([] ∷ [])) es) (sym ends) (All-nil (IsEnd trial ([] ∷ [])));
        explored =
            record { followed = λ index below. absurd (omega arith); shown = λ index below. absurd (omega arith) };
        found = record {
          told = subst (λ (os : List FoundOutcome). All (IsTold trial) os) (sym outcomes) (All-nil (IsTold trial));
          once = subst (λ (os : List FoundOutcome). AreDistinct os) (sym outcomes) tt;
          stops = subst (λ (ss : List ReachedStop). AreStops trial ss) (sym stops)
              (record { told = All-nil (IsStop trial); once = λ i j d before below. absurd (omega arith) });
          violations = subst (λ (vs : List Violation). AreViolations trial vs) (sym violations)
              (record { told = All-nil (IsViolation trial); once = λ i j d before below. absurd (omega arith) });
          waited = λ is. absurd (false≢true (sym waited ∙ is));
        };
        few = subst (λ (ns : List Node). length ns ≤ 1) (sym nodes) (omega arith);
      },
    )

pub returns-clause-newest : goal.returns-clause-newest
returns-clause-newest c =
    let node : Node = record { parent = 0; steps = c.new-6.result; digest = c.args.digest; older = None } in
    let before : Searching = record {
      nodes = c.new.result;
      newest = c.new-2.result;
      links = c.new-3.result;
      cores = c.new-4.result;
      found = c.new-5.result;
    } in
    newest_added before c.add.new.self node c.in_ok-add.ensures.nodes c.in_ok-add.ensures.newest
    (newest_none before c.new.ensures.items c.new-2.ensures.empty)

-- the first node alone
first_alone : (nodes before : List Node) (node : Node) → nodes ≡ before ++ node ∷ [] → before ≡ [] → nodes ≡ node ∷ []
first_alone nodes before node added none = added ∙ ap (λ (ns : List Node). ns ++ node ∷ []) none

pub returns-clause-older : goal.returns-clause-older
returns-clause-older c =
    let node : Node = record { parent = 0; steps = c.new-6.result; digest = c.args.digest; older = None } in
    subst (λ (ns : List Node). AreOlder ns)
    (sym (first_alone c.add.new.self.nodes.items c.new.result.items node c.in_ok-add.ensures.nodes c.new.ensures.items))
    (older_first node refl)

pub returns-clause-digest : goal.returns-clause-digest
returns-clause-digest c =
    let node : Node = record { parent = 0; steps = c.new-6.result; digest = c.args.digest; older = None } in
    ap (λ (ns : List Node). digest_at ns 0)
    (first_alone c.add.new.self.nodes.items c.new.result.items node c.in_ok-add.ensures.nodes c.new.ensures.items)
