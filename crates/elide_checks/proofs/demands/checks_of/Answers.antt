use Rattle.std.proofs.Common.{arith, ◌≡◌, ◌++◌, ◌∙◌, ℕ, Bool, List, [], Bor, refl, sym, subst}
use Rattle.std.proofs.lemmas.Bool.{eqb-true}
use Rattle.std.proofs.lemmas.List.{nil_from_length}
use Rattle.std.specs.List.{AllZip}
use Rattle.tm_check.specs.declared.check.Check.{Check}
use Rattle.elide_checks.specs.Checks.{IsDemanded, IsForbidden, IsStopCheck, halt_checks}
use Rattle.elide_checks.specs.Constants.{is_among}
use Rattle.elide_checks.specs.Refused.{none}
use Rattle.elide_checks.proofs.Asked.{joined, no_halt, no_pair, none_left}
use Rattle.elide_checks.proofs.demands.checks_of.Goals as goal

pub returns : goal.returns
returns c =
    let file = c.args.scope.now.file.now in
    let names : List ℕ → Bool = is_among c.args.scope.now.constants.now.names.items in
    let demanded = c.in_ok-add_checks.ensures in
    let forbidden = c.in_ok-add_checks-2.ensures in
    let stops = c.in_ok-add_stops.ensures in
    record {
      demanded = demanded.0;
      forbidden = forbidden.0;
      stops = stops.0;
      whole =
          joined _ _ _ _ _ _ _ _ c.new-checks.ensures.items demanded.1 forbidden.1 stops.1 _ c.in_ok-add_halt.ensures;
      of_demanded =
          subst (λ (l : List (Bor (List ℕ))).
          AllZip (λ (text : Bor (List ℕ)) (check : Check). IsDemanded file names text.now check) l demanded.0)
          c.as_slice.ensures.value demanded.2;
      of_forbidden =
          subst (λ (l : List (Bor (List ℕ))).
          AllZip (λ (text : Bor (List ℕ)) (check : Check). IsForbidden file names text.now check) l forbidden.0)
          c.as_slice-2.ensures.value forbidden.2;
      of_stops =
          subst (λ (l : List (Bor (List ℕ))).
          AllZip (λ (word : Bor (List ℕ)) (check : Check). IsStopCheck word.now check) l stops.0)
          c.as_slice-3.ensures.value stops.2;
    }

pub returns-then-is_empty : goal.returns-then-is_empty
returns-then-is_empty c =
    let demanded = c.in_ok-add_checks.ensures in
    let forbidden = c.in_ok-add_checks-2.ensures in
    let stops = c.in_ok-add_stops.ensures in
    let halt = halt_checks c.args.options.now.expects_halt in
    let whole =
    joined _ _ _ _ _ _ _ _ c.new-checks.ensures.items demanded.1 forbidden.1 stops.1 halt c.in_ok-add_halt.ensures in
    let added = c.add_halt.new.checks in
    let none_in : added.len ≡ 0 = eqb-true added.len 0 (sym c.if-is_empty.ensures) in
    let empty : demanded.0 ++ (forbidden.0 ++ (stops.0 ++ halt)) ≡ [] =
    sym whole ∙ nil_from_length added.items (omega (arith, none_in, added.ok.0)) in
    let first = none_left demanded.0 (forbidden.0 ++ (stops.0 ++ halt)) empty in
    let second = none_left forbidden.0 (stops.0 ++ halt) first.1 in
    let third = none_left stops.0 halt second.1 in
    none (sym c.as_slice.ensures.value ∙ no_pair _ c.as_slice.result.now demanded.0 demanded.2 first.0)
    (sym c.as_slice-2.ensures.value ∙ no_pair _ c.as_slice-2.result.now forbidden.0 forbidden.2 second.0)
    (sym c.as_slice-3.ensures.value ∙ no_pair _ c.as_slice-3.result.now stops.0 stops.2 third.0)
    (no_halt c.args.options.now.expects_halt third.1) refl
