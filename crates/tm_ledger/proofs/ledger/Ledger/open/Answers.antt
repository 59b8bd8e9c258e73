use Rattle.std.proofs.Common.{[], length, Some, refl, ap, ◌∙◌, arith, eqb}
use prog.Atomic.{either}
use Rattle.tm_ledger.specs.Rules.{keeper_of, token_of}
use Rattle.tm_ledger.proofs.Moves.{gives_as, keeper_again, opened_as, opens_as, token_again}
use Rattle.tm_ledger.proofs.ledger.Ledger.open.Goals as goal

pub compare_exchange_with-requires : goal.compare_exchange_with-requires
compare_exchange_with-requires g c =
    let i = c.self.invariant in
    (i.2, omega arith, opens_as _ _ _ _ c.args.first.now (λ n. either (eqb n 0) 0 n) i.3)

pub split_seat-seat-requires : goal.split_seat-seat-requires
split_seat-seat-requires g c =
    let i = c.self.invariant in
    let s = c.compare_exchange_with.ensures in
    let opened = opened_as _ _ c.args.first.now i.3 (s.2 c.args.first.now refl) in
    (s.0 ∙ i.2, omega arith, gives_as _ _ _ _ _ opened)

pub invariant_of-self : goal.invariant_of-self
invariant_of-self g c =
    let i = c.self.invariant in
    let s = c.compare_exchange_with.ensures in
    let t = c.split_seat-seat.ensures in
    let opened = opened_as _ _ c.args.first.now i.3 (s.2 c.args.first.now refl) in
    (i.0, i.1, t.0 ∙ s.0 ∙ i.2, keeper_again _ _ (t.2 ∙ ap (λ u. (keeper_of u.0.all, u.1)) opened))

pub invariant_of-result : goal.invariant_of-result
invariant_of-result g c =
    let i = c.self.invariant in
    let s = c.compare_exchange_with.ensures in
    let t = c.split_seat-seat.ensures in
    let opened = opened_as _ _ c.args.first.now i.3 (s.2 c.args.first.now refl) in
    let mine = t.4 ∙ ap (λ u. (token_of u.0.line u.0.progress, [])) opened in
    (t.3 ∙ s.0 ∙ i.2 ∙ i.0, token_again _ _ _ mine, (c.args.first.now, ap (λ u. u.0.progress) mine))

pub returns-clause-token : goal.returns-clause-token
returns-clause-token g c =
    let i = c.self.invariant in
    let s = c.compare_exchange_with.ensures in
    let t = c.split_seat-seat.ensures in
    let opened = opened_as _ _ c.args.first.now i.3 (s.2 c.args.first.now refl) in
    let mine = t.4 ∙ ap (λ u. (token_of u.0.line u.0.progress, [])) opened in
    ap (λ u. (u.0.line, u.0.progress)) mine ∙ ap (λ l. (length l, Some c.args.first.now)) c.self.view_is
