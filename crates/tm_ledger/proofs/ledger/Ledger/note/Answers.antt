use Rattle.std.proofs.Common.{[], Some, refl, sym, ap, ◌∙◌, arith, eqb}
use prog.Atomic.{either}
use Rattle.std.specs.Prelude.{slice_get}
use Rattle.tm_ledger.specs.Rules.{keeper_of, token_of}
use Rattle.tm_ledger.proofs.Moves.{gives_as, if_some, keeper_again, noted_as, notes_as, taken_as, takes_as, token_again}
use Rattle.tm_ledger.proofs.ledger.Ledger.note.Goals as goal

pub join_seat-requires : goal.join_seat-requires
join_seat-requires g c =
    let i = c.self.invariant in
    let k = c.token.invariant in
    let you = k.1 ∙ ap (λ m. (token_of c.token.inside.seat.me.0.line m, [])) k.2.1 in
    (i.2, k.0 ∙ sym i.0, ap (λ u. u.1) k.1, omega arith, takes_as _ _ _ _ _ _ _ i.3 you)

pub compare_exchange_with-requires : goal.compare_exchange_with-requires
compare_exchange_with-requires g c =
    let i = c.self.invariant in
    let k = c.token.invariant in
    let j = c.join_seat.ensures in
    let held = taken_as _ _ _ _ _ i.3 k.2.1 j.2 in
    (j.0 ∙ i.2, omega arith, notes_as _ _ _ _ _ _ c.args.now.now (λ n. either (eqb n 0) 0 n) held)

pub split_seat-seat-requires : goal.split_seat-seat-requires
split_seat-seat-requires g c =
    let i = c.self.invariant in
    let k = c.token.invariant in
    let j = c.join_seat.ensures in
    let s = c.compare_exchange_with.ensures in
    let noted = noted_as _ _ _ _ _ _ c.args.now.now i.3 k.2.1 j.2 (s.2.1 c.args.now.now refl) in
    (s.0 ∙ j.0 ∙ i.2, omega arith, gives_as _ _ _ _ _ noted)

pub invariant_of-self : goal.invariant_of-self
invariant_of-self g c =
    let i = c.self.invariant in
    let k = c.token.invariant in
    let j = c.join_seat.ensures in
    let s = c.compare_exchange_with.ensures in
    let t = c.split_seat-seat.ensures in
    let noted = noted_as _ _ _ _ _ _ c.args.now.now i.3 k.2.1 j.2 (s.2.1 c.args.now.now refl) in
    (i.0, i.1, t.0 ∙ s.0 ∙ j.0 ∙ i.2, keeper_again _ _ (t.2 ∙ ap (λ u. (keeper_of u.0.all, u.1)) noted))

pub invariant_of-result : goal.invariant_of-result
invariant_of-result g c =
    let i = c.self.invariant in
    let k = c.token.invariant in
    let j = c.join_seat.ensures in
    let s = c.compare_exchange_with.ensures in
    let t = c.split_seat-seat.ensures in
    let noted = noted_as _ _ _ _ _ _ c.args.now.now i.3 k.2.1 j.2 (s.2.1 c.args.now.now refl) in
    let mine = t.4 ∙ ap (λ u. (token_of u.0.line u.0.progress, [])) noted in
    (t.3 ∙ s.0 ∙ j.0 ∙ i.2 ∙ i.0, token_again _ _ _ mine, (c.args.now.now, ap (λ u. u.0.progress) mine))

pub returns-clause-was : goal.returns-clause-was
returns-clause-was g c =
    let j = c.join_seat.ensures in
    let s = c.compare_exchange_with.ensures in
    let was = c.token.view_is in
    let ledger = c.self.view_is in
    if_some c.args.token.1 _ (λ m is.
    let progress = ap (λ u. u.0.progress) j.2 ∙ ap (λ v. v.1) was ∙ is in
    ap (λ l. slice_get l c.args.token.0) (sym (ap (λ u. u.0.all) j.2 ∙ ledger))
    ∙ ap (λ k. slice_get c.join_seat.new.seat.me.0.all k) (sym (ap (λ u. u.0.line) j.2 ∙ ap (λ v. v.0) was))
    ∙ s.2.0 m progress)

pub returns-clause-token : goal.returns-clause-token
returns-clause-token g c =
    let i = c.self.invariant in
    let k = c.token.invariant in
    let j = c.join_seat.ensures in
    let s = c.compare_exchange_with.ensures in
    let t = c.split_seat-seat.ensures in
    let noted = noted_as _ _ _ _ _ _ c.args.now.now i.3 k.2.1 j.2 (s.2.1 c.args.now.now refl) in
    let mine = t.4 ∙ ap (λ u. (token_of u.0.line u.0.progress, [])) noted in
    ap (λ u. (u.0.line, u.0.progress)) mine ∙ ap (λ v. (v.0, Some c.args.now.now)) c.token.view_is
