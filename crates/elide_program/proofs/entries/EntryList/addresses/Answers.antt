use Rattle.std.proofs.Common.{lit<, sym, subst, length, Some}
use Rattle.std.proofs.lemmas.Iterator.Consumers.{YieldsList-end, YieldsList-turn}
use Rattle.std.proofs.lemmas.Iterator.Splits.{YieldsList-from_str_split}
use Rattle.std.proofs.lemmas.Result.{err_from_is_err_and}
use Rattle.std.specs.List.{AllZip}
use Rattle.elide_program.specs.Entries.{IsEntry}
use Rattle.elide_program.specs.Refusals.{no_symbol}
use Rattle.elide_program.proofs.EntrySteps.{one_entry}
use Rattle.elide_program.proofs.entries.EntryList.addresses.Goals as goal

pub loop-word-preserved : goal.loop-word-preserved
loop-word-preserved c =
    one_entry c.args.file.now c.loop-word.yielded c.in-Some.word _ _ _ c.loop-word.invariant c.in_ok-address.ensures
    c.in_ok-add.ensures

pub returns-clause-entries : goal.returns-clause-entries
returns-clause-entries c =
    let end = YieldsList-end (YieldsList-from_str_split 44 c.args.self.text.now (lit< tt) (cc) (cc) (cc))
    c.loop-word.yielded _ c.loop-word.yielded_by _ _ c.in-None.is c.next.ensures.steps in
    subst
    (λ words. AllZip (λ word address. IsEntry c.args.file.now word (Some address)) words c.loop-word.addresses.items)
    end.0 c.loop-word.invariant

pub returns-in_err-address-clause-none : goal.returns-in_err-address-clause-none
returns-in_err-address-clause-none c cores =
    let turn = YieldsList-turn (YieldsList-from_str_split 44 c.args.self.text.now (lit< tt) (cc) (cc) (cc))
    c.loop-word.yielded _ c.loop-word.yielded_by _ _ c.in-Some.word c.in-Some.is c.next.ensures.steps in
    let p = err_from_is_err_and c.from_residual.result c.from_residual.ensures.1 in
    rw (p.1, p.2)
    (no_symbol c.in-Some.word.now (length c.loop-word.yielded, turn.0, sym turn.1) c.in_err-address.ensures.0
    c.in_err-address.ensures.1)
