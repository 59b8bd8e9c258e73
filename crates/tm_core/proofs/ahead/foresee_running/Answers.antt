use Rattle.std.proofs.Common.{◌≡◌, ◌∙◌, ◌+◌, ◌≤◌, ℕ, List, false, length, sym, ap, subst, true}
use Rattle.std.specs.Prelude.{IfSome}
use Rattle.ia_word.specs.Width.{bytes_of}
use Rattle.tm_rule.specs.Rule.{load_at, outside_of}
use Rattle.tm_rule.proofs.Facts.{store_within}
use Rattle.tm_model.specs.Access.{loaded_addresses}
use Rattle.tm_model.specs.Fences.{is_fence_at, is_fence_found}
use Rattle.tm_model.specs.Setting.{Setting, outside_at}
use Rattle.tm_model.specs.TwoSteps.{is_in_two_steps, is_unlocked_read_modify_write}
use Rattle.tm_core.specs.Representation.{setting_with}
use Rattle.tm_core.specs.Types.{Begins, Goes, Regs, Stops}
use Rattle.tm_core.proofs.Aheads.{begin_ahead, comes_to, fence_ahead, loads_ahead, stop_ahead, store_ahead}
use Rattle.tm_core.proofs.ahead.foresee_running.Goals as goal

pub returns-then-takes_two_steps : goal.returns-then-takes_two_steps
returns-then-takes_two_steps c content view same =
    let m : List ℕ = c.args.memory.now in
    let code : List ℕ = c.args.code.now.bytes.now in
    let base : ℕ = c.args.code.now.base in
    let s : Regs = c.args.regs.now in
    let k : Setting = setting_with code base (length m) content c.args.most in
    let is : outside_at k view.base m ≡ Goes c.in-Goes.next c.in-Goes.store =
    comes_to code base m content c.args.most view.base s c.load_at-access.result c.load-loaded.result c.outside.result
    same
    (c.load_at-access.ensures.value code base c.standing-row.ensures
    ∙ ap (λ n. load_at code base n c.args.regs.now) c.size-size.ensures) c.load-loaded.ensures
    (c.outside.ensures ∙ ap (λ n. outside_of code base n c.args.regs.now c.load-loaded.result) c.size-size.ensures)
    ∙ c.in-Goes.is in
    let two : k.takes_two_steps view.base ≡ true =
    ap (is_in_two_steps code base) same ∙ sym (ap is_unlocked_read_modify_write c.standing-row.ensures.0)
    ∙ sym c.takes_two_steps.ensures ∙ c.if-takes_two_steps.true in
    loads_ahead k m c.args.pending.now view c.in-Goes.next c.in-Goes.store is two

pub returns-then-waits : goal.returns-then-waits
returns-then-waits c content view same =
    let m : List ℕ = c.args.memory.now in
    let code : List ℕ = c.args.code.now.bytes.now in
    let base : ℕ = c.args.code.now.base in
    let s : Regs = c.args.regs.now in
    let k : Setting = setting_with code base (length m) content c.args.most in
    let is : outside_at k view.base m ≡ Goes c.in-Goes.next c.in-Goes.store =
    comes_to code base m content c.args.most view.base s c.load_at-access.result c.load-loaded.result c.outside.result
    same
    (c.load_at-access.ensures.value code base c.standing-row.ensures
    ∙ ap (λ n. load_at code base n c.args.regs.now) c.size-size.ensures) c.load-loaded.ensures
    (c.outside.ensures ∙ ap (λ n. outside_of code base n c.args.regs.now c.load-loaded.result) c.size-size.ensures)
    ∙ c.in-Goes.is in
    let one : k.takes_two_steps view.base ≡ false =
    ap (is_in_two_steps code base) same ∙ sym (ap is_unlocked_read_modify_write c.standing-row.ensures.0)
    ∙ sym c.takes_two_steps.ensures ∙ c.if-takes_two_steps.false in
    let waits : k.waits view.base ≡ true =
    ap (is_fence_at code base) same ∙ sym (ap is_fence_found c.standing-row.ensures.0) ∙ sym c.waits.ensures
    ∙ c.if-waits.true in
    fence_ahead k m c.args.pending.now view c.in-Goes.next c.in-Goes.store is one waits c.with_none.result
    c.with_none.ensures

pub returns-else-waits : goal.returns-else-waits
returns-else-waits c content view same =
    let m : List ℕ = c.args.memory.now in
    let code : List ℕ = c.args.code.now.bytes.now in
    let base : ℕ = c.args.code.now.base in
    let s : Regs = c.args.regs.now in
    let k : Setting = setting_with code base (length m) content c.args.most in
    let load = c.load_at-access.ensures.value code base c.standing-row.ensures
    ∙ ap (λ n. load_at code base n s) c.size-size.ensures in
    let out = c.outside.ensures ∙ ap (λ n. outside_of code base n s c.load-loaded.result) c.size-size.ensures in
    let is : outside_at k view.base m ≡ Goes c.in-Goes.next c.in-Goes.store =
    comes_to code base m content c.args.most view.base s c.load_at-access.result c.load-loaded.result c.outside.result
    same load c.load-loaded.ensures out ∙ c.in-Goes.is in
    let one : k.takes_two_steps view.base ≡ false =
    ap (is_in_two_steps code base) same ∙ sym (ap is_unlocked_read_modify_write c.standing-row.ensures.0)
    ∙ sym c.takes_two_steps.ensures ∙ c.if-takes_two_steps.false in
    let waits : k.waits view.base ≡ false =
    ap (is_fence_at code base) same ∙ sym (ap is_fence_found c.standing-row.ensures.0) ∙ sym c.waits.ensures
    ∙ c.if-waits.false in
    store_ahead k m c.args.pending.now view c.in-Goes.next c.load_at-access.result c.in-Goes.store is one waits
    (ap (λ r. loaded_addresses (load_at code base (length m) r)) same ∙ ap loaded_addresses (sym load))
    (subst (λ n. IfSome c.load_at-access.result (λ load. load.addr + bytes_of load.width ≤ n)) c.size-size.ensures
    c.load_at-access.ensures.within)
    (store_within code base (length m) s c.load-loaded.result c.in-Goes.next c.in-Goes.store
    (sym out ∙ c.in-Goes.is))
    c.requires.some c.with_room.result c.with_room.ensures.none c.with_room.ensures.room c.with_room.ensures.full

pub returns-in-Begins : goal.returns-in-Begins
returns-in-Begins c content view same =
    let m : List ℕ = c.args.memory.now in
    let code : List ℕ = c.args.code.now.bytes.now in
    let base : ℕ = c.args.code.now.base in
    let k : Setting = setting_with code base (length m) content c.args.most in
    let is : outside_at k view.base m ≡ Begins c.in-Begins._next =
    comes_to code base m content c.args.most view.base c.args.regs.now c.load_at-access.result c.load-loaded.result
    c.outside.result same
    (c.load_at-access.ensures.value code base c.standing-row.ensures
    ∙ ap (λ n. load_at code base n c.args.regs.now) c.size-size.ensures) c.load-loaded.ensures
    (c.outside.ensures ∙ ap (λ n. outside_of code base n c.args.regs.now c.load-loaded.result) c.size-size.ensures)
    ∙ c.in-Begins.is in
    begin_ahead k m c.args.pending.now view c.in-Begins._next is

pub returns-in-Stops : goal.returns-in-Stops
returns-in-Stops c content view same =
    let m : List ℕ = c.args.memory.now in
    let code : List ℕ = c.args.code.now.bytes.now in
    let base : ℕ = c.args.code.now.base in
    let k : Setting = setting_with code base (length m) content c.args.most in
    let is : outside_at k view.base m ≡ Stops c.in-Stops._stop =
    comes_to code base m content c.args.most view.base c.args.regs.now c.load_at-access.result c.load-loaded.result
    c.outside.result same
    (c.load_at-access.ensures.value code base c.standing-row.ensures
    ∙ ap (λ n. load_at code base n c.args.regs.now) c.size-size.ensures) c.load-loaded.ensures
    (c.outside.ensures ∙ ap (λ n. outside_of code base n c.args.regs.now c.load-loaded.result) c.size-size.ensures)
    ∙ c.in-Stops.is in
    stop_ahead k m c.args.pending.now view c.with_none-in-Stops.result c.in-Stops._stop is
    c.with_none-in-Stops.ensures
