use Rattle.std.proofs.Common.{◌≡◌, ◌∙◌, ℕ, List, length, sym, ap}
use Rattle.tm_rule.specs.Rule.{outside_of}
use Rattle.tm_rule.proofs.Facts.{store_within}
use Rattle.tm_core.specs.Representation.{setting_with}
use Rattle.tm_core.specs.Types.{Begins, Goes, Stops}
use Rattle.tm_model.specs.Setting.{Setting}
use Rattle.tm_core.proofs.Aheads.{second_ahead, second_begins, second_stops}
use Rattle.tm_core.proofs.ahead.foresee_mid.Goals as goal

pub returns-in-Goes : goal.returns-in-Goes
returns-in-Goes c content view same kept =
    let m : List ℕ = c.args.memory.now in
    let code : List ℕ = c.args.code.now.bytes.now in
    let base : ℕ = c.args.code.now.base in
    let k : Setting = setting_with code base (length m) content c.args.most in
    let is : k.outside view.base view.kept ≡ Goes c.in-Goes.next c.in-Goes.store =
    (λ i. outside_of code base (length m) (same i) (kept i))
    ∙ ap (λ n. outside_of code base n c.args.cpu.now.base c.args.cpu.now.kept) (sym c.size-size.ensures)
    ∙ sym c.outside.ensures ∙ c.in-Goes.is in
    second_ahead k m c.args.pending.now view c.in-Goes.next c.in-Goes.store is
    (store_within code base (length m) c.args.cpu.now.base c.args.cpu.now.kept c.in-Goes.next c.in-Goes.store
    (ap (λ n. outside_of code base n c.args.cpu.now.base c.args.cpu.now.kept) (sym c.size-size.ensures)
    ∙ sym c.outside.ensures ∙ c.in-Goes.is))
    c.requires.some c.with_room.result c.with_room.ensures.none c.with_room.ensures.room c.with_room.ensures.full

pub returns-in-Begins : goal.returns-in-Begins
returns-in-Begins c content view same kept =
    let m : List ℕ = c.args.memory.now in
    let code : List ℕ = c.args.code.now.bytes.now in
    let base : ℕ = c.args.code.now.base in
    let k : Setting = setting_with code base (length m) content c.args.most in
    let is : k.outside view.base view.kept ≡ Begins c.in-Begins._regs =
    (λ i. outside_of code base (length m) (same i) (kept i))
    ∙ ap (λ n. outside_of code base n c.args.cpu.now.base c.args.cpu.now.kept) (sym c.size-size.ensures)
    ∙ sym c.outside.ensures ∙ c.in-Begins.is in
    second_begins k m c.args.pending.now view c.in-Begins._regs is

pub returns-in-Stops : goal.returns-in-Stops
returns-in-Stops c content view same kept =
    let m : List ℕ = c.args.memory.now in
    let code : List ℕ = c.args.code.now.bytes.now in
    let base : ℕ = c.args.code.now.base in
    let k : Setting = setting_with code base (length m) content c.args.most in
    let is : k.outside view.base view.kept ≡ Stops c.in-Stops._stop =
    (λ i. outside_of code base (length m) (same i) (kept i))
    ∙ ap (λ n. outside_of code base n c.args.cpu.now.base c.args.cpu.now.kept) (sym c.size-size.ensures)
    ∙ sym c.outside.ensures ∙ c.in-Stops.is in
    second_stops k m c.args.pending.now view c.in-Stops._stop is
