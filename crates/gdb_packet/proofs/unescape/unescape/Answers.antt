use Rattle.std.proofs.Common.{◌≡◌, Bool, List, ℕ, [], drop, subst, arith}
use Rattle.std.proofs.lemmas.List.{drop_all}
use Rattle.gdb_packet.specs.Packet.{behind, unescaped, unescaped_from}
use Rattle.gdb_packet.proofs.Unescaping.{ends, ends_open}
use Rattle.gdb_packet.proofs.unescape.unescape.Goals as goal

pub returns-then-escapes : goal.returns-then-escapes
returns-then-escapes c =
    let all : drop c.text.index c.args.text.now ≡ [] = drop_all c.text.index c.args.text.now (omega arith) in
    let h =
    subst (λ (l : List ℕ). behind c.text.bytes.items (unescaped_from c.text.escapes l) ≡ unescaped c.args.text.now) all
    c.text.invariant.bytes in
    ends_open c.text.bytes.items c.args.text.now
    (subst (λ (b : Bool). behind c.text.bytes.items (unescaped_from b []) ≡ unescaped c.args.text.now)
    c.if-escapes.true h)

pub returns-else-escapes : goal.returns-else-escapes
returns-else-escapes c =
    let all : drop c.text.index c.args.text.now ≡ [] = drop_all c.text.index c.args.text.now (omega arith) in
    let h =
    subst (λ (l : List ℕ). behind c.text.bytes.items (unescaped_from c.text.escapes l) ≡ unescaped c.args.text.now) all
    c.text.invariant.bytes in
    ends c.text.bytes.items c.args.text.now
    (subst (λ (b : Bool). behind c.text.bytes.items (unescaped_from b []) ≡ unescaped c.args.text.now)
    c.if-escapes.false h)
