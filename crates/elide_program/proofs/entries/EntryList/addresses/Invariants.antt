use Rattle.std.proofs.Common.{Some, map}
use Rattle.std.specs.List.{AllZip}
use Rattle.elide_program.specs.Entries.{IsEntry}
use Rattle.elide_program.proofs.entries.EntryList.addresses.Given as goal

-- each word so far has its address
abbrev pub invariant-loop-word : goal.invariant-loop-word
invariant-loop-word l =
    AllZip (λ word address. IsEntry l.file word (Some address)) (map (λ word. word.now) l.yielded) l.addresses.items
