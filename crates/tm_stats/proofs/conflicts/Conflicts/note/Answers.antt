use Rattle.std.proofs.Common.{nat_eq, BuildHasherDefault, FoldHasher}
use Rattle.tm_stats.specs.contracts.conflicts.ConflictPartialEq.TheImpl as hits
use Rattle.tm_stats.proofs.Hits.{hits_told}
use Rattle.tm_stats.proofs.conflicts.Conflicts.note.Goals as goal

pub returns-clause-ok : goal.returns-clause-ok
returns-clause-ok c = λ told few are. record {
  lines =
      hits_told {S = BuildHasherDefault FoldHasher} nat_eq (λ hit. hit.line) c.args.self.now.lines
      c.reserve.new.self c.add_one.new.tally c.args.conflict told few c.reserve.ensures.entries are.lines
      c.add_one.ensures;
  pairs =
      hits_told {S = BuildHasherDefault FoldHasher} ((hits.ghosts).eq) (λ hit. hit) c.args.self.now.pairs
      c.reserve-2.new.self c.add_one-2.new.tally c.args.conflict told few c.reserve-2.ensures.entries are.pairs
      c.add_one-2.ensures;
}
