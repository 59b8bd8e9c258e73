use Rattle.std.proofs.Common.{ℕ, Option, ap, arith, length-take, unwrap_or}
use Rattle.elide_asm.proofs.Lines.{foreign_few}
use Rattle.elide_asm.proofs.listing.write_entry.Goals as goal

pub write_foreign-requires-clause-few : goal.write_foreign-requires-clause-few
write_foreign-requires-clause-few g c =
    omega (
      arith,
      length-take c.from.result c.args.code.now,
      foreign_few c.args.code.now,
      ap (λ (o : Option ℕ). unwrap_or o 1) c.in-Some.ensures.length,
    )
