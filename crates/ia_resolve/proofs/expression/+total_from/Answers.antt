use Rattle.std.proofs.Common.{rules, arith}
use Rattle.std.proofs.lemmas.Int.{ints}
use Rattle.ia_resolve.proofs.expression.+total_from.Goals as goal

pub total_from-more-requires : goal.total_from-more-requires
total_from-more-requires g t c κs within =
    let one_less = (c.in-Some.ensures).cases.1 in (
      search rules,
      (
        search rules,
        (
          omega (arith, one_less, c.requires.short),
          (
            omega (arith, ints, one_less, c.requires.short, c.requires.high_low, c.plus.ensures.high_low),
            (
              omega (arith, ints, one_less, c.requires.short, c.requires.high_high, c.plus.ensures.high_high),
              (
                omega (arith, ints, one_less, c.requires.short, c.requires.low_low, c.plus.ensures.low_low),
                omega (arith, ints, one_less, c.requires.short, c.requires.low_high, c.plus.ensures.low_high),
              ),
            ),
          ),
        ),
      ),
    )
