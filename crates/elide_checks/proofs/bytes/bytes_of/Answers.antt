use Rattle.std.proofs.Common.{rules, ◌∙◌, ap, Some, sym}
use Rattle.elide_checks.specs.Misread.{no_colon, no_count, no_place, not_many}
use Rattle.elide_checks.proofs.bytes.bytes_of.Goals as goal

pub returns-in_default-cut : goal.returns-in_default-cut
returns-in_default-cut c =
    no_colon c.in-Some.place.now c.in-Some.digits.now c.in-Some.ensures.some c.in_default-cut.ensures.none

pub returns-in_default-sum_of : goal.returns-in_default-sum_of
returns-in_default-sum_of c =
    no_place c.in-Some-cut.at.now c.in-Some-cut.count.now c.in-Some.digits.now
    (record { front = c.in-Some.place.now; behind = c.in-Some.ensures.some; before = c.in-Some-cut.ensures.some })
    c.in_default-sum_of.ensures

pub returns-in_default-number_of : goal.returns-in_default-number_of
returns-in_default-number_of c =
    no_count c.in-Some-cut.at.now c.in-Some-cut.count.now c.in-Some.digits.now
    (record { front = c.in-Some.place.now; behind = c.in-Some.ensures.some; before = c.in-Some-cut.ensures.some })
    (rw (← c.trim.ensures.trim) c.in_default-number_of.ensures.0)

pub returns-in-None : goal.returns-in-None
returns-in-None c =
    not_many c.in-Some-cut.at.now c.in-Some-cut.count.now c.in-Some.digits.now _
    (record { front = c.in-Some.place.now; behind = c.in-Some.ensures.some; before = c.in-Some-cut.ensures.some })
    (rw (← c.trim.ensures.trim) c.in-Ok.ensures) (rw c.in-None.is at c.in_ok-bytes.ensures)

pub returns-in-Some-2 : goal.returns-in-Some-2
returns-in-Some-2 c =
    let found = rw c.in-Some-2.is at c.in_ok-bytes.ensures in
    record {
      place = c.in-Some-cut.at.now;
      count = c.in-Some-cut.count.now;
      digits = c.in-Some.digits.now;
      pieces =
          record { front = c.in-Some.place.now; behind = c.in-Some.ensures.some; before = c.in-Some-cut.ensures.some };
      at = search rules;
      many = rw (← c.trim.ensures.trim) (c.in-Ok.ensures ∙ ap Some (sym found.0));
      are = found.1;
    }
