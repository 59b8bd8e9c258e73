use Rattle.std.proofs.Common.{subst, sym}
use Rattle.ia_flat.specs.FlatCode.{AreFlats}
use Rattle.machine_tests.proofs.machine.quick.asked.Goals as goal

pub quick_load-load-requires : goal.quick_load-load-requires
quick_load-load-requires g c = c.in-Some.ensures.line c.code-code.result.now
    (subst (λ x. AreFlats x c.lines.result.now) (sym c.code-code.ensures.code) c.lines.ensures.lines)

pub quick-ran-requires : goal.quick-ran-requires
quick-ran-requires g c = c.in-Some.ensures.line c.code-code.result.now
    (subst (λ x. AreFlats x c.lines.result.now) (sym c.code-code.ensures.code) c.lines.ensures.lines)

pub quick_told-told-requires : goal.quick_told-told-requires
quick_told-told-requires g c = c.in-Some.ensures.line c.code-code.result.now
    (subst (λ x. AreFlats x c.lines.result.now) (sym c.code-code.ensures.code) c.lines.ensures.lines)

pub quick_with_value-with_value-requires : goal.quick_with_value-with_value-requires
quick_with_value-with_value-requires g c = c.in-Some.ensures.line c.code-code.result.now
    (subst (λ x. AreFlats x c.lines.result.now) (sym c.code-code.ensures.code) c.lines.ensures.lines)

pub quick_store-store-requires : goal.quick_store-store-requires
quick_store-store-requires g c = c.in-Some.ensures.line c.code-code.result.now
    (subst (λ x. AreFlats x c.lines.result.now) (sym c.code-code.ensures.code) c.lines.ensures.lines)

pub quick_store_told-store_told-requires : goal.quick_store_told-store_told-requires
quick_store_told-store_told-requires g c = c.in-Some.ensures.line c.code-code.result.now
    (subst (λ x. AreFlats x c.lines.result.now) (sym c.code-code.ensures.code) c.lines.ensures.lines)

pub quick_whole-whole-requires : goal.quick_whole-whole-requires
quick_whole-whole-requires g c = c.in-Some.ensures.line c.code-code.result.now
    (subst (λ x. AreFlats x c.lines.result.now) (sym c.code-code.ensures.code) c.lines.ensures.lines)

pub access_of-access-requires : goal.access_of-access-requires
access_of-access-requires g c = (c.in-Some.ensures.line c.code-code.result.now
    (subst (λ x. AreFlats x c.lines.result.now) (sym c.code-code.ensures.code) c.lines.ensures.lines)).well

pub quick_untouched-inside-requires : goal.quick_untouched-inside-requires
quick_untouched-inside-requires g c = (c.in-Some.ensures.line c.code-code.result.now
    (subst (λ x. AreFlats x c.lines.result.now) (sym c.code-code.ensures.code) c.lines.ensures.lines)).well
