use Rattle.std.proofs.Common.{◌≡◌, ◌+◌, ◌*◌, ◌<◌, ◌%◌, ℕ, arith, below_more, false, refl, subst, sym, ◌∙◌}
use Rattle.std.proofs.lemmas.Nat.{div-add-mod'}
use Rattle.tm_stats.specs.OpenBytes.{hits_byte}
use Rattle.tm_stats.proofs.open_bytes.OpenBytes.is_apart.Goals as goal

pub loop-place-preserved : goal.loop-place-preserved
loop-place-preserved c = (
  omega arith,
  λ earlier other own its.
      below_more (λ place. hits_byte c.args.step earlier other (c.from-first.result * 64 + place) ≡ false)
      c.loop-place.place
      (c.loop-place.invariant.1 earlier other own its)
      (sym (c.hits_byte.ensures earlier other own its) ∙ c.if-hits_byte.false),
)

-- a byte of the line is the line's first with a place below 64
pub returns : goal.returns
returns c = λ earlier other own its. (
  λ _ address on_line.
      let place : ℕ = address % 64 in
      let below : place < c.loop-place.place = omega arith in
      let whole : c.from-first.result * 64 + place ≡ address = omega (arith, div-add-mod' address 64) in
      subst (λ byte. hits_byte c.args.step earlier other byte ≡ false) whole
      (c.loop-place.invariant.1 earlier other own its place below),
  λ _. refl,
)
