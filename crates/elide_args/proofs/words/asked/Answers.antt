use Rattle.std.proofs.Common.{◌≡◌, sym, ap, refl, Some}
use Rattle.std.specs.Prelude.{None, Option, option_map}
use Rattle.clap.specs.Matches.{found_of}
use Rattle.elide_args.proofs.words.asked.Goals as goal

-- a name and what stands beside it
both : {B N R : Type 0} (n : B → N) (r : B → R) (o : Option B) (name : N) (rows : R) → option_map n o ≡ Some name →
    option_map (λ (p : N × R). p.1) (option_map {U = N × R} (λ b. (n b, r b)) o) ≡ Some rows
    → option_map {U = N × R} (λ b. (n b, r b)) o ≡ Some (name, rows)
both n r None name rows h k = absurd (cc)
both n r (Some b) name rows h k = cc

pub returns : goal.returns
returns c = record {
  name = c.in_ok-name.name.now;
  found = found_of c.in_ok-name.options.now;
  met = both _ _ _ _ _ (sym c.in_ok-name.ensures.name) (sym c.in_ok-name.ensures.rows);
  asks = c.in_ok-any_named.ensures;
  color = sym c.get_str.ensures;
  words = sym c.get_str-2.ensures;
}
