-- What a device that gathers holds after the other one failed.
use Rattle.std.proofs.Common.{◌≡◌, ℕ, List, [], Option, arith, inl, refl}
use Rattle.std.specs.Io.KnownBytes.{Appends, append_known}
use Rattle.std.specs.Prelude.{Result, IsErr}
use Rattle.text_out.specs.Writing.{Writes}
use Rattle.text_out.proofs.Writing.{appends_none, writes_err}
use Rattle.elide_device.specs.Gathering.{told}

-- it holds what it held
kept : (now before after held : Option (List ℕ)) (row row' : List ℕ) (f f' : ℕ) → f ≡ 0 → f' ≡ 1 → row' ≡ row
    → held ≡ now → Appends (told now before f row) (told after held f' row') []
kept now before after held row row' f f' e e' r h = rw (e, e', r, h) (appends_none (append_known now row))

-- nothing of the bytes was written, and a failure was counted
pub nothing_written : {T E : Type 0} (now before after held : Option (List ℕ)) (row row' bytes : List ℕ) (f f' : ℕ)
    (r : Result T E) → IsErr r → f ≡ 0 → f' ≡ 1 → row' ≡ row → held ≡ now →
    Writes (record { contents = told now before f row; failures = f })
    (record { contents = told after held f' row'; failures = f' }) bytes r
nothing_written now before after held row row' bytes f f' r failed e e' s h =
    writes_err bytes r failed (record {
      bytes = ([], bytes, refl, kept now before after held row row' f f' e e' s h);
      failures = inl (omega arith);
    })
