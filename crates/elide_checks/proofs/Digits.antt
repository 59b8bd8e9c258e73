-- Digits that are not so many bytes.
use Rattle.std.proofs.Common.{◌≡◌, ◌≢◌, ◌∙◌, ◌*◌, ℕ, List, [], ◌∷◌, Result, Ok, Err, ap, length, refl, sym}
use Rattle.std.specs.Prelude.{MatchResult}
use Rattle.hex.proofs.HexLemmas.{decode_of-ok, decode_sized-twice}
use Rattle.hex.specs.Hex.{decode_of, decode_sized}
use Rattle.hex.specs.declared.error.FromHexError.{FromHexError}
use Rattle.elide_checks.specs.Misread.{AreNotMany}

-- digits that are not twice as many
pub not_twice : (digits : List ℕ) (many : ℕ) → length digits ≢ 2 * many → AreNotMany many digits
not_twice digits many other bytes good same = other ((decode_of-ok digits bytes good).2 ∙ ap (λ (n : ℕ). 2 * n) same)

-- or that do not decode into their room
undecoded : (digits : List ℕ) (many : ℕ) (why : FromHexError) → decode_sized digits many ≡ Err why
    → AreNotMany many digits
undecoded digits many why bad bytes good same =
    let long : length digits ≡ 2 * many = (decode_of-ok digits bytes good).2 ∙ ap (λ (n : ℕ). 2 * n) same in
    let both : Ok bytes ≡ Err why = sym good ∙ sym (decode_sized-twice digits many long) ∙ bad in
    absurd (cc both)

refused : {U : Type 0} (digits new : List ℕ) (many : ℕ) (unit : U) (sized : Result (List ℕ) FromHexError)
    (result : Result U FromHexError)
    (why : FromHexError) → decode_sized digits many ≡ sized →
    MatchResult sized (λ bytes. (result ≡ Ok unit) × (new ≡ bytes)) (λ e. result ≡ Err e) → result ≡ Err why
    → AreNotMany many digits
refused digits new many unit (Ok bytes) result why is told bad =
    let both : Ok unit ≡ Err why = sym told.0 ∙ bad in
    absurd (cc both)
refused digits new many unit (Err e) result why is told bad = undecoded digits many e is

-- as a call tells it
pub not_decoded : {U : Type 0} (digits new : List ℕ) (many : ℕ) (unit : U) (result : Result U FromHexError)
    (why : FromHexError) →
    MatchResult (decode_sized digits many) (λ bytes. (result ≡ Ok unit) × (new ≡ bytes)) (λ e. result ≡ Err e)
    → result ≡ Err why →
    AreNotMany many digits
not_decoded digits new many unit result why told bad =
    refused digits new many unit (decode_sized digits many) result why refl told bad

-- one byte
pub no_byte : (digits : List ℕ) → AreNotMany 1 digits → (byte : ℕ) → decode_of digits ≢ Ok (byte ∷ [])
no_byte digits none byte good = none (byte ∷ []) good refl
