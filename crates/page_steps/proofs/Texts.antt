-- Texts that are written one behind the other.
use Rattle.std.proofs.Common.{◌≡◌, ◌∙◌, ℕ, List, [], ◌∷◌, ◌++◌, sym, ap, refl, append_assoc, append-nil}
use Rattle.std.proofs.lemmas.Result.{on_ok_weaker}
use Rattle.std.specs.List.{flat_map, join_with_byte}
use Rattle.std.specs.Prelude.{OnOk, Result, Ok, Err, map}
use Rattle.text_out.proofs.Writing.{wrote_then}
use Rattle.text_out.specs.Writing.{Device, Writes, Wrote}
use Rattle.page_steps.specs.Stored.{joint_text, more_text}
use Rattle.page_steps.specs.Types.{StoredByte}

-- the first was written, and the second where a call is `Ok`
pub then_on_ok : {T E : Type 0} {a b : Device} {x : List ℕ} (c : Device) (y : List ℕ) (r : Result T E) →
    Wrote a b x → OnOk r (Wrote b c y) → OnOk r (Wrote a c (x ++ y))
then_on_ok {T} {E} {a} {b} {x} c y r h k = on_ok_weaker r (λ (w : Wrote b c y). wrote_then h w) k

-- what a call that may stop writes where it is `Ok`
pub written_on_ok : {T E : Type 0} (a b : Device) (x : List ℕ) (r : Result T E) → Writes a b x r → OnOk r (Wrote a b x)
written_on_ok a b x (Ok done) h = h
written_on_ok a b x (Err failed) h = tt

-- a list with a byte between, by its first element
pub joined_first : {A : Type 0} (f : A → List ℕ) (byte : ℕ) (first : A) (rest : List A) →
    join_with_byte byte (map f (first ∷ rest)) ≡ f first ++ flat_map (λ x. byte ∷ f x) rest
joined_first f byte first [] = sym (append-nil (f first))
joined_first f byte first (next ∷ rest) = ap (λ l. f first ++ byte ∷ l) (joined_first f byte next rest)

-- ---- bytes that were stored

-- the last of some bytes behind a first one
abbrev pub last_of : StoredByte → List StoredByte → StoredByte
last_of first [] = first
last_of first (byte ∷ bytes) = last_of byte bytes

-- one byte more
pub more_and : (first : StoredByte) (bytes : List StoredByte) (byte : StoredByte) →
    more_text first (bytes ++ byte ∷ []) ≡ more_text first bytes ++ joint_text (last_of first bytes) byte
more_and first [] byte = append-nil (joint_text first byte)
more_and first (next ∷ bytes) byte =
    ap (λ t. joint_text first next ++ t) (more_and next bytes byte)
    ∙ sym (append_assoc (joint_text first next) (more_text next bytes) (joint_text (last_of next bytes) byte))

pub last_and : (first : StoredByte) (bytes : List StoredByte) (byte : StoredByte)
    → last_of first (bytes ++ byte ∷ []) ≡ byte
last_and first [] byte = refl
last_and first (next ∷ bytes) byte = last_and next bytes byte
