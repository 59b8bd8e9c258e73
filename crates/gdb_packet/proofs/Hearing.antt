-- One byte more of a packet that has begun.
use Rattle.std.proofs.Common.{◌≡◌, ◌≢◌, ℕ, Bool, true, false, List, [], ◌∷◌, ◌++◌, sym, ◌∙◌, ap, length, append_assoc}
use Rattle.std.proofs.Common.{arith}
use Rattle.std.proofs.lemmas.List.{length-append}
use Rattle.std.proofs.lemmas.List.Elements.{All-append, All-cons, All-nil}
use Rattle.gdb_packet.specs.Reading.{HasNoHash, HasText, IsKept}

-- a byte behind the text
pub end_more : (long : Bool) (kept end since : List ℕ) (b : ℕ) → HasText long kept end since
    → HasText long kept (end ++ b ∷ []) (since ++ b ∷ [])
end_more long kept end since b h = record {
  text = h.text;
  is_kept = h.is_kept;
  has_no_hash = h.has_no_hash;
  bytes = ap (λ l. l ++ b ∷ []) h.bytes ∙ append_assoc (36 ∷ h.text) end (b ∷ []);
}

no_hash_more : (text : List ℕ) (b : ℕ) → b ≢ 35 → HasNoHash text → HasNoHash (text ++ b ∷ [])
no_hash_more text b ne h =
    let P : ℕ → Type 0 = λ x. x ≢ 35 in
    All-append P text (b ∷ []) h (All-cons P b [] ne (All-nil P))

kept_more : (long : Bool) (kept text : List ℕ) (b : ℕ) → IsKept long kept text
    → IsKept long (kept ++ b ∷ []) (text ++ b ∷ [])
kept_more false kept text b h = ap (λ l. l ++ b ∷ []) h
kept_more true kept text b h = omega (arith, length-append text (b ∷ []))

too_many : (long : Bool) (kept text : List ℕ) (b : ℕ) → length kept ≡ 16384 → IsKept long kept text
    → IsKept true kept (text ++ b ∷ [])
too_many false kept text b full h = omega (arith, length-append text (b ∷ []), ap length h)
too_many true kept text b full h = omega (arith, length-append text (b ∷ []))

bytes_more : (text since : List ℕ) (b : ℕ) → since ≡ 36 ∷ text ++ [] → since ++ b ∷ [] ≡ 36 ∷ (text ++ b ∷ []) ++ []
bytes_more text since b h =
    ap (λ l. l ++ b ∷ []) h ∙ append_assoc (36 ∷ text) [] (b ∷ []) ∙ sym (append_assoc (36 ∷ text) (b ∷ []) [])

-- a byte of the text that is kept
pub text_more : (long : Bool) (kept since : List ℕ) (b : ℕ) → b ≢ 35 → HasText long kept [] since
    → HasText long (kept ++ b ∷ []) [] (since ++ b ∷ [])
text_more long kept since b ne h = record {
  text = h.text ++ b ∷ [];
  is_kept = kept_more long kept h.text b h.is_kept;
  has_no_hash = no_hash_more h.text b ne h.has_no_hash;
  bytes = bytes_more h.text since b h.bytes;
}

-- a byte of the text that has no room
pub text_over : (long : Bool) (kept since : List ℕ) (b : ℕ) → length kept ≡ 16384 → b ≢ 35 → HasText long kept [] since
    → HasText true kept [] (since ++ b ∷ [])
text_over long kept since b full ne h = record {
  text = h.text ++ b ∷ [];
  is_kept = too_many long kept h.text b full h.is_kept;
  has_no_hash = no_hash_more h.text b ne h.has_no_hash;
  bytes = bytes_more h.text since b h.bytes;
}
