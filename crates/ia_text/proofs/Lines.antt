-- Listing lines.
use Rattle.std.proofs.Common.{◌≡◌, ℕ, ◌+◌, ◌-◌, ◌%◌, ◌^◌, ◌<◌, ◌≤◌, List, [], ◌∷◌, ◌++◌, refl, sym, ◌∙◌, ap, arith}
use Rattle.std.proofs.Common.{length, length-drop, length-take, drop, take, zero, suc}
use Rattle.std.proofs.lemmas.List.{drop-drop}
use Rattle.text_out.proofs.Writing.{rest_is}
use Rattle.std.proofs.Math.ListN.{drop_of_length-le}
use Rattle.ia_insn.specs.Reading.{decoding_of}
use Rattle.ia_text.specs.Listing.{count_of, line_text, listing_from, listing_line, shown_bytes}

pub line_is : (code : List ℕ) (at : ℕ) → 0 < length code → listing_line code at ≡ line_text (decoding_of code) code at
unfolding listing_line
line_is [] at h = absurd (omega arith)
line_is (byte ∷ bytes) at h = refl

pub shown_is : (code : List ℕ) → 0 < length code → shown_bytes code ≡ count_of (decoding_of code)
unfolding shown_bytes
shown_is [] h = absurd (omega arith)
shown_is (byte ∷ bytes) h = refl

pub no_line : (code : List ℕ) (at : ℕ) → length code ≡ 0 → listing_line code at ≡ []
unfolding listing_line
no_line [] at h = refl
no_line (byte ∷ bytes) at h = absurd (omega arith)

pub none_shown : (code : List ℕ) → length code ≡ 0 → shown_bytes code ≡ 0
unfolding shown_bytes
none_shown [] h = refl
none_shown (byte ∷ bytes) h = absurd (omega arith)

-- what is shown already is passed over
passed : (n : ℕ) (code : List ℕ) (at : ℕ) → at < 2 ^ 32
    → listing_from n code at ≡ listing_from 0 (drop n code) ((at + n) % 2 ^ 32)
unfolding listing_from
passed zero code at h =
    let same : at ≡ (at + 0) % 2 ^ 32 = omega arith in
    ap (listing_from 0 code) same
passed (suc n) [] at h = refl
passed (suc n) (byte ∷ bytes) at h =
    let small : (at + 1) % 2 ^ 32 < 2 ^ 32 = omega arith in
    let same : ((at + 1) % 2 ^ 32 + n) % 2 ^ 32 ≡ (at + suc n) % 2 ^ 32 = omega arith in
    passed n bytes ((at + 1) % 2 ^ 32) small ∙ ap (listing_from 0 (drop n bytes)) same

-- the first line, and then the listing of the rest
pub listing_next : (code : List ℕ) (at shown : ℕ) → at < 2 ^ 32 → shown ≡ shown_bytes code → 0 < shown
    → 0 < length code →
    listing_from 0 code at ≡ listing_line code at ++ listing_from 0 (drop shown code) ((at + shown) % 2 ^ 32)
unfolding listing_from
listing_next [] at shown fits e some h = absurd (omega arith)
listing_next (byte ∷ bytes) at zero fits e some h = absurd (omega arith)
listing_next (byte ∷ bytes) at (suc n) fits e some h =
    let small : (at + 1) % 2 ^ 32 < 2 ^ 32 = omega arith in
    let less : shown_bytes (byte ∷ bytes) - 1 ≡ n = omega arith in
    let same : ((at + 1) % 2 ^ 32 + n) % 2 ^ 32 ≡ (at + suc n) % 2 ^ 32 = omega arith in
    ap (λ k. listing_line (byte ∷ bytes) at ++ listing_from k bytes ((at + 1) % 2 ^ 32)) less
    ∙ ap (λ l. listing_line (byte ∷ bytes) at ++ l)
    (passed n bytes ((at + 1) % 2 ^ 32) small ∙ ap (listing_from 0 (drop n bytes)) same)

pub listing_end : (code : List ℕ) (at place : ℕ) → length code ≤ place → listing_from 0 (drop place code) at ≡ []
unfolding listing_from
listing_end code at place h = ap (λ l. listing_from 0 l at) (drop_of_length-le code h)

-- the same at a place in the code, in the words of the loop
pub listing_step : (code : List ℕ) (place at shown next step : ℕ) → place < length code → at < 2 ^ 32 →
    shown ≡ shown_bytes (take (length code - place) (drop place code)) → 0 < shown → next ≡ shown → step ≡ shown →
    listing_from 0 (drop place code) at
    ≡ listing_line (take (length code - place) (drop place code)) at
    ++ listing_from 0 (drop (place + next) code) ((at + step) % 2 ^ 32)
listing_step code place at shown next step inside fits e some same_next same_step =
    let rest : take (length code - place) (drop place code) ≡ drop place code = rest_is code place (omega arith) in
    let long : 0 < length (drop place code) = omega (arith, length-drop place code) in
    let counted : shown ≡ shown_bytes (drop place code) = e ∙ ap shown_bytes rest in
    listing_next (drop place code) at shown fits counted some long
    ∙ ap (λ l. listing_line (drop place code) at ++ listing_from 0 l ((at + shown) % 2 ^ 32))
    (drop-drop shown place code)
    ∙ ap (λ k. listing_line (drop place code) at ++ listing_from 0 (drop (place + k) code) ((at + shown) % 2 ^ 32))
    (sym same_next)
    ∙ ap (λ k. listing_line (drop place code) at ++ listing_from 0 (drop (place + next) code) ((at + k) % 2 ^ 32))
    (sym same_step)
    ∙ ap (λ l. listing_line l at ++ listing_from 0 (drop (place + next) code) ((at + step) % 2 ^ 32)) (sym rest)

pub place_inside : (code : List ℕ) (place shown next : ℕ) → place < length code
    → shown ≤ length (take (length code - place) (drop place code)) → next ≡ shown → place + next ≤ length code
place_inside code place shown next inside within same =
    omega (arith, length-take (length code - place) (drop place code), length-drop place code)

-- of no bytes nothing is written
pub ruleset no_bytes = (no_line, none_shown)
