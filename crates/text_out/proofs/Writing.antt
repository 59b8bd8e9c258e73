-- A text that is written in parts.
use Rattle.std.proofs.Common.{◌≡◌, ℕ, ◌<◌, ◌∙◌, sym, ap, arith, List, [], ◌∷◌, ◌++◌, Option, Some, None, refl}
use Rattle.std.proofs.Common.{append_assoc, append-nil, inl, inr, subst, take, drop, length, ◌+◌, ◌≤◌, ◌-◌, ◌^◌, min}
use Rattle.std.proofs.Common.{take-add, get_or, drop-cons, suc}
use Rattle.std.proofs.lemmas.Grind.{common_steps}
use Rattle.std.specs.Io.KnownBytes.{Appends, Keeps}
use Rattle.std.specs.Prelude.{Result, IsErr, flat_map}
use Rattle.std.proofs.lemmas.List.{take-append-drop}
use Rattle.std.proofs.lemmas.Grind.{flat_map-append}
use Rattle.std.proofs.lemmas.Result.{MatchResult-weaker, MatchResult-from_err}
use Rattle.text_out.specs.Writing.{Device, Rose, Ahead, Making, Wrote, Stopped, Writes}

pub appends_none : (a : Option (List ℕ)) → Appends a a []
appends_none None = tt
appends_none (Some xs) = sym (append-nil xs)

-- bytes that stay grow by nothing
pub appends_same : (a b : Option (List ℕ)) → Keeps a b → Appends a b []
appends_same None b h = tt
appends_same (Some xs) None h = absurd h
appends_same (Some xs) (Some ys) h = h ∙ sym (append-nil xs)

pub appends_then : (a b c : Option (List ℕ)) (x y : List ℕ) → Appends a b x → Appends b c y → Appends a c (x ++ y)
appends_then None b c x y h k = tt
appends_then (Some xs) None c x y h k = absurd h
appends_then (Some xs) (Some ys) None x y h k = absurd k
appends_then (Some xs) (Some ys) (Some zs) x y h k = k ∙ ap (λ l. l ++ y) h ∙ append_assoc xs x y

-- the bytes up to `at`, and then some after them
pub appends_more : (a b c : Option (List ℕ)) (xs rest : List ℕ) (at n : ℕ) → rest ≡ drop at xs →
    Appends a b (take at xs) → Appends b c (take n rest) → Appends a c (take (at + n) xs)
appends_more a b c xs rest at n e h k =
    let P : List ℕ → Type 0 = λ l. Appends a c l in
    let same : take at xs ++ take n rest ≡ take (at + n) xs =
    ap (λ l. take at xs ++ take n l) e ∙ sym (take-add at n xs) in
    subst P same (appends_then a b c (take at xs) (take n rest) h k)

-- no more bytes after the first part
pub appends_stay : (a b c : Option (List ℕ)) (xs rest : List ℕ) (n : ℕ) → n ≡ 0 → Appends a b xs
    → Appends b c (take n rest) → Appends a c xs
appends_stay a b c xs rest n e h k =
    let P : List ℕ → Type 0 = λ l. Appends a c l in
    let same : xs ++ take n rest ≡ xs = ap (λ m. xs ++ take m rest) e ∙ append-nil xs in
    subst P same (appends_then a b c xs (take n rest) h k)

pub rest_is : (xs : List ℕ) (at : ℕ) → at ≤ length xs → take (length xs - at) (drop at xs) ≡ drop at xs
rest_is xs at h = grind (arith, common_steps)

pub rest_long : (xs : List ℕ) (at : ℕ) → at ≤ length xs → length (take (length xs - at) (drop at xs)) + at ≡ length xs
rest_long xs at h = grind (arith, common_steps)

pub rose_counted : (n m k : ℕ) → n < 2 ^ 64 → m ≡ n → k ≡ min (m + 1) (2 ^ 64 - 1) → Rose n k
rose_counted n m k fits e h = grind arith

-- nothing was written yet
pub wrote_none : (a : Device) → Wrote a a []
wrote_none a = record { bytes = appends_none a.contents; failures = refl }

pub wrote_then : {a b c : Device} {x y : List ℕ} → Wrote a b x → Wrote b c y → Wrote a c (x ++ y)
wrote_then {a} {b} {c} {x} {y} h k = record {
  bytes = appends_then a.contents b.contents c.contents x y h.bytes k.bytes;
  failures = k.failures ∙ h.failures;
}

rose_then : {a b c : ℕ} → b ≡ a → Rose b c → Rose a c
rose_then e (inl lt) = inl (omega arith)
rose_then e (inr top) = inr top

-- the first part was written, and then a beginning of the second
pub stopped_then : {a b c : Device} {x y : List ℕ} → Wrote a b x → Stopped b c y → Stopped a c (x ++ y)
stopped_then {a} {b} {c} {x} {y} h k = record {
  bytes = (
    x ++ k.bytes.0,
    k.bytes.1,
    ap (λ l. x ++ l) k.bytes.2 ∙ sym (append_assoc x k.bytes.0 k.bytes.1),
    appends_then a.contents b.contents c.contents x k.bytes.0 h.bytes k.bytes.3,
  );
  failures = rose_then h.failures k.failures;
}

-- a beginning of the first part is one of the whole
pub stopped_first : {a b : Device} {x : List ℕ} (y : List ℕ) → Stopped a b x → Stopped a b (x ++ y)
stopped_first {a} {b} {x} y k = record {
  bytes = (k.bytes.0, k.bytes.1 ++ y, ap (λ l. l ++ y) k.bytes.2 ∙ append_assoc k.bytes.0 k.bytes.1 y, k.bytes.3);
  failures = k.failures;
}

-- a call whose first part was written, and whose second returned r
pub writes_then : {T E : Type 0} {a b : Device} {x : List ℕ} (c : Device) (y : List ℕ) (r : Result T E) → Wrote a b x
    → Writes b c y r → Writes a c (x ++ y) r
writes_then {T} {E} {a} {b} {x} c y r h k =
    MatchResult-weaker r {P = λ _. Wrote b c y} {P' = λ _. Wrote a c (x ++ y)} {Q = λ _. Stopped b c y}
    {Q' = λ _. Stopped a c (x ++ y)} k
    (λ _ done. wrote_then h done) (λ _ stopped. stopped_then h stopped)

-- a call that returns an `Err` where its first part stopped
pub writes_stopped : {T E : Type 0} {a b : Device} {x : List ℕ} (y : List ℕ) (r : Result T E) → IsErr r → Stopped a b x
    → Writes a b (x ++ y) r
writes_stopped {T} {E} {a} {b} {x} y r failed k =
    MatchResult-from_err r (λ _. Wrote a b (x ++ y)) (λ _. Stopped a b (x ++ y)) failed (λ _. stopped_first y k)

-- a text of one part for each element: the parts before i were written, and a beginning of the part at i
pub stopped_within : {a b c : Device} (f : ℕ → List ℕ) (xs : List ℕ) (i : ℕ) → i < length xs
    → Wrote a b (flat_map f (take i xs)) → Stopped b c (f (get_or xs i 0)) → Stopped a c (flat_map f xs)
stopped_within {a} {b} {c} f xs i within h k =
    let P : List ℕ → Type 0 = λ l. Stopped a c l in
    let parted : flat_map f (take i xs) ++ (f (get_or xs i 0) ++ flat_map f (drop (suc i) xs)) ≡ flat_map f xs =
    sym (flat_map-append f (take i xs) (get_or xs i 0 ∷ drop (suc i) xs))
    ∙ ap (λ l. flat_map f (take i xs ++ l)) (sym (drop-cons xs i 0 within)) ∙ ap (flat_map f) (take-append-drop i xs) in
    subst P parted (stopped_then h (stopped_first (flat_map f (drop (suc i) xs)) k))

-- ---- a text that is made page by page

pub making_none : (a : Device) (whole : List ℕ) → Making a a [] whole whole
making_none a whole = record { front = []; split = refl; wrote = wrote_none a }

-- a part of the rest went to the page
pub making_more : {a b : Device} {page rest whole : List ℕ} (page' part rest' : List ℕ) → Making a b page rest whole
    → rest ≡ part ++ rest' → page' ≡ page ++ part → Making a b page' rest' whole
making_more {a} {b} {page} {rest} {whole} page' part rest' m e f = record {
  front = m.front;
  split = m.split ∙ ap (λ l. m.front ++ (page ++ l)) e
      ∙ ap (λ l. m.front ++ l) (sym (append_assoc page part rest') ∙ ap (λ l. l ++ rest') (sym f));
  wrote = m.wrote;
}

-- the page was put
pub making_room : {a b c : Device} {page page' rest whole : List ℕ} → Making a b page rest whole → Ahead b c page page'
    → Making a c page' rest whole
making_room {a} {b} {c} {page} {page'} {rest} {whole} m h = record {
  front = m.front ++ h.front;
  split = m.split ∙ ap (λ l. m.front ++ (l ++ rest)) h.split ∙ ap (λ l. m.front ++ l) (append_assoc h.front page' rest)
      ∙ sym (append_assoc m.front h.front (page' ++ rest));
  wrote = wrote_then m.wrote h.wrote;
}

-- the page was not put whole
pub making_stopped : {a b c : Device} {page rest whole : List ℕ} → Making a b page rest whole → Stopped b c page
    → Stopped a c whole
making_stopped {a} {b} {c} {page} {rest} {whole} m h =
    let P : List ℕ → Type 0 = λ l. Stopped a c l in
    subst P (sym m.split) (stopped_then m.wrote (stopped_first rest h))

-- the last page was put
pub making_done : {a b c : Device} {page rest whole : List ℕ} → Making a b page rest whole → rest ≡ [] → Wrote b c page
    → Wrote a c whole
making_done {a} {b} {c} {page} {rest} {whole} m e h =
    let P : List ℕ → Type 0 = λ l. Wrote a c l in
    subst P (sym (m.split ∙ ap (λ l. m.front ++ (page ++ l)) e ∙ ap (λ l. m.front ++ l) (append-nil page)))
    (wrote_then m.wrote h)

-- a call that returns an `Err` where its text was not written whole
pub writes_err : {T E : Type 0} {a b : Device} (x : List ℕ) (r : Result T E) → IsErr r → Stopped a b x → Writes a b x r
writes_err {T} {E} {a} {b} x r failed k = MatchResult-from_err r (λ _. Wrote a b x) (λ _. Stopped a b x) failed (λ _. k)
