-- One more row.
use Rattle.std.proofs.Common.{◌≡◌, ℕ, ◌+◌, ◌^◌, ◌<◌, ◌≤◌, ◌∙◌, List, [], ◌∷◌, ◌++◌, take, get_or, length, sym, subst}
use Rattle.std.proofs.Common.{ap}
use Rattle.std.proofs.Common.{Option, Some, arith}
use Rattle.std.specs.List.{AllZip}
use Rattle.std.specs.Map.Iter.{deref_pair}
use Rattle.std.specs.Borrow.{Bor}
use Rattle.std.specs.Prelude.{option_map, slice_get, sum, sum_by}
use Rattle.std.proofs.lemmas.List.{take_all, take_more}
use Rattle.std.proofs.lemmas.List.Sums.{sum_by_more}
use Rattle.std.proofs.lemmas.Option.{get_or_from_slice_get, slice_get_within}
use Rattle.elide_stats.specs.Rows.{IsSum}

zip_push : {A B : Type 0} (R : A → B → Type 0) (xs : List A) (ys : List B) (x : A) (y : B) → AllZip R xs ys → R x y →
    AllZip R (xs ++ x ∷ []) (ys ++ y ∷ [])
zip_push R [] [] x y h k = (k, tt)
zip_push R [] (y' ∷ ys) x y h k = absurd h
zip_push R (x' ∷ xs) [] x y h k = absurd h
zip_push R (x' ∷ xs) (y' ∷ ys) x y h k = (h.0, zip_push R xs ys x y h.1 k)

-- the row of the next entry
pub zip_more : {A B : Type 0} (R : A → B → Type 0) (entries : List A) (index : ℕ) (entry : A)
    (rows more : List B) (row : B) →
    slice_get entries index ≡ Some entry → AllZip R (take index entries) rows → R entry row → more ≡ rows ++ row ∷ [] →
    AllZip R (take (index + 1) entries) more
zip_more {A} {B} R entries index entry rows more row there h k is =
    let within = slice_get_within entries index entry there in
    let one_more : take (index + 1) entries ≡ take index entries ++ entry ∷ [] =
    take_more entries index entry within
    ∙ ap (λ (e : A). take index entries ++ e ∷ []) (get_or_from_slice_get entries index entry entry there) in
    subst (λ (r : List B). AllZip R (take (index + 1) entries) r) (sym is)
    (subst (λ (e : List A). AllZip R e (rows ++ row ∷ [])) (sym one_more)
    (zip_push R (take index entries) rows entry row h k))

-- a sum with one more
pub sum_more : {A : Type 0} (f : A → ℕ) (entries : List A) (index : ℕ) (entry : A) (told part next : ℕ) →
    slice_get entries index ≡ Some entry → IsSum (sum_by f (take index entries)) told →
    (f entry < 2 ^ 64 → part ≡ f entry) → (told + part < 2 ^ 64 → next ≡ told + part) →
    IsSum (sum_by f (take (index + 1) entries)) next
sum_more {A} f entries index entry told part next there so_far own added = λ few.
    let within = slice_get_within entries index entry there in
    let more = sum_by_more f entries index entry within in
    let here : get_or entries index entry ≡ entry = get_or_from_slice_get entries index entry entry there in
    let same : f (get_or entries index entry) ≡ f entry = ap f here in
    let before = so_far (omega arith) in
    let mine = own (omega arith) in
    let all = added (omega arith) in
    omega arith

-- a sum with one more of a list of numbers
pub sum_at : (numbers : List ℕ) (index told next : ℕ) → index < length numbers → IsSum (sum (take index numbers)) told →
    (told + get_or numbers index 0 < 2 ^ 64 → next ≡ told + get_or numbers index 0) →
    IsSum (sum (take (index + 1) numbers)) next
sum_at numbers index told next within so_far added = λ few.
    let more = sum_by_more (λ n. n) numbers index 0 within in
    let before = so_far (omega arith) in
    let all = added (omega arith) in
    omega arith

-- the entry that a map gives at an index
pub entry_at : {K V : Type 0} (entries : List (K × V)) (index : ℕ) (given : Option (Bor K × Bor V))
    (entry : Bor K × Bor V) →
    option_map deref_pair given ≡ slice_get entries index → given ≡ Some entry →
    slice_get entries index ≡ Some (entry.0.now, entry.1.now)
entry_at entries index given entry is there = sym is ∙ ap (option_map deref_pair) there

-- the rows of all entries
pub zip_all : {A B : Type 0} (R : A → B → Type 0) (entries : List A) (index : ℕ) (rows : List B)
    → length entries ≤ index →
    AllZip R (take index entries) rows → AllZip R entries rows
zip_all {A} {B} R entries index rows all h =
    subst (λ (e : List A). AllZip R e rows) (take_all index entries all) h

-- the sum of all entries
pub sum_all : {A : Type 0} (f : A → ℕ) (entries : List A) (index told : ℕ) → length entries ≤ index →
    IsSum (sum_by f (take index entries)) told → IsSum (sum_by f entries) told
sum_all {A} f entries index told all h =
    subst (λ (e : List A). IsSum (sum_by f e) told) (take_all index entries all) h
