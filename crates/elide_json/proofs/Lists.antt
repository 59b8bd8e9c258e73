-- Lists that are sent, or made, an item after another.
use Rattle.std.proofs.Common.{◌≡◌, ◌∙◌, ℕ, zero, suc, ◌+◌, ◌<◌, List, [], ◌∷◌, ◌++◌, Some, ap, arith, rules, get_or}
use Rattle.std.proofs.Common.{length, map, map-id, refl, subst, sym, take, zero-add}
use Rattle.std.proofs.lemmas.List.{take_more}
use Rattle.std.proofs.lemmas.List.FromFn.{map-range_with_len_more}
use Rattle.std.proofs.lemmas.Slice.Zip.{get_or-zip}
use Rattle.std.specs.List.{range_with_len, zip}
use Rattle.serde.proofs.Events.{WritesEach-snoc}
use Rattle.serde.specs.Event.{Log, Logs, WritesEach, WritesSeq, seq_begins, seq_ends}
use Rattle.serde_json.specs.Data.{Data, array, item}
use Rattle.serde_json.specs.Events.{SendsValue}
use Rattle.elide_object.specs.Object.{items_of, list_value}

pub numbers_more : (count : ℕ) → range_with_len 0 (count + 1) ≡ range_with_len 0 count ++ count ∷ []
numbers_more count =
    sym (map-id (range_with_len 0 (count + 1)))
    ∙ map-range_with_len_more (λ number. number) 0 count count (zero-add count)
    ∙ ap (λ numbers. numbers ++ count ∷ []) (map-id (range_with_len 0 count))

-- one number more was sent
pub each_more : (value_of : ℕ → Data) (count : ℕ) (old mid new : Log) →
    WritesEach (λ number. SendsValue (value_of number)) (range_with_len 0 count) old mid
    → SendsValue (value_of count) mid new →
    WritesEach (λ number. SendsValue (value_of number)) (range_with_len 0 (count + 1)) old new
each_more value_of count old mid new each sent =
    subst (λ numbers. WritesEach (λ number. SendsValue (value_of number)) numbers old new) (sym (numbers_more count))
    (WritesEach-snoc (λ number. SendsValue (value_of number)) (range_with_len 0 count) count old mid new each sent)

-- all were
pub seq_of : {A : Type 0} (value_of : A → Data) (xs : List A) (n : ℕ) (old first last new : Log) → n ≡ length xs →
    Logs old first (seq_begins (Some n)) → WritesEach (λ x. SendsValue (value_of x)) xs first last
    → Logs last new seq_ends →
    WritesSeq (λ x. SendsValue (value_of x)) xs old new
seq_of value_of xs n old first last new same begun each ended =
    (first, last, subst (λ (m : ℕ). Logs old first (seq_begins (Some m))) same begun, each, ended)

map_snoc : {A B : Type 0} (f : A → B) (xs : List A) (x : A) → map f (xs ++ x ∷ []) ≡ map f xs ++ f x ∷ []
map_snoc f [] x = refl
map_snoc f (y ∷ xs) x = ap (λ l. f y ∷ l) (map_snoc f xs x)

-- one row more, of the next thing
pub rows_more : {Row A B : Type 0} (row_of : Row → B) (value_of : A → B) (rows : List Row) (row : Row) (xs : List A)
    (i : ℕ) (x : A) →
    i < length xs → x ≡ get_or xs i x → row_of row ≡ value_of x → map row_of rows ≡ map value_of (take i xs) →
    map row_of (rows ++ row ∷ []) ≡ map value_of (take (i + 1) xs)
rows_more row_of value_of rows row xs i x within is same before =
    map_snoc row_of rows row ∙ ap (λ l. l ++ row_of row ∷ []) before ∙ ap (λ v. map value_of (take i xs) ++ v ∷ []) same
    ∙ sym (map_snoc value_of (take i xs) x)
    ∙ ap (map value_of) (sym (take_more xs i x within ∙ ap (λ y. take i xs ++ y ∷ []) (sym is)))

items_mapped : {A : Type 0} (f : A → Data) (xs : List A) → items_of f xs ≡ items_of (λ d. d) (map f xs)
items_mapped f [] = refl
items_mapped f (x ∷ xs) = ap (item (f x)) (items_mapped f xs)

items_by : {A B : Type 0} (f : A → Data) (g : B → Data) (xs : List A) (ys : List B) → map f xs ≡ map g ys →
    items_of f xs ≡ items_of g ys
items_by f g xs ys same = items_mapped f xs ∙ ap (items_of (λ d. d)) same ∙ sym (items_mapped g ys)

-- lists whose values are the same
pub list_by : {A B : Type 0} (f : A → Data) (g : B → Data) (xs : List A) (ys : List B) → map f xs ≡ map g ys →
    list_value f xs ≡ list_value g ys
list_by f g xs ys same = ap array (items_by f g xs ys same)

within_zip : {A C : Type 0} (xs : List A) (ys : List C) (i : ℕ) → i < length xs → i < length ys → i < length (zip xs ys)
within_zip [] ys i h k = absurd (omega (arith, h))
within_zip (x ∷ xs) [] i h k = absurd (omega (arith, k))
within_zip (x ∷ xs) (y ∷ ys) zero h k = omega arith
within_zip (x ∷ xs) (y ∷ ys) (suc i) h k =
    let more = within_zip xs ys i (omega (arith, h)) (omega (arith, k)) in omega (arith, more)

-- one row more, of the next two things
pub rows_zip : {Row A C B : Type 0} (row_of : Row → B) (value_of : A × C → B) (rows : List Row) (row : Row)
    (xs : List A) (ys : List C) (i : ℕ) (d : A) (e : C) →
    i < length xs → i < length ys → row_of row ≡ value_of (get_or xs i d, get_or ys i e) →
    map row_of rows ≡ map value_of (take i (zip xs ys))
    → map row_of (rows ++ row ∷ []) ≡ map value_of (take (i + 1) (zip xs ys))
rows_zip row_of value_of rows row xs ys i d e within also same before =
    let long = within_zip xs ys i within also in
    let pair = get_or (zip xs ys) i (d, e) in
    let there : pair ≡ (get_or xs i d, get_or ys i e) = get_or-zip xs ys i (d, e) within also in
    rows_more row_of value_of rows row (zip xs ys) i pair long (search rules) (same ∙ ap value_of (sym there)) before
