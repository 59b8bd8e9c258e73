-- Bytes while they are loaded.
use Rattle.std.proofs.Common.{◌≡◌, ◌⊎◌, ℕ, ◌+◌, ◌-◌, ◌<◌, ◌≤◌, List, ◌++◌, inl, inr, refl, sym, ap, ◌∙◌, subst, arith}
use Rattle.std.proofs.Common.{length, length-append, length-take, length-drop, slice_index, take, drop, replicate}
use Rattle.std.proofs.lemmas.List.{get_or_append_left, get_or-append_right, get_or-drop, get_or-replicate, get_or-take}
use Rattle.std.proofs.lemmas.List.{length-replicate}
use Rattle.std.proofs.lemmas.Bool.{cases_lt}
use borrow.Author.Count.{below_more}
use Rattle.ia_elf.specs.Fields.{e_phnum, segment}
use Rattle.ia_elf.specs.Faults.{IsWhole}
use Rattle.ia_elf.specs.Loaded.{Covers, IsBase, IsCodeEnd, IsLoaded, IsMemoryEnd, IsPlaced}
use Rattle.ia_elf.specs.Segments.{HasBytes, InOrder, bytes_end}
use Rattle.ia_elf.specs.declared.segment.Segment.{Segment}

-- the bytes of the first segments stand at their addresses, up to the last, with zeros between them
pub record IsLoadedBelow (file bytes : List ℕ) (base n : ℕ) : Type 0 where
  pub placed : (k : ℕ) → k < n → HasBytes (segment file k) → IsPlaced file bytes base (segment file k)
  pub zeros : (i : ℕ) → i < length bytes → ((k : ℕ) → k < n → ¬ Covers (base + i) (segment file k))
      → slice_index bytes i ≡ 0
  pub last : (length bytes ≡ 0)
      ⊎ ((k : ℕ) × (k < n) × HasBytes (segment file k) × (bytes_end (segment file k) ≡ base + length bytes))

-- the bytes so far, zeros up to where a segment begins, and its bytes
abbrev pub with_segment : List ℕ → List ℕ → ℕ → Segment → List ℕ
with_segment file bytes base s =
    bytes ++ replicate (s.p_vaddr - base - length bytes) 0 ++ take s.p_filesz (drop s.p_offset file)

-- a segment begins behind the bytes so far
starts_behind : (file bytes : List ℕ) (base n : ℕ) → IsLoadedBelow file bytes base n → IsWhole file → IsBase file base
    → InOrder file →
    n < e_phnum file → HasBytes (segment file n) → base + length bytes ≤ (segment file n).p_vaddr
starts_behind file bytes base n was whole first order within has =
    let above : base ≤ (segment file n).p_vaddr = first.least n within has in
    elim was.last [
      | inl z ↦ omega arith
      | inr found ↦ (let lt : found.0 < e_phnum file = (let l = found.1 in omega arith) in
          let fits = whole.segments found.0 lt found.2.0 in
          let o = order found.0 n found.1 within found.2.0 has.0 in let e = found.3 in omega arith)
    ]

pub starts : (file bytes : List ℕ) (base n : ℕ) (s : Segment) → IsLoadedBelow file bytes base n → IsWhole file
    → IsBase file base → InOrder file →
    n < e_phnum file → s ≡ segment file n → HasBytes s → base + length bytes ≤ s.p_vaddr
starts file bytes base n s was whole first order within is =
    let P : Segment → Type 0 = λ t. HasBytes t → base + length bytes ≤ t.p_vaddr in
    subst P (sym is) (starts_behind file bytes base n was whole first order within)

-- what lies where in these bytes
with_length : (file bytes : List ℕ) (base : ℕ) (s : Segment) → base + length bytes ≤ s.p_vaddr
    → s.p_offset + s.p_filesz ≤ length file →
    base + length (with_segment file bytes base s) ≡ bytes_end s
with_length file bytes base s behind fits =
    simp (length-append, length-replicate, length-take, length-drop) (omega arith)

with_front : (file bytes : List ℕ) (base i : ℕ) (s : Segment) → i < length bytes
    → slice_index (with_segment file bytes base s) i ≡ slice_index bytes i
with_front file bytes base i s h =
    let zeros : List ℕ = replicate (s.p_vaddr - base - length bytes) 0 in
    let part : List ℕ = take s.p_filesz (drop s.p_offset file) in
    let front : i < length (bytes ++ zeros) = omega (arith, length-append bytes zeros) in
    get_or_append_left (bytes ++ zeros) part 0 i front ∙ get_or_append_left bytes zeros 0 i h

with_zeros : (file bytes : List ℕ) (base i : ℕ) (s : Segment) → length bytes ≤ i → i < s.p_vaddr - base
    → slice_index (with_segment file bytes base s) i ≡ 0
with_zeros file bytes base i s h below =
    let gap : ℕ = s.p_vaddr - base - length bytes in
    let zeros : List ℕ = replicate gap 0 in
    let part : List ℕ = take s.p_filesz (drop s.p_offset file) in
    let front : i < length (bytes ++ zeros) =
    omega (arith, length-append bytes zeros, length-replicate {A = ℕ} gap 0) in
    get_or_append_left (bytes ++ zeros) part 0 i front ∙ get_or-append_right bytes zeros (length bytes) i 0 refl h
    ∙ get_or-replicate gap (i - length bytes) 0 0 (omega arith)

with_part : (file bytes : List ℕ) (base i : ℕ) (s : Segment) → base + length bytes ≤ s.p_vaddr → i < s.p_filesz →
    slice_index (with_segment file bytes base s) (s.p_vaddr - base + i) ≡ slice_index file (s.p_offset + i)
with_part file bytes base i s behind h =
    let gap : ℕ = s.p_vaddr - base - length bytes in
    let zeros : List ℕ = replicate gap 0 in
    let part : List ℕ = take s.p_filesz (drop s.p_offset file) in
    let long : length (bytes ++ zeros) ≡ s.p_vaddr - base =
    omega (arith, length-append bytes zeros, length-replicate {A = ℕ} gap 0) in
    let at : s.p_vaddr - base + i - (s.p_vaddr - base) ≡ i = omega arith in
    get_or-append_right (bytes ++ zeros) part (s.p_vaddr - base) (s.p_vaddr - base + i) 0 long (omega arith)
    ∙ ap (λ q. slice_index part q) at ∙ get_or-take s.p_filesz (drop s.p_offset file) i 0 h
    ∙ get_or-drop s.p_offset file i 0

-- what was placed stays
still_placed : (file bytes : List ℕ) (base : ℕ) (s t : Segment) → IsPlaced file bytes base t
    → base + length bytes ≤ s.p_vaddr → s.p_offset + s.p_filesz ≤ length file →
    IsPlaced file (with_segment file bytes base s) base t
still_placed file bytes base s t was behind fits = record {
  above = was.above;
  within = let w = was.within in omega (arith, with_length file bytes base s behind fits);
  same = λ i h. let w = was.within in let a = was.above in
      with_front file bytes base (t.p_vaddr - base + i) s (omega arith) ∙ was.same i h;
}

now_placed : (file bytes : List ℕ) (base : ℕ) (s : Segment) → base + length bytes ≤ s.p_vaddr
    → s.p_offset + s.p_filesz ≤ length file →
    IsPlaced file (with_segment file bytes base s) base s
now_placed file bytes base s behind fits = record {
  above = omega arith;
  within = omega (arith, with_length file bytes base s behind fits);
  same = λ i h. with_part file bytes base i s behind h;
}

still_zero : (file bytes : List ℕ) (base n i : ℕ) → IsLoadedBelow file bytes base n → HasBytes (segment file n) →
    base + length bytes ≤ (segment file n).p_vaddr
    → (segment file n).p_offset + (segment file n).p_filesz ≤ length file →
    i < length (with_segment file bytes base (segment file n)) →
    ((k : ℕ) → k < n + 1 → ¬ Covers (base + i) (segment file k))
    → slice_index (with_segment file bytes base (segment file n)) i ≡ 0
still_zero file bytes base n i was has behind fits h uncovered =
    let s = segment file n in
    elim (cases_lt i (length bytes)) [
      | inl front ↦ with_front file bytes base i s front ∙ was.zeros i front (λ k lt. uncovered k (omega arith))
      | inr later ↦ elim (cases_lt i (s.p_vaddr - base)) [
        | inl gap ↦ with_zeros file bytes base i s later gap
        | inr part ↦ absurd
            (uncovered n (omega arith) (has, (omega arith), (omega (arith, with_length file bytes base s behind fits))))
      ]
    ]

more : (file bytes : List ℕ) (base n : ℕ) → IsLoadedBelow file bytes base n → HasBytes (segment file n) →
    base + length bytes ≤ (segment file n).p_vaddr
    → (segment file n).p_offset + (segment file n).p_filesz ≤ length file →
    IsLoadedBelow file (with_segment file bytes base (segment file n)) base (n + 1)
more file bytes base n was has behind fits = let s = segment file n in record {
  placed = below_more
      (λ k. HasBytes (segment file k) → IsPlaced file (with_segment file bytes base s) base (segment file k)) n
      (λ k lt b. still_placed file bytes base s (segment file k) (was.placed k lt b) behind fits)
      (λ _. now_placed file bytes base s behind fits);
  zeros = λ i h uncovered. still_zero file bytes base n i was has behind fits h uncovered;
  last = inr (n, omega arith, has, sym (with_length file bytes base s behind fits));
}

-- one more segment
pub loaded_more : (file bytes new : List ℕ) (base n : ℕ) (s : Segment) → IsLoadedBelow file bytes base n → IsWhole file
    → IsBase file base → InOrder file →
    n < e_phnum file → s ≡ segment file n → HasBytes s → new ≡ with_segment file bytes base s
    → IsLoadedBelow file new base (n + 1)
loaded_more file bytes new base n s was whole first order within is =
    let P : Segment → Type 0 =
    λ t. HasBytes t → new ≡ with_segment file bytes base t → IsLoadedBelow file new base (n + 1) in
    subst P (sym is) (λ has e. subst (λ (q : List ℕ). IsLoadedBelow file q base (n + 1)) (sym e)
    (more file bytes base n was has (starts_behind file bytes base n was whole first order within has)
    ((whole.segments n within has.0).1)))

-- one more without bytes
pub loaded_none : (file bytes : List ℕ) (base n : ℕ) (s : Segment) → IsLoadedBelow file bytes base n
    → s ≡ segment file n → ¬ HasBytes s →
    IsLoadedBelow file bytes base (n + 1)
loaded_none file bytes base n s was is =
    let P : Segment → Type 0 = λ t. ¬ HasBytes t → IsLoadedBelow file bytes base (n + 1) in
    subst P (sym is) (λ idle. record {
      placed = below_more (λ k. HasBytes (segment file k) → IsPlaced file bytes base (segment file k)) n was.placed
          (λ b. absurd (idle b));
      zeros = λ i h uncovered. was.zeros i h (λ k lt. uncovered k (omega arith));
      last = elim was.last [ inl z ↦ inl z | inr found ↦ inr (found.0, omega arith, found.2, found.3) ];
    })

-- all segments
pub all_loaded : (file bytes : List ℕ) (base n : ℕ) → IsLoadedBelow file bytes base n → n ≡ e_phnum file → IsWhole file
    → IsBase file base →
    IsLoaded file bytes base
all_loaded file bytes base n was is whole first =
    let all : IsLoadedBelow file bytes base (e_phnum file) =
    subst (λ (q : ℕ). IsLoadedBelow file bytes base q) is was in
    let placed = all.placed first.some.0 first.some.1 first.some.2 in
    record {
      placed = all.placed;
      zeros = all.zeros;
      last = elim all.last [
        | inl z ↦ (let w = placed.within in let h = first.some.2.1 in let at = first.some.3 in absurd (omega arith))
        | inr found ↦ found
      ];
    }

-- the code ends in the bytes, and they end below the end of memory
pub code_fits : (file bytes : List ℕ) (base end : ℕ) → IsLoaded file bytes base → IsCodeEnd file end
    → end ≤ base + length bytes
code_fits file bytes base end loaded code =
    let placed = loaded.placed code.some.0 code.some.1 code.some.2.0 in
    let w = placed.within in
    let is = code.some.3 in
    omega arith

pub bytes_fit : (file bytes : List ℕ) (base end : ℕ) → IsLoaded file bytes base → IsWhole file → IsMemoryEnd file end
    → base + length bytes ≤ end
bytes_fit file bytes base end loaded whole memory =
    let last = loaded.last in
    let fits = whole.segments last.0 last.1 last.2.0 in
    let below = memory.most last.0 last.1 last.2.0 in
    let is = last.3 in
    omega arith

-- segments that are loaded one by one
pub ruleset load_steps = (starts, loaded_more, loaded_none)
