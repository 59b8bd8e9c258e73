-- The highest end of some segments.
use Rattle.std.proofs.Common.{◌≡◌, ◌⊎◌, ℕ, ◌+◌, ◌<◌, ◌≤◌, List, inl, inr, refl, sym, subst, arith}
use borrow.Author.Count.{below_more}
use Rattle.ia_elf.specs.Fields.{e_phnum, segment}
use Rattle.ia_elf.specs.Faults.{IsWhole}
use Rattle.ia_elf.specs.Loaded.{IsCodeEnd, IsMemoryEnd}
use Rattle.ia_elf.specs.Segments.{EachSegment, HasCode, InOrder, IsLow, Loads, bytes_end, memory_end}
use Rattle.ia_elf.specs.declared.segment.Segment.{Segment}

-- the highest end of code among the first segments, 0 where they have none
pub record IsCodeEndBelow (file : List ℕ) (n end : ℕ) : Type 0 where
  pub most : (k : ℕ) → k < n → HasCode (segment file k) → bytes_end (segment file k) ≤ end
  pub some : (end ≡ 0) ⊎ ((k : ℕ) × (k < n) × HasCode (segment file k) × (bytes_end (segment file k) ≡ end))

-- the first segments stand in ascending order, the last of them ends here, or there is none
pub record IsMemoryEndBelow (file : List ℕ) (n end : ℕ) : Type 0 where
  pub in_order : (j k : ℕ) → j < k → k < n → Loads (segment file j) → Loads (segment file k) →
      memory_end (segment file j) ≤ (segment file k).p_vaddr
  pub most : (k : ℕ) → k < n → Loads (segment file k) → memory_end (segment file k) ≤ end
  pub some : (end ≡ 0) ⊎ ((k : ℕ) × (k < n) × Loads (segment file k) × (memory_end (segment file k) ≡ end))

more : (file : List ℕ) (n end : ℕ) → IsMemoryEndBelow file n end → Loads (segment file n) →
    end ≤ (segment file n).p_vaddr → IsMemoryEndBelow file (n + 1) (memory_end (segment file n))
more file n end was loads behind = record {
  in_order = λ j k lt lt0. below_more (λ q. j < q → Loads (segment file j) → Loads (segment file q)
      → memory_end (segment file j) ≤ (segment file q).p_vaddr) n
      (λ q h below. was.in_order j q below h)
      (λ below a _. let m = was.most j below a in omega arith) k lt0 lt;
  most = below_more (λ q. Loads (segment file q) → memory_end (segment file q) ≤ memory_end (segment file n)) n
      (λ q h a. let m = was.most q h a in omega arith) (λ _. omega arith);
  some = inr (n, omega arith, loads, refl);
}

-- one more segment, behind the others
pub ends_more : (file : List ℕ) (n end : ℕ) (s : Segment) → IsMemoryEndBelow file n end → s ≡ segment file n → Loads s →
    end ≤ s.p_vaddr → IsMemoryEndBelow file (n + 1) (memory_end s)
ends_more file n end s was is =
    let P : Segment → Type 0 = λ t. Loads t → end ≤ t.p_vaddr → IsMemoryEndBelow file (n + 1) (memory_end t) in
    subst P (sym is) (more file n end was)

none : (file : List ℕ) (n end : ℕ) → IsMemoryEndBelow file n end → ¬ Loads (segment file n)
    → IsMemoryEndBelow file (n + 1) end
none file n end was idle = record {
  in_order = λ j k lt lt0. below_more (λ q. j < q → Loads (segment file j) → Loads (segment file q)
      → memory_end (segment file j) ≤ (segment file q).p_vaddr) n
      (λ q h below. was.in_order j q below h) (λ _ _ b. absurd (idle b)) k lt0 lt;
  most = below_more (λ q. Loads (segment file q) → memory_end (segment file q) ≤ end) n was.most (λ b. absurd (idle b));
  some = elim was.some [ inl z ↦ inl z | inr found ↦ inr (found.0, omega arith, found.2, found.3) ];
}

-- one more that isn't loaded
pub ends_none : (file : List ℕ) (n end : ℕ) (s : Segment) → IsMemoryEndBelow file n end
    → s ≡ segment file n → ¬ Loads s →
    IsMemoryEndBelow file (n + 1) end
ends_none file n end s was is = let P : Segment → Type 0 = λ t. ¬ Loads t → IsMemoryEndBelow file (n + 1) end in
    subst P (sym is) (none file n end was)

below_end : (file : List ℕ) (n end : ℕ) → IsMemoryEndBelow file n end → n < e_phnum file → Loads (segment file n) →
    (segment file n).p_vaddr < end → InOrder file → ⊥
below_end file n end was within loads below order = elim was.some [
  | inl z ↦ omega arith
  | inr found ↦ (let o = order found.0 n found.1 within found.2 loads in let e = found.3 in omega arith)
]

-- a segment that begins below the end of another one
pub ends_refused : (file : List ℕ) (n end : ℕ) (s : Segment) → IsMemoryEndBelow file n end → n < e_phnum file →
    s ≡ segment file n → Loads s → s.p_vaddr < end → InOrder file → ⊥
ends_refused file n end s was within is =
    let P : Segment → Type 0 = λ t. Loads t → t.p_vaddr < end → InOrder file → ⊥ in
    subst P (sym is) (below_end file n end was within)

-- no code ends above the largest memory, and no segment
pub code_low : (file : List ℕ) (end : ℕ) → IsWhole file → EachSegment file IsLow → IsCodeEnd file end → end ≤ 268435456
code_low file end whole low code =
    let k = code.some.0 in
    let has = code.some.2 in
    let fits = whole.segments k code.some.1 has.0.0 in
    let below = low k code.some.1 has.0.0 in
    let is = code.some.3 in
    omega arith

pub memory_low : (file : List ℕ) (end : ℕ) → EachSegment file IsLow → IsMemoryEnd file end → end ≤ 268435456
memory_low file end low memory =
    let below = low memory.some.0 memory.some.1 memory.some.2 in
    let is = memory.some.3 in
    omega arith

-- ends that stay below 2^32
pub ruleset low_ends = (code_low, memory_low)

-- segments whose ends are taken one by one
pub ruleset end_steps = (ends_more, ends_none, ends_refused)
