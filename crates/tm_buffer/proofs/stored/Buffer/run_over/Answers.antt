use Rattle.std.proofs.Common.{◌≡◌, ◌<◌, ◌+◌, ◌*◌, ◌/◌, ◌%◌, ◌^◌, ℕ, List, length, get_or, refl, sym, ap, ◌∙◌, arith}
use Rattle.std.proofs.Common.{Option, Some, None}
use Rattle.std.specs.Option.{unwrap_or, option_and_then}
use Rattle.std.specs.FinMap as bytes_map
use Rattle.tm_buffer.specs.Buffer.{place_of, Bytes}
use Rattle.tm_buffer.specs.Slots.{bytes_of, slot_byte}
use Rattle.tm_buffer.proofs.Places.{below_room, place_seen}
use Rattle.tm_buffer.proofs.Entries.{get_bytes}
use Rattle.tm_buffer.proofs.stored.Buffer.run_over.Goals as goal

-- what the map has at an address of a line whose place is known
at_place : (lines masks bytes : List ℕ) (m : Bytes) (a q j : ℕ) (p : Option ℕ) → bytes_of lines masks bytes ≡ m
    → place_of lines (a / 64) ≡ p
    → q / 64 ≡ a / 64 → q % 64 ≡ j → bytes_map.get m q ≡ option_and_then (slot_byte masks bytes j) p
at_place lines masks bytes m a q j p view place line offset =
    ap (λ b. bytes_map.get b q) (sym view) ∙ get_bytes lines masks bytes q
    ∙ ap (λ l. option_and_then (slot_byte masks bytes (q % 64)) (place_of lines l)) line
    ∙ ap (option_and_then (slot_byte masks bytes (q % 64))) place
    ∙ ap (λ n. option_and_then (slot_byte masks bytes n) p) offset

abbrev joined : ℕ → Option ℕ → Option ℕ → Option ℕ → Option ℕ → ℕ
joined under o0 o1 o2 o3 =
    unwrap_or o0 (under % 256) + unwrap_or o1 (under / 256 % 256) * 256
    + unwrap_or o2 (under / 65536 % 256) * 65536 + unwrap_or o3 (under / 16777216 % 256) * 16777216

joined_as : (under : ℕ) {o0 o1 o2 o3 p0 p1 p2 p3 : Option ℕ} → o0 ≡ p0 → o1 ≡ p1 → o2 ≡ p2 → o3 ≡ p3
    → joined under p0 p1 p2 p3 ≡ joined under o0 o1 o2 o3
joined_as under e0 e1 e2 e3 = sym (λ i. joined under (e0 i) (e1 i) (e2 i) (e3 i))

whole : (under : ℕ) → under < 2 ^ 32 → under ≡ joined under None None None None
whole under fits = omega arith

-- the four bytes of a doubleword that does not cross a line's end
record OnLine (a : ℕ) : Type 0 where
  l1 : (a + 1) / 64 ≡ a / 64
  l2 : (a + 1 + 1) / 64 ≡ a / 64
  l3 : (a + 1 + 1 + 1) / 64 ≡ a / 64
  o1 : (a + 1) % 64 ≡ a % 64 + 1
  o2 : (a + 1 + 1) % 64 ≡ a % 64 + 2
  o3 : (a + 1 + 1 + 1) % 64 ≡ a % 64 + 3

on_line : (a : ℕ) → (a + 3) / 64 ≡ a / 64 → OnLine a
on_line a e = record {
  l1 = omega arith;
  l2 = omega arith;
  l3 = omega arith;
  o1 = omega arith;
  o2 = omega arith;
  o3 = omega arith;
}

pub returns-in_default : goal.returns-in_default
returns-in_default c =
    let lines : List ℕ = c.self.inside.lines.items in
    let masks : List ℕ = c.self.inside.masks.items in
    let bytes : List ℕ = c.self.inside.bytes.items in
    let m : Bytes = c.args.self.now.bytes in
    let a : ℕ = c.args.address in
    let view : bytes_of lines masks bytes ≡ m = ap (λ h. h.bytes) c.self.view_is in
    let place : place_of lines (a / 64) ≡ None =
    place_seen (c.args.address / 64) c.self.view_is (sym c.requires.place ∙ c.in_default.is) in
    let on : OnLine c.args.address = on_line c.args.address c.requires.one in
    whole c.args.under c.ranges.under.fits ∙ joined_as c.args.under
    (at_place lines masks bytes m a a (a % 64) None view place refl refl)
    (at_place lines masks bytes m a (a + 1) (a % 64 + 1) None view place on.l1 on.o1)
    (at_place lines masks bytes m a (a + 1 + 1) (a % 64 + 2) None view place on.l2 on.o2)
    (at_place lines masks bytes m a (a + 1 + 1 + 1) (a % 64 + 3) None view place on.l3 on.o3)

pub run_in-requires-clause-place : goal.run_in-requires-clause-place
run_in-requires-clause-place c =
    let below =
    below_room (c.args.address / 64) c.self.view_is (sym c.requires.place ∙ c.in-Some.is) c.self.invariant.0.within in
    omega (arith, below, c.self.invariant.0.masks, ap length c.as_slice-masks.ensures.value)

pub run_in-requires-clause-fits : goal.run_in-requires-clause-fits
run_in-requires-clause-fits c =
    let below =
    below_room (c.args.address / 64) c.self.view_is (sym c.requires.place ∙ c.in-Some.is) c.self.invariant.0.within in
    omega (arith, below, c.self.invariant.3)

pub returns-in-Some-run_in : goal.returns-in-Some-run_in
returns-in-Some-run_in c =
    let lines : List ℕ = c.self.inside.lines.items in
    let masks : List ℕ = c.self.inside.masks.items in
    let bytes : List ℕ = c.self.inside.bytes.items in
    let m : Bytes = c.args.self.now.bytes in
    let a : ℕ = c.args.address in
    let k : ℕ = c.in-Some.at in
    let run : List ℕ = c.in-Some-run_in.run' in
    let view : bytes_of lines masks bytes ≡ m = ap (λ h. h.bytes) c.self.view_is in
    let place : place_of lines (a / 64) ≡ Some k =
    place_seen (c.args.address / 64) c.self.view_is (sym c.requires.place ∙ c.in-Some.is) in
    let on : OnLine c.args.address = on_line c.args.address c.requires.one in
    let byte : (j : ℕ) → j < 4 → slot_byte masks bytes (a % 64 + j) k ≡ Some (get_or run j 0) = λ j small.
    (λ i. slot_byte (sym c.as_slice-masks.ensures.value i) (sym c.as_slice-bytes.ensures.value i) (a % 64 + j) k)
    ∙ c.in-Some-run_in.ensures j small in
    let first : a % 64 ≡ a % 64 + 0 = omega arith in
    c.from_le.ensures ∙ joined_as c.args.under
    (at_place lines masks bytes m a a (a % 64 + 0) (Some k) view place refl first ∙ byte 0 (omega arith))
    (at_place lines masks bytes m a (a + 1) (a % 64 + 1) (Some k) view place on.l1 on.o1 ∙ byte 1 (omega arith))
    (at_place lines masks bytes m a (a + 1 + 1) (a % 64 + 2) (Some k) view place on.l2 on.o2 ∙ byte 2 (omega arith))
    (at_place lines masks bytes m a (a + 1 + 1 + 1) (a % 64 + 3) (Some k) view place on.l3 on.o3 ∙ byte 3 (omega arith))
