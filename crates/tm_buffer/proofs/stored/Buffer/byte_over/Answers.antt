use Rattle.std.proofs.Common.{◌≡◌, ◌/◌, ◌%◌, ℕ, List, length, sym, ap, ◌∙◌, arith, Option, Some, None}
use Rattle.std.specs.Option.{unwrap_or, option_and_then}
use Rattle.std.specs.FinMap as bytes_map
use Rattle.tm_buffer.specs.Buffer.{place_of, Bytes}
use Rattle.tm_buffer.specs.Slots.{bytes_of, slot_byte}
use Rattle.tm_buffer.proofs.Places.{below_room, place_seen}
use Rattle.tm_buffer.proofs.Entries.{get_bytes}
use Rattle.tm_buffer.proofs.stored.Buffer.byte_over.Goals as goal

-- the byte that the slots have, with its place known
seen : (lines masks bytes : List ℕ) (m : Bytes) (a under : ℕ) (p : Option ℕ) → bytes_of lines masks bytes ≡ m
    → place_of lines (a / 64) ≡ p
    → unwrap_or (option_and_then (slot_byte masks bytes (a % 64)) p) under ≡ unwrap_or (bytes_map.get m a) under
seen lines masks bytes m a under p view at =
    ap (λ o. unwrap_or (option_and_then (slot_byte masks bytes (a % 64)) o) under) (sym at)
    ∙ ap (λ o. unwrap_or o under) (sym (get_bytes lines masks bytes a))
    ∙ ap (λ b. unwrap_or (bytes_map.get b a) under) view

pub returns-in_default : goal.returns-in_default
returns-in_default c =
    let p = place_seen (c.args.address / 64) c.self.view_is (sym c.requires ∙ c.in_default.is) in
    seen c.self.inside.lines.items c.self.inside.masks.items c.self.inside.bytes.items c.args.self.now.bytes
    c.args.address c.args.under None
    (ap (λ h. h.bytes) c.self.view_is) p

pub byte_in-requires-clause-place : goal.byte_in-requires-clause-place
byte_in-requires-clause-place c =
    let below =
    below_room (c.args.address / 64) c.self.view_is (sym c.requires ∙ c.in-Some.is) c.self.invariant.0.within in
    omega (arith, below, c.self.invariant.0.masks, ap length c.as_slice-masks.ensures.value)

pub byte_in-requires-clause-bytes : goal.byte_in-requires-clause-bytes
byte_in-requires-clause-bytes c =
    let below =
    below_room (c.args.address / 64) c.self.view_is (sym c.requires ∙ c.in-Some.is) c.self.invariant.0.within in
    omega (arith, below, c.self.invariant.0.bytes, ap length c.as_slice-bytes.ensures.value)

pub byte_in-requires-clause-fits : goal.byte_in-requires-clause-fits
byte_in-requires-clause-fits c =
    let below =
    below_room (c.args.address / 64) c.self.view_is (sym c.requires ∙ c.in-Some.is) c.self.invariant.0.within in
    omega (arith, below, c.self.invariant.3)

pub returns : goal.returns
returns c =
    let p = place_seen (c.args.address / 64) c.self.view_is (sym c.requires ∙ c.in-Some.is) in
    c.unwrap_or.ensures
    ∙ ap (λ o. unwrap_or o c.args.under) (c.byte_in.ensures
    ∙ ap (λ m. slot_byte m c.as_slice-bytes.result.now (c.args.address % 64) c.in-Some.place)
    c.as_slice-masks.ensures.value
    ∙ ap (λ b. slot_byte c.self.inside.masks.items b (c.args.address % 64) c.in-Some.place)
    c.as_slice-bytes.ensures.value)
    ∙ seen c.self.inside.lines.items c.self.inside.masks.items c.self.inside.bytes.items c.args.self.now.bytes
    c.args.address c.args.under
    (Some c.in-Some.place) (ap (λ h. h.bytes) c.self.view_is) p
