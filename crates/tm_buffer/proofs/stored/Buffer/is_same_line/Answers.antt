use Rattle.std.proofs.Common.{◌≡◌, ◌<◌, ◌∙◌, sym, ap, length, get_or, arith, List, ℕ, Option, Some, None, vec_len}
use Rattle.std.proofs.Common.{rules}
use Rattle.std.proofs.lemmas.List.{get_or_read}
use Rattle.std.proofs.lemmas.Grind.{common_steps}
use Rattle.tm_buffer.specs.Buffer.{place_of}
use Rattle.tm_buffer.proofs.Alike.{both_answer, masks_answer, one_answer, same_seen}
use Rattle.tm_buffer.proofs.stored.Buffer.is_same_line.Goals as goal
use Rattle.tm_buffer.proofs.stored.Buffer.is_same_line.Goals.{After-place_in}

own_below : (c : After-place_in) → c.args.place < length c.self.inside.lines.items
own_below c = omega (arith, ap (λ h. length h.order) c.self.view_is, c.requires)

-- the place that was found in the other buffer
other_place : (c : After-place_in) (o : Option ℕ) → c.place_in.result ≡ o
    → place_of c.other.inside.lines.items (get_or c.self.inside.lines.items c.args.place 0) ≡ o
other_place c o is =
    let line : c.index.result.now ≡ get_or c.self.inside.lines.items c.args.place 0 =
    get_or_read c.self.inside.lines.items c.args.place c.index.result.now (own_below c) c.index.ensures 0 in
    sym (c.place_in.ensures ∙ (λ i. place_of (c.deref.ensures.value i) (line i))) ∙ is

-- and where it is among the rows
other_below : (c : After-place_in) (at : ℕ) → c.place_in.result ≡ Some at → at < length c.other.inside.lines.items
other_below c at is =
    (Rattle.tm_buffer.proofs.Places.place_in c.other.inside.lines.items _ at (other_place c (Some at) is)).below

pub overflow_mul-from : goal.overflow_mul-from
overflow_mul-from c =
    let below = other_below (goal.at.overflow_mul-from c).After-place_in c.in-Some.at c.in-Some.is in
    omega (arith, c.other.invariant.0.within, c.other.invariant.3, below)

pub index-requires-in-Some-2 : goal.index-requires-in-Some-2
index-requires-in-Some-2 c =
    let n : vec_len c.other.inside.masks ≡ length c.other.inside.masks.items = search rules in
    let below = other_below (goal.at.index-requires-in-Some-2 c).After-place_in c.in-Some.at c.in-Some.is in
    omega (arith, c.other.invariant.0.within, c.other.invariant.0.masks, below)

pub overflow_add-from : goal.overflow_add-from
overflow_add-from c =
    let below = other_below (goal.at.overflow_add-from c).After-place_in c.in-Some.at c.in-Some.is in
    omega (arith, c.other.invariant.0.within, c.other.invariant.3, below)

pub slice_bounds-are_same_bytes-end-then-index : goal.slice_bounds-are_same_bytes-end-then-index
slice_bounds-are_same_bytes-end-then-index c =
    let below =
    other_below (goal.at.slice_bounds-are_same_bytes-end-then-index c).After-place_in c.in-Some.at c.in-Some.is in
    omega
    (arith, c.other.invariant.0.within, c.other.invariant.0.bytes, below, ap length c.deref-then-index-2.ensures.value)

pub returns-then-index : goal.returns-then-index
returns-then-index c =
    let p = (goal.at.returns-then-index c).After-place_in in
    let own = own_below p in
    let there = other_place p (Some c.in-Some.at) c.in-Some.is in
    let below = other_below p c.in-Some.at c.in-Some.is in
    let lines : List ℕ = c.self.inside.lines.items in
    let masks : List ℕ = c.self.inside.masks.items in
    let bytes : List ℕ = c.self.inside.bytes.items in
    let others : List ℕ = c.other.inside.lines.items in
    let marks : List ℕ = c.other.inside.masks.items in
    let stored : List ℕ = c.other.inside.bytes.items in
    let mask : c.index-in-Some.result.now ≡ get_or masks c.args.place 0 =
    get_or_read masks c.args.place c.index-in-Some.result.now
    (omega (arith, c.self.invariant.0.masks, c.self.invariant.0.within, own)) c.index-in-Some.ensures 0 in
    let mark : c.index-in-Some-2.result.now ≡ get_or marks c.in-Some.at 0 =
    get_or_read marks c.in-Some.at c.index-in-Some-2.result.now
    (omega (arith, c.other.invariant.0.masks, c.other.invariant.0.within, below)) c.index-in-Some-2.ensures 0 in
    let again : c.index-then-index.result.now ≡ get_or masks c.args.place 0 =
    get_or_read masks c.args.place c.index-then-index.result.now
    (omega (arith, c.self.invariant.0.masks, c.self.invariant.0.within, own)) c.index-then-index.ensures 0 in
    same_seen _ c.args.place _ _ _ _ c.self.view_is c.other.view_is
    (both_answer c.are_same_bytes.result lines masks bytes others marks stored _ _ (get_or lines c.args.place 0)
    c.args.place c.in-Some.at
    c.index-then-index.result.now c.index-in-Some-2.result.now (c.self.invariant.0.at_its_place c.args.place own) there
    (λ o small. grind (arith, common_steps)) (λ o small. grind (arith, common_steps)) again mark
    (again ∙ sym mask ∙ c.if-index.true) c.are_same_bytes.ensures)

pub returns-else-index : goal.returns-else-index
returns-else-index c =
    let p = (goal.at.returns-else-index c).After-place_in in
    let own = own_below p in
    let there = other_place p (Some c.in-Some.at) c.in-Some.is in
    let below = other_below p c.in-Some.at c.in-Some.is in
    let lines : List ℕ = c.self.inside.lines.items in
    let masks : List ℕ = c.self.inside.masks.items in
    let others : List ℕ = c.other.inside.lines.items in
    let marks : List ℕ = c.other.inside.masks.items in
    let mask : c.index-in-Some.result.now ≡ get_or masks c.args.place 0 =
    get_or_read masks c.args.place c.index-in-Some.result.now
    (omega (arith, c.self.invariant.0.masks, c.self.invariant.0.within, own)) c.index-in-Some.ensures 0 in
    let mark : c.index-in-Some-2.result.now ≡ get_or marks c.in-Some.at 0 =
    get_or_read marks c.in-Some.at c.index-in-Some-2.result.now
    (omega (arith, c.other.invariant.0.masks, c.other.invariant.0.within, below)) c.index-in-Some-2.ensures 0 in
    same_seen _ c.args.place _ _ _ _ c.self.view_is c.other.view_is
    (masks_answer lines masks c.self.inside.bytes.items others marks c.other.inside.bytes.items
    (get_or lines c.args.place 0) c.args.place c.in-Some.at
    c.index-in-Some.result.now c.index-in-Some-2.result.now (c.self.invariant.0.at_its_place c.args.place own) there
    mask mark (omega arith) (omega arith) c.if-index.false)

pub returns-in-None : goal.returns-in-None
returns-in-None c =
    let p = (goal.at.returns-in-None c).After-place_in in
    let own = own_below p in
    let none = other_place p None c.in-None.is in
    let lines : List ℕ = c.self.inside.lines.items in
    let masks : List ℕ = c.self.inside.masks.items in
    let mask : c.index-in-None.result.now ≡ get_or masks c.args.place 0 =
    get_or_read masks c.args.place c.index-in-None.result.now
    (omega (arith, c.self.invariant.0.masks, c.self.invariant.0.within, own)) c.index-in-None.ensures 0 in
    same_seen _ c.args.place _ _ _ _ c.self.view_is c.other.view_is
    (one_answer lines masks c.self.inside.bytes.items c.other.inside.lines.items c.other.inside.masks.items
    c.other.inside.bytes.items (get_or lines c.args.place 0) c.args.place
    c.index-in-None.result.now (c.self.invariant.0.at_its_place c.args.place own) none mask (omega arith))
