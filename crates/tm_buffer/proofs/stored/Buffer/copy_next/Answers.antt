use Rattle.std.proofs.Common.{◌≡◌, ◌<◌, ◌/◌, ◌++◌, ◌∷◌, [], ℕ, List, cond, eqb, drop, take, length, get_or, vec_len}
use Rattle.std.proofs.Common.{sym, ap, ◌∙◌, subst, arith, rules}
use Rattle.std.proofs.lemmas.List.{get_or_read, length_push, take_at}
use Rattle.tm_buffer.specs.Buffer.{place_of}
use Rattle.tm_buffer.specs.Slots.{AtItsPlace}
use Rattle.tm_buffer.proofs.TakenOver.{copied, next_is_new}
use Rattle.tm_buffer.proofs.stored.Buffer.copy_next.Goals as goal
use Rattle.tm_buffer.proofs.stored.Buffer.copy_next.Goals.{After-index}

-- the next place
place_is : (c : After-index) → c.len-place.result ≡ length c.args.self.now.order
place_is c =
    let count : vec_len c.self.inside.lines ≡ length c.self.inside.lines.items = search rules in
    c.len-place.ensures ∙ count ∙ ap (λ h. length h.order) c.self.view_is

-- the other's lines
others_are : (c : After-index) → c.other.inside.lines.items ≡ c.args.other.now.order
others_are c = ap (λ h. h.order) c.other.view_is

below : (c : After-index) → c.len-place.result < length c.other.inside.lines.items
below c = subst (λ n. n < length c.other.inside.lines.items) (sym (place_is c))
    (subst (λ xs. length c.args.self.now.order < length xs) (sym (others_are c)) c.requires.more)

line_is : (c : After-index) → c.index.result.now ≡ get_or c.other.inside.lines.items c.len-place.result 0
line_is c = get_or_read c.other.inside.lines.items c.len-place.result c.index.result.now (below c) c.index.ensures 0

pub add-requires-clause-new : goal.add-requires-clause-new
add-requires-clause-new c =
    let p = (goal.at.add-requires-clause-new c).After-index in
    let own : AtItsPlace c.args.other.now.order = subst AtItsPlace (others_are p) c.other.invariant.0.at_its_place in
    ap (place_of c.args.self.now.order) (line_is p ∙ (λ i. get_or (others_are p i) (place_is p i) 0))
    ∙ next_is_new c.args.self.now.order c.args.other.now.order own c.requires.front c.requires.more

pub add-requires-clause-free : goal.add-requires-clause-free
add-requires-clause-free c =
    let p = (goal.at.add-requires-clause-free c).After-index in
    let own : AtItsPlace c.args.other.now.order = subst AtItsPlace (others_are p) c.other.invariant.0.at_its_place in
    sym c.requires.slot.1
    ∙ next_is_new c.args.self.now.order c.args.other.now.order own c.requires.front c.requires.more

pub returns-clause-part : goal.returns-clause-part
returns-clause-part c =
    let p = (goal.at.returns-clause-part c).After-index in
    let others : List ℕ = c.other.inside.lines.items in
    let marks : List ℕ = c.other.inside.masks.items in
    let stored : List ℕ = c.other.inside.bytes.items in
    let lines : List ℕ = c.self-2.inside.lines.items in
    let masks : List ℕ = c.self-2.inside.masks.items in
    let bytes : List ℕ = c.self-2.inside.bytes.items in
    let n : ℕ = c.len-place.result in
    let now : List ℕ =
    take c.self-2.inside.bytes.len (c.copy_place.new.bytes ++ drop (length c.copy_place.new.bytes) bytes) in
    let lines_are : lines ≡ c.args.self.now.order ++ get_or others n 0 ∷ [] =
    ap (λ h. h.order) c.self-2.view_is ∙ c.add.ensures.order ∙ ap (λ l. c.args.self.now.order ++ l ∷ []) (line_is p) in
    let all : c.self-2.inside.bytes.len ≡ length bytes = search rules in
    let written : now ≡ c.copy_place.new.bytes =
    take_at c.copy_place.new.bytes _ c.self-2.inside.bytes.len (search rules) in
    let room : n < length masks = omega (
      arith,
      ap length lines_are,
      length_push c.args.self.now.order (get_or others n 0),
      place_is p,
      c.self-2.invariant.0.within,
      c.self-2.invariant.0.masks,
    ) in
    let mark : c.index-2.result.now ≡ get_or marks n 0 =
    get_or_read marks n c.index-2.result.now
    (omega (arith, below p, c.other.invariant.0.within, c.other.invariant.0.masks)) c.index-2.ensures 0 in
    copied c.args.self.now.order lines masks bytes others marks stored now c.args.self.now.bytes c.args.other.now.bytes
    n c.index-2.result.now
    c.other.invariant.0.at_its_place (below p) (sym (place_is p)) lines_are room mark
    (λ q. ap (λ xs. get_or xs q 0) written ∙ c.copy_place.ensures q
    ∙ (λ i. cond (eqb (q / 64) n) (get_or (c.deref.ensures.value i) q 0) (get_or (c.deref_mut.ensures.value i) q 0)))
    (ap (λ h. h.bytes) c.self-2.view_is ∙ c.add.ensures.bytes) (ap (λ h. h.bytes) c.other.view_is) c.requires.part
