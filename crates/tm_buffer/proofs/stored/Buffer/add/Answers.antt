use Rattle.std.proofs.Common.{◌≡◌, ◌+◌, ◌<◌, ◌++◌, ◌∷◌, [], ℕ, Bool, List, true, length, vec_len, cond, sym, ap, ◌∙◌}
use Rattle.std.proofs.Common.{arith, rules, None, subst}
use Rattle.std.proofs.Math.ListN.{length-set, set}
use Rattle.std.proofs.lemmas.List.{length_push}
use Rattle.std.specs.Result.{is_ok}
use Rattle.tm_buffer.specs.Buffer.{BufferValue, place_of}
use Rattle.tm_buffer.specs.Slots.{bytes_of, AtItsPlace, AreHeld}
use Rattle.tm_buffer.proofs.Places.{at_place_push}
use Rattle.tm_buffer.proofs.Kept.{bytes_taken}
use Rattle.tm_buffer.proofs.Holding.{held_more, room_left}
use Rattle.tm_buffer.proofs.stored.Buffer.add.Goals as goal

-- there is room for the line
left : {b v : BufferValue} {places : List ℕ} (slot : ℕ) → b ≡ v → AreHeld b.slots places b.room
    → length b.slots ≡ length b.order
    → slot < v.room → place_of v.slots slot ≡ None → length b.order < b.room
left {b} {v} {places} slot seen held each low free =
    omega (
      arith,
      each,
      room_left b.slots places b.room slot held (omega (arith, low, ap (λ h. h.room) seen))
          (ap (λ h. place_of h.slots slot) seen ∙ free),
    )

pub index_mut-requires : goal.index_mut-requires
index_mut-requires c =
    let count : vec_len c.self.inside.lines ≡ length c.self.inside.lines.items = search rules in
    let masks : vec_len c.self.inside.masks ≡ length c.self.inside.masks.items = search rules in
    let fits =
    left c.args.slot c.self.view_is c.self.invariant.0.held c.self.invariant.0.each c.requires.low c.requires.free in
    omega (arith, c.self.invariant.0.masks, fits)

pub unwrap-requires : goal.unwrap-requires
unwrap-requires c =
    let count : vec_len c.self.inside.lines ≡ length c.self.inside.lines.items = search rules in
    let fits =
    left c.args.slot c.self.view_is c.self.invariant.0.held c.self.invariant.0.each c.requires.low c.requires.free in
    c.push.ensures.succeeds (omega (arith, c.self.invariant.1, fits))

pub unwrap-requires-2 : goal.unwrap-requires-2
unwrap-requires-2 c =
    let count : vec_len c.self.inside.slots ≡ length c.self.inside.slots.items = search rules in
    let fits =
    left c.args.slot c.self.view_is c.self.invariant.0.held c.self.invariant.0.each c.requires.low c.requires.free in
    c.push-2.ensures.succeeds (omega (arith, c.self.invariant.2, c.self.invariant.0.each, fits))

-- what a list is after a push that succeeded
pushed_is : (xs : List ℕ) (x : ℕ) {now : List ℕ} {ok : Bool} → now ≡ cond ok (xs ++ x ∷ []) xs → ok ≡ true
    → now ≡ xs ++ x ∷ []
pushed_is xs x is succeeds = is ∙ ap (λ t. cond t (xs ++ x ∷ []) xs) succeeds

pub invariant_of-self : goal.invariant_of-self
invariant_of-self c =
    let lines : List ℕ = c.self.inside.lines.items in
    let slots : List ℕ = c.self.inside.slots.items in
    let places : List ℕ = c.self.inside.places.items in
    let count : vec_len c.self.inside.lines ≡ length c.self.inside.lines.items = search rules in
    let room_is : c.self.inside.room ≡ c.args.self.now.room = ap (λ h. h.room) c.self.view_is in
    let pushed : c.push.new.self.items ≡ lines ++ c.args.line ∷ [] =
    pushed_is _ _ c.push.ensures.items (ap is_ok c.unwrap.ensures) in
    let given : c.push-2.new.self.items ≡ slots ++ c.args.slot ∷ [] =
    pushed_is _ _ c.push-2.ensures.items (ap is_ok c.unwrap-2.ensures) in
    let none : place_of lines c.args.line ≡ None =
    ap (λ h. place_of h.order c.args.line) c.self.view_is ∙ c.requires.new in
    let free : place_of slots c.args.slot ≡ None =
    ap (λ h. place_of h.slots c.args.slot) c.self.view_is ∙ c.requires.free in
    let fits : length lines < c.self.inside.room =
    left c.args.slot c.self.view_is c.self.invariant.0.held c.self.invariant.0.each c.requires.low c.requires.free in
    let place : AtItsPlace c.push.new.self.items =
    subst AtItsPlace (sym pushed) (at_place_push lines c.args.line none c.self.invariant.0.at_its_place) in
    let held : AreHeld (slots ++ c.args.slot ∷ []) (set places c.args.slot c.len-place.result) c.self.inside.room =
    held_more slots places c.self.inside.room c.args.slot c.len-place.result c.self.invariant.0.held
    (c.len-place.ensures ∙ count ∙ sym c.self.invariant.0.each) (omega arith) c.self.invariant.0.places free in (
      record {
        at_its_place = place;
        within = omega (arith, ap length pushed, length_push lines c.args.line);
        masks = length-set c.self.inside.masks.items c.len-place.result 0 ∙ c.self.invariant.0.masks;
        bytes = c.self.invariant.0.bytes;
        each = ap length given ∙ length_push slots c.args.slot ∙ ap (λ n. n + 1) c.self.invariant.0.each
            ∙ sym (ap length pushed ∙ length_push lines c.args.line);
        places = length-set places c.args.slot c.len-place.result ∙ c.self.invariant.0.places;
        held = subst (λ xs. AreHeld xs (set places c.args.slot c.len-place.result) c.self.inside.room) (sym given) held;
      },
      omega (arith, c.push.ensures.capacity, c.self.invariant.1),
      omega (arith, c.push-2.ensures.capacity, c.self.invariant.2),
      c.self.invariant.3,
    )

pub returns-clause-bytes : goal.returns-clause-bytes
returns-clause-bytes c =
    let count : vec_len c.self.inside.lines ≡ length c.self.inside.lines.items = search rules in
    let pushed : c.push.new.self.items ≡ c.self.inside.lines.items ++ c.args.line ∷ [] =
    pushed_is _ _ c.push.ensures.items (ap is_ok c.unwrap.ensures) in
    let fits : length c.self.inside.lines.items < c.self.inside.room =
    left c.args.slot c.self.view_is c.self.invariant.0.held c.self.invariant.0.each c.requires.low c.requires.free in
    let end : c.len-place.result ≡ length c.self.inside.lines.items = c.len-place.ensures ∙ count in
    ap (λ xs. bytes_of xs (set c.self.inside.masks.items c.len-place.result 0) c.self.inside.bytes.items) pushed
    ∙ ap (λ n. bytes_of (c.self.inside.lines.items ++ c.args.line ∷ []) (set c.self.inside.masks.items n 0)
    c.self.inside.bytes.items) end
    ∙ bytes_taken c.self.inside.lines.items c.self.inside.masks.items c.self.inside.bytes.items c.args.line
    (omega (arith, fits, c.self.invariant.0.masks))
    ∙ ap (λ h. h.bytes) c.self.view_is
