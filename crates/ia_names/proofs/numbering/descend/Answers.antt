use Rattle.std.proofs.Common.{◌≡◌, ℕ, ◌+◌, ◌-◌, ◌<◌, ◌≤◌, ◌++◌, List, [], true, sym, ◌∙◌, ap, take, drop, length}
use Rattle.std.proofs.Common.{get_or, append_assoc, take-add, arith}
use Rattle.std.proofs.lemmas.List.{take_rest, drop-drop}
use Rattle.std.proofs.lemmas.Grind.{common_steps}
use Rattle.std.specs.List.{prefix_len}
use Rattle.ia_names.specs.Tries.{is_letter, is_part, may_follow, wholes}
use Rattle.ia_names.proofs.Cuts.{first_part, rest_follows}
use Rattle.ia_names.proofs.numbering.descend.Goals as goal

some_left : (name : List ℕ) (place : ℕ) → place < length name → 0 < length (drop place name)
some_left name place h = grind (arith, common_steps)

part_is : (front name : List ℕ) (place long : ℕ) → place < length name → may_follow front (drop place name) ≡ true
    → long ≡ 1 + prefix_len is_letter (drop 1 (take (length name - place) (drop place name)))
    → is_part front (take long (take (length name - place) (drop place name))) ≡ true
part_is front name place long h follows e =
    let rest : take (length name - place) (drop place name) ≡ drop place name = take_rest name place in
    let short : long ≡ 1 + prefix_len is_letter (drop 1 (drop place name)) =
    e ∙ ap (λ l. 1 + prefix_len is_letter (drop 1 l)) rest in
    ap (λ l. is_part front (take long l)) rest
    ∙ first_part front (drop place name) long follows (some_left name place h) short

goes_on : (front name : List ℕ) (place long : ℕ) → place < length name
    → long ≡ 1 + prefix_len is_letter (drop 1 (take (length name - place) (drop place name)))
    → may_follow front (drop (place + long) name) ≡ true
goes_on front name place long h e =
    let rest : take (length name - place) (drop place name) ≡ drop place name = take_rest name place in
    let short : long ≡ 1 + prefix_len is_letter (drop 1 (drop place name)) =
    e ∙ ap (λ l. 1 + prefix_len is_letter (drop 1 l)) rest in
    sym (ap (may_follow front) (drop-drop long place name))
    ∙ rest_follows front (drop place name) long (some_left name place h) short

joined : (name : List ℕ) (place long : ℕ) → place ≤ length name
    → take place name ++ take long (take (length name - place) (drop place name)) ≡ take (place + long) name
joined name place long h =
    ap (λ l. take place name ++ take long l) (take_rest name place) ∙ sym (take-add place long name)

pub child-requires-clause-part : goal.child-requires-clause-part
child-requires-clause-part c = part_is (get_or (wholes c.loop-place.nodes.keys) c.loop-place.number []) c.args.name.now
    c.loop-place.place c.part_length-long.result
    c.loop-place-test.true c.loop-place.invariant.follows c.part_length-long.ensures.long

pub loop-place-preserved : goal.loop-place-preserved
loop-place-preserved c =
    let name = c.args.name.now in
    let place = c.loop-place.place in
    let long = c.part_length-long.result in
    let w = c.part_length-long.ensures.within in
    let rest : length (take (length name - place) (drop place name)) ≡ length name - place =
    grind (arith, common_steps) in
    record {
      within = omega (arith, w, rest, c.loop-place-test.true);
      tree = c.child.ensures.tree;
      kept = λ i h.
          let a = c.loop-place.invariant.kept i h in
          let b = c.child.ensures.kept i a.0 in
          (b.0, b.1 ∙ a.1);
      known = c.in_ok-number.ensures.known;
      named = c.in_ok-number.ensures.named
          ∙ ap (λ l. l ++ take long (take (length name - place) (drop place name))) c.loop-place.invariant.named
          ∙ append_assoc (get_or (wholes c.args.nodes.now.keys) c.args.from []) (take place name)
          (take long (take (length name - place) (drop place name)))
          ∙ ap (λ l. get_or (wholes c.args.nodes.now.keys) c.args.from [] ++ l)
          (joined name place long c.loop-place.invariant.within);
      follows = goes_on (get_or (wholes c.child.new.nodes.keys) c.in_ok-number.number []) name place long
          c.loop-place-test.true c.part_length-long.ensures.long;
    }
