-- One more node.
use Rattle.std.proofs.Common.{◌≡◌, ℕ, zero, suc, ◌+◌, ◌<◌, true, false, List, [], ◌∷◌, ◌++◌, ◌⊎◌, inl, inr, refl, sym}
use Rattle.std.proofs.Common.{◌∙◌, ap, length, get_or, subst, arith}
use Rattle.std.proofs.lemmas.List.{get_or_append_left}
use Rattle.std.proofs.Math.Seq.{get_or-append_seam}
use Rattle.std.proofs.lemmas.Grind.{fold-append, common_steps}
use Rattle.std.specs.List.{fold, list_any}
use Rattle.std.specs.Prelude.{◌||◌}
use Rattle.std.specs.Cmp.Lexicographic.{bytes_decides}
use Rattle.ia_names.specs.declared.node.Node.{Node}
use Rattle.ia_names.specs.Nodes.{node_key, same_node}
use Rattle.ia_names.specs.Tries.{is_part, with_whole, wholes, IsChild, IsTree}
use Rattle.ia_names.proofs.Parts.{either, last_part, has_letters}

length_from : (ws : List (List ℕ)) (ns : List Node) → length (fold with_whole ws ns) ≡ length ws + length ns
length_from ws [] = omega arith
length_from ws (n ∷ ns) =
    let more = length_from (with_whole ws n) ns in
    let one : length (with_whole ws n) ≡ length ws + 1 = grind (arith, common_steps) in
    omega (arith, more, one)

pub length_wholes : (ns : List Node) → length (wholes ns) ≡ length ns + 1
length_wholes ns = let e = length_from ([] ∷ []) ns in omega (arith, e)

first_from : (w : List ℕ) (ws : List (List ℕ)) (ns : List Node) → get_or (fold with_whole (w ∷ ws) ns) 0 [] ≡ w
first_from w ws [] = refl
first_from w ws (n ∷ ns) = first_from w (ws ++ (get_or (w ∷ ws) n.parent [] ++ n.part.now) ∷ []) ns

-- the name without letters comes first
pub first_whole : (ns : List Node) → get_or (wholes ns) 0 [] ≡ []
first_whole ns = first_from [] [] ns

pub wholes_more : (ns : List Node) (n : Node)
    → wholes (ns ++ n ∷ []) ≡ wholes ns ++ (get_or (wholes ns) n.parent [] ++ n.part.now) ∷ []
wholes_more ns n = fold-append with_whole ([] ∷ []) ns (n ∷ [])

-- names stay
pub stays : (ns : List Node) (n : Node) (i : ℕ) → i < length (wholes ns)
    → get_or (wholes (ns ++ n ∷ [])) i [] ≡ get_or (wholes ns) i []
stays ns n i h = ap (λ (l : List (List ℕ)). get_or l i []) (wholes_more ns n)
    ∙ get_or_append_left (wholes ns) ((get_or (wholes ns) n.parent [] ++ n.part.now) ∷ []) [] i h

pub newest : (ns : List Node) (n : Node) (i : ℕ) → i ≡ length (wholes ns)
    → get_or (wholes (ns ++ n ∷ [])) i [] ≡ get_or (wholes ns) n.parent [] ++ n.part.now
newest ns n i h =
    ap (λ (l : List (List ℕ)). get_or l i []) (wholes_more ns n)
    ∙ ap (λ k. get_or (wholes ns ++ (get_or (wholes ns) n.parent [] ++ n.part.now) ∷ []) k []) h
    ∙ get_or-append_seam (wholes ns) (get_or (wholes ns) n.parent [] ++ n.part.now) [] []

-- a node that is among the nodes
not_among : (ns : List Node) (n : Node) (i : ℕ) (d : Node) → i < length ns → list_any (same_node n) ns ≡ false
    → node_key n ≡ node_key (get_or ns i d) → ⊥
not_among [] n i d h f e = absurd (omega arith)
not_among (m ∷ ns) n zero d h f e =
    let yes : same_node n m ≡ true = (bytes_decides (node_key n) (node_key m)).1 e in
    let no : (same_node n m || list_any (same_node n) ns) ≡ true = rw yes refl in
    absurd cc
not_among (m ∷ ns) n (suc i) d h f e =
    let parts = either (same_node n m) (list_any (same_node n) ns) f in
    not_among ns n i d (omega arith) parts.1 e

-- the name of a new node is none of those that are there
new_name : (ns : List Node) (n : Node) → IsTree ns → n.parent < length (wholes ns)
    → is_part (get_or (wholes ns) n.parent []) n.part.now ≡ true → list_any (same_node n) ns ≡ false
    → (i : ℕ) → i < length (wholes ns) → get_or (wholes ns) i [] ≡ get_or (wholes ns) n.parent [] ++ n.part.now → ⊥
new_name ns n tree known part fresh zero h e =
    let empty : get_or (wholes ns) n.parent [] ++ n.part.now ≡ [] = sym e ∙ first_whole ns in
    let letters = has_letters (get_or (wholes ns) n.parent []) n.part.now part in
    absurd (none (get_or (wholes ns) n.parent []) n.part.now letters empty)
  where
    none : (a p : List ℕ) → 0 < length p → a ++ p ≡ [] → ⊥
    none [] [] l f = absurd (omega arith)
    none [] (x ∷ p) l f = absurd cc
    none (x ∷ a) p l f = absurd cc
new_name ns n tree known part fresh (suc i) h e =
    let inside : i < length ns = (let l = length_wholes ns in omega (arith, l)) in
    let m : Node = get_or ns i n in
    let child : IsChild (wholes ns) i m = tree.children i n inside in
    let at : get_or (wholes ns) (i + 1) [] ≡ get_or (wholes ns) (suc i) [] =
    (let k : i + 1 ≡ suc i = omega arith in ap (λ j. get_or (wholes ns) j []) k) in
    let one = last_part (get_or (wholes ns) m.parent []) (get_or (wholes ns) n.parent []) m.part.now n.part.now
    child.part part (sym child.whole ∙ at ∙ e) in
    let parent : m.parent ≡ n.parent = tree.distinct m.parent n.parent child.known known one.0 in
    absurd (not_among ns n i n inside fresh (sym (ap (λ p. p ∷ m.part.now) parent ∙ ap (λ p. n.parent ∷ p) one.1)))

-- a tree with one more node
pub grown : (ns : List Node) (n : Node) → IsTree ns → n.parent < length (wholes ns)
    → is_part (get_or (wholes ns) n.parent []) n.part.now ≡ true → list_any (same_node n) ns ≡ false
    → IsTree (ns ++ n ∷ [])
grown ns n tree known part fresh =
    let l = length_wholes ns in
    let m = length_wholes (ns ++ n ∷ []) in
    let k : length (ns ++ n ∷ []) ≡ length ns + 1 = grind (arith, common_steps) in
    record {
      distinct = λ i j h g e. distinct i j (omega (arith, l, m, k, h)) (omega (arith, l, m, k, g)) e;
      children = λ i d h. children i d (omega (arith, k, h));
    }
  where
    ws : List (List ℕ)
    ws = wholes ns

    at : (i : ℕ) → i < length ws + 1 → (i < length ws) ⊎ (i ≡ length ws)
    at i h = grind arith

    distinct : (i j : ℕ) → i < length ws + 1 → j < length ws + 1
        → get_or (wholes (ns ++ n ∷ [])) i [] ≡ get_or (wholes (ns ++ n ∷ [])) j [] → i ≡ j
    distinct i j h g e = elim (at i h) [
      | inl a ↦ elim (at j g) [
        | inl b ↦ tree.distinct i j a b (sym (stays ns n i a) ∙ e ∙ stays ns n j b)
        | inr b ↦ absurd (new_name ns n tree known part fresh i a (sym (stays ns n i a) ∙ e ∙ newest ns n j b))
      ]
      | inr a ↦ elim (at j g) [
        | inl b ↦ absurd (new_name ns n tree known part fresh j b (sym (stays ns n j b) ∙ sym e ∙ newest ns n i a))
        | inr b ↦ a ∙ sym b
      ]
    ]

    more : (w : List ℕ) → length (ws ++ w ∷ []) ≡ length ws + 1
    more w = grind (arith, common_steps)

    longer : length (wholes (ns ++ n ∷ [])) ≡ length ws + 1
    longer = ap length (wholes_more ns n) ∙ more (get_or ws n.parent [] ++ n.part.now)

    inside : (i : ℕ) (d : Node) → i < length ns → IsChild (wholes (ns ++ n ∷ [])) i (get_or ns i d)
    inside i d h =
        let c : IsChild ws i (get_or ns i d) = tree.children i d h in
        let l = length_wholes ns in
        record {
          known = (let k = c.known in omega (arith, longer, k));
          part = ap (λ a. is_part a (get_or ns i d).part.now) (stays ns n (get_or ns i d).parent c.known) ∙ c.part;
          whole = stays ns n (i + 1) (omega (arith, l, h)) ∙ c.whole
              ∙ sym (ap (λ a. a ++ (get_or ns i d).part.now) (stays ns n (get_or ns i d).parent c.known));
        }

    last : (i : ℕ) → i ≡ length ns → IsChild (wholes (ns ++ n ∷ [])) i n
    last i h =
        let l = length_wholes ns in
        record {
          known = omega (arith, longer, known);
          part = ap (λ a. is_part a n.part.now) (stays ns n n.parent known) ∙ part;
          whole =
              newest ns n (i + 1) (omega (arith, l, h)) ∙ sym (ap (λ a. a ++ n.part.now) (stays ns n n.parent known));
        }

    children : (i : ℕ) (d : Node) → i < length ns + 1 → IsChild (wholes (ns ++ n ∷ [])) i (get_or (ns ++ n ∷ []) i d)
    children i d h = by (split i h)
      where
        split : (i : ℕ) → i < length ns + 1 → (i < length ns) ⊎ (i ≡ length ns)
        split i h = grind arith

        by : (i < length ns) ⊎ (i ≡ length ns) → IsChild (wholes (ns ++ n ∷ [])) i (get_or (ns ++ n ∷ []) i d)
        by (inl a) = subst (λ (m : Node). IsChild (wholes (ns ++ n ∷ [])) i m)
            (sym (get_or_append_left ns (n ∷ []) d i a)) (inside i d a)
        by (inr b) = subst (λ (m : Node). IsChild (wholes (ns ++ n ∷ [])) i m)
            (sym (ap (λ j. get_or (ns ++ n ∷ []) j d) b ∙ get_or-append_seam ns n [] d)) (last i b)

-- a tree without nodes
pub bare : IsTree []
bare = record { distinct = λ i j h g e. omega (arith, h, g); children = λ i d h. absurd (omega (arith, h)) }
