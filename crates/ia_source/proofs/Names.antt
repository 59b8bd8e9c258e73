-- Symbols that are defined.
use Rattle.std.proofs.Common.{◌≡◌, ℕ, Bool, true, false, not, cond, List, [], ◌∷◌, ◌++◌, refl, sym, ◌∙◌, ap, map, arith}
use Rattle.std.proofs.lemmas.List.{map-append}
use Rattle.std.specs.Prelude.{◌||◌}
use Rattle.std.specs.List.{list_any}
use Rattle.std.specs.Str.{bytes_eq}
use Rattle.std.specs.Cmp.Lexicographic.{bytes_decides}
use Rattle.indexmap.specs.IndexSet.{insert_key}
use Rattle.ia_item.specs.declared.symbol.Symbol.{Symbol}
use Rattle.ia_item.specs.Names.{same_symbol}
use Rattle.ia_names.specs.Namings.{Naming, IsOneToOne}
use Rattle.ia_source.specs.Source.{is_among}

abbrev name_by : Naming → Symbol → List ℕ
name_by naming s = naming s.number

-- symbols are the same where their names are
same_by_name : (naming : Naming) → IsOneToOne naming
    → (m n : Symbol) → same_symbol m n ≡ bytes_eq (naming m.number) (naming n.number)
same_by_name naming one m n = by (same_symbol m n) (bytes_eq (naming m.number) (naming n.number)) refl refl
  where
    equal : same_symbol m n ≡ true → m.number ≡ n.number
    equal e = grind (arith, e)

    same : m.number ≡ n.number → same_symbol m n ≡ true
    same e = grind (arith, e)

    by : (a b : Bool) → same_symbol m n ≡ a → bytes_eq (naming m.number) (naming n.number) ≡ b
        → same_symbol m n ≡ bytes_eq (naming m.number) (naming n.number)
    by true true e f = e ∙ sym f
    by false false e f = e ∙ sym f
    by true false e f =
        let yes = (bytes_decides (naming m.number) (naming n.number)).1 (ap naming (equal e)) in
        absurd cc
    by false true e f =
        let yes = same (one m.number n.number ((bytes_decides (naming m.number) (naming n.number)).0 f)) in
        absurd cc

among_keys : (naming : Naming) → IsOneToOne naming → (ks : List Symbol)
    (n : Symbol) → list_any (same_symbol n) ks ≡ is_among (map (name_by naming) ks) (naming n.number)
among_keys naming one [] n = refl
among_keys naming one (k ∷ ks) n =
    ap (λ b. b || list_any (same_symbol n) ks) (same_by_name naming one n k)
    ∙ ap (λ b. bytes_eq (naming n.number) (naming k.number) || b) (among_keys naming one ks n)

-- a symbol that was not among the symbols stands behind them
pub names_after : (naming : Naming) (old new : List Symbol) (n : Symbol) (w : List ℕ) (b : Bool)
    → new ≡ insert_key same_symbol old n → naming n.number ≡ w → b ≡ not (list_any (same_symbol n) old) → b ≡ true
    → map (name_by naming) new ≡ map (name_by naming) old ++ w ∷ []
names_after naming old new n w b e f g h =
    let absent : list_any (same_symbol n) old ≡ false = flip (list_any (same_symbol n) old) (sym g ∙ h) in
    ap (map (name_by naming)) (e ∙ ap (λ t. cond t old (old ++ n ∷ [])) absent)
    ∙ map-append (name_by naming) old (n ∷ []) ∙ ap (λ v. map (name_by naming) old ++ v ∷ []) f
  where
    flip : (t : Bool) → not t ≡ true → t ≡ false
    flip true e = sym e
    flip false e = refl

pub was_among : (naming : Naming) → IsOneToOne naming → (old : List Symbol) (n : Symbol) (w : List ℕ)
    (b t : Bool) → naming n.number ≡ w → b ≡ not (list_any (same_symbol n) old) → b ≡ t
    → is_among (map (name_by naming) old) w ≡ not t
was_among naming one old n w b t f g h =
    sym (ap (is_among (map (name_by naming) old)) f) ∙ sym (among_keys naming one old n)
    ∙ turn (list_any (same_symbol n) old) t (sym g ∙ h)
  where
    turn : (x y : Bool) → not x ≡ y → x ≡ not y
    turn true y e = ap not e
    turn false y e = ap not e
