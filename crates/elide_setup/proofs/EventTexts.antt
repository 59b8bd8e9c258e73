-- A text of `--events`, in its pieces.
use Rattle.std.proofs.Common.{◌≡◌, ◌∙◌, ℕ, Bool, true, false, cond, List, [], ◌∷◌, Option, None, Some, refl, sym, ap}
use Rattle.std.proofs.Common.{length}
use Rattle.std.specs.Prelude.{◌==◌, if◌then◌else◌, nat_lt, option_and_then}
use Rattle.std.specs.List.{after_first, before_first, position_or_len, slice_split}
use Rattle.std.proofs.lemmas.Bool.{ltb-true}
use Rattle.std.proofs.lemmas.List.Splits.{slice_split_first}
use Rattle.std.proofs.lemmas.Option.{same_Some}
use Rattle.tm_pick.specs.declared.kinds.Kinds.{Kinds}
use Rattle.tm_schedule.proofs.Cuts.{cut_nowhere}
use Rattle.elide_setup.specs.Events.{kind_said, kinds_more, names_in, pieces, with_kind}

-- ---- names with commas between

-- the pieces at a comma, whether there is one or not
abbrev pieces_by : Bool → List ℕ → List ℕ × Option (List ℕ)
pieces_by true text = (before_first (λ b. b == 44) text, Some (after_first (λ b. b == 44) text))
pieces_by false text = (text, None)

by_either : (b : Bool) (text : List ℕ)
    → (if b then (before_first (λ b. b == 44) text, Some (after_first (λ b. b == 44) text)) else (text, None))
    ≡ pieces_by b text
by_either true text = refl
by_either false text = refl

by_comma : (text : List ℕ)
    → pieces (λ b. b == 44) text ≡ pieces_by (nat_lt (position_or_len (λ b. b == 44) text) (length text)) text
by_comma text = by_either (nat_lt (position_or_len (λ b. b == 44) text) (length text)) text

names_by : (b : Bool) (text name rest : List ℕ) → nat_lt (position_or_len (λ b. b == 44) text) (length text) ≡ b →
    name ≡ (pieces_by b text).0 →
    Some rest ≡ (pieces_by b text).1 →
    names_in text ≡ name ∷ names_in rest
names_by true text name rest e h k =
    let p : ℕ → Bool = λ b. b == 44 in
    let below = ltb-true (position_or_len p text) (length text) e in
    let same = same_Some rest (after_first p text) k in
    slice_split_first p text 0 below ∙ ap (λ l. l ∷ slice_split p (after_first p text)) (sym h)
    ∙ ap (λ l. name ∷ slice_split p l) (sym same)
names_by false text name rest e h k = cc

-- the first, and others behind it
pub names_first : (text name rest : List ℕ) → name ≡ (pieces (λ b. b == 44) text).0
    → Some rest ≡ (pieces (λ b. b == 44) text).1 →
    names_in text ≡ name ∷ names_in rest
names_first text name rest h k =
    names_by (nat_lt (position_or_len (λ b. b == 44) text) (length text)) text name rest refl
    (h ∙ ap (λ (t : List ℕ × Option (List ℕ)). t.0) (by_comma text))
    (k ∙ ap (λ (t : List ℕ × Option (List ℕ)). t.1) (by_comma text))

-- there is a first
head_by : (b : Bool) (text : List ℕ) → nat_lt (position_or_len (λ b. b == 44) text) (length text) ≡ b
    → (rest : List (List ℕ)) × (names_in text ≡ (pieces_by b text).0 ∷ rest)
head_by true text e =
    let p : ℕ → Bool = λ b. b == 44 in
    (slice_split p (after_first p text), slice_split_first p text 0 (ltb-true (position_or_len p text) (length text) e))
head_by false text e =
    let p : ℕ → Bool = λ b. b == 44 in
    ([], cut_nowhere p text (sym (ap (λ (t : Bool). cond t (Some (position_or_len p text)) None) e)))

-- ---- kinds

pub kinds_none : (kinds : Kinds) (text name : List ℕ) → name ≡ (pieces (λ b. b == 44) text).0
    → None ≡ with_kind kinds (kind_said name) →
    None ≡ kinds_more kinds (names_in text)
kinds_none kinds text name h e =
    let head = head_by (nat_lt (position_or_len (λ b. b == 44) text) (length text)) text refl in
    ap (λ o. option_and_then (λ k. kinds_more k head.0) o) e
    ∙ ap (λ l. kinds_more kinds (l ∷ head.0)) (h ∙ ap (λ (t : List ℕ × Option (List ℕ)). t.0) (by_comma text))
    ∙ sym (ap (kinds_more kinds) head.1)

pub kinds_first : (kinds : Kinds) (text name rest : List ℕ) (more : Option Kinds)
    → name ≡ (pieces (λ b. b == 44) text).0 → Some rest ≡ (pieces (λ b. b == 44) text).1 →
    more ≡ with_kind kinds (kind_said name)
    → option_and_then (λ k. kinds_more k (names_in rest)) more ≡ kinds_more kinds (names_in text)
kinds_first kinds text name rest more h k e =
    ap (λ o. option_and_then (λ k. kinds_more k (names_in rest)) o) e
    ∙ sym (ap (kinds_more kinds) (names_first text name rest h k))
