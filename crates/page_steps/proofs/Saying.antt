-- Members one behind the other.
use Rattle.std.proofs.Common.{◌≡◌, ℕ, ◌+◌, ◌≤◌, Bool, true, false, List, [], ◌∷◌, ◌++◌, Option, Some, None, arith}
use Rattle.std.proofs.Common.{codes, length, refl, subst}
use Rattle.std.specs.List.{list_any}
use Rattle.std.specs.Prelude.{OnOk, Result, is_some}
use Rattle.text_out.specs.Writing.{Device, Wrote}
use Rattle.page_steps.specs.Members.{hits_from, lead, member_text, members_text, named, some_then}
use Rattle.page_steps.specs.Types.{Hit}
use Rattle.page_steps.proofs.Texts.{then_on_ok}

-- a member that has letters says something
member_says : (some : Bool) (name text : List ℕ) → 1 ≤ length name → some_then some (name ++ text) ≡ true
member_says some [] text h = absurd (omega arith)
member_says some (letter ∷ name) text h = refl

pub named_says : {A : Type 0} (some : Bool) (name : List ℕ) (text : List A → List ℕ) (items : List A)
    → 1 ≤ length name →
    1 ≤ length items → some_then some (named name text items) ≡ true
named_says some name text [] h k = absurd (omega arith)
named_says some name text (item ∷ items) h k = member_says some name (text (item ∷ items)) h

-- a member, and those behind it
pub member_then : {T E : Type 0} {a b : Device} (c : Device) (some behind : Bool) (member : List ℕ)
    (members : List (List ℕ))
    (r : Result T E) → behind ≡ some_then some member → Wrote a b (member_text some member) →
    OnOk r (Wrote b c (members_text behind members)) → OnOk r (Wrote a c (members_text some (member ∷ members)))
member_then {T} {E} {a} {b} c some behind member members r e h k =
    then_on_ok c (members_text (some_then some member) members) r h
    (subst (λ (is : Bool). OnOk r (Wrote b c (members_text is members))) e k)

-- ---- hits

pub no_hits : (some : Bool) (core : ℕ) (hits : List (Option Hit)) → list_any is_some hits ≡ false
    → hits_from some core hits ≡ []
no_hits some core [] e = refl
no_hits some core (None ∷ hits) e = no_hits some (core + 1) hits e
no_hits some core (Some hit ∷ hits) e = cc

pub some_hits : (core : ℕ) (hits : List (Option Hit)) → list_any is_some hits ≡ true
    → 1 ≤ length (hits_from false core hits)
some_hits core [] e = cc
some_hits core (None ∷ hits) e = some_hits (core + 1) hits e
some_hits core (Some hit ∷ hits) e = omega arith

-- a list in brackets behind its name
pub bracket_text : (some : Bool) (items : List ℕ) → 1 ≤ length items →
    lead some ++ (codes "\"d\":[" ++ (items ++ codes "]"))
    ≡ member_text some (named (codes "\"d\":[") (λ text. text ++ codes "]") items)
bracket_text some [] h = absurd (omega arith)
bracket_text some (item ∷ items) h = refl

pub bracket_says : (some : Bool) (items : List ℕ) → 1 ≤ length items →
    some_then some (named (codes "\"d\":[") (λ text. text ++ codes "]") items) ≡ true
bracket_says some [] h = absurd (omega arith)
bracket_says some (item ∷ items) h = refl
