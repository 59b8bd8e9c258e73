-- A row of symbols that grows by one.
use Rattle.std.proofs.Common.{◌≡◌, ◌+◌, ◌<◌, ◌≤◌, ℕ, true, List, [], ◌∷◌, ◌++◌, Option, Some, None, refl, sym, ◌∙◌, ap}
use Rattle.std.proofs.Common.{subst, arith, take, inl, inr}
use Rattle.std.specs.Prelude.{if◌then◌else◌}
use Rattle.std.specs.List.{slice_get}
use Rattle.std.specs.Option.{option_or}
use Rattle.std.specs.Str.{bytes_eq}
use Rattle.std.proofs.lemmas.Bool.{cases_Bool}
use Rattle.std.proofs.lemmas.List.{take_more}
use Rattle.std.proofs.lemmas.Option.{get_or_from_slice_get, slice_get_within}
use Rattle.std.proofs.lemmas.Bool.Decides.{Decides-like, same_from_decides}
use Rattle.std.specs.Prelude.{◌⊎◌}
use Rattle.std.proofs.lemmas.Slice.Eq.{bytes_eq-Decides}
use Rattle.symbols.specs.Symbols.{symbol_in}
use Rattle.symbols.specs.declared.symbol.Symbol.{Symbol}
use Rattle.ia_elf.specs.Symbols.{IsFirstValue, IsNamed, IsSymbol, st_value, symbol_name}
use Rattle.ia_item.specs.Names.{whole_name}
use Rattle.ia_item.specs.declared.name.Name.{Name}
use Rattle.elide_places.specs.FileSymbols.{IsFirstBelow}
use Rattle.ia_asm.specs.Assemblies.{known_as}

-- what a symbol alone is found as
abbrev pub alone : List ℕ → ℕ → List ℕ → Option ℕ
alone own value name = if bytes_eq own name then Some value else None

-- the last one is found where none before it has the name
pub found_last : (row : List Symbol) (symbol : Symbol) (name : List ℕ)
    → symbol_in (row ++ symbol ∷ []) name ≡ option_or (symbol_in row name) (alone symbol.name.items symbol.value name)
found_last [] symbol name =
    elim (cases_Bool (bytes_eq symbol.name.items name)) [ inl t ↦ rw t refl | inr f ↦ rw f refl ]
found_last (first ∷ row) symbol name =
    elim (cases_Bool (bytes_eq first.name.items name)) [ inl t ↦ rw t refl | inr f ↦ rw f (found_last row symbol name) ]

found_as : (row : List Symbol) (symbol : Symbol) (name own : List ℕ) (value : ℕ) → symbol.name.items ≡ own
    → symbol.value ≡ value →
    symbol_in (row ++ symbol ∷ []) name ≡ option_or (symbol_in row name) (alone own value name)
found_as row symbol name own value same is =
    found_last row symbol name ∙ ap (λ t. option_or (symbol_in row name) (alone t symbol.value name)) same
    ∙ ap (λ v. option_or (symbol_in row name) (alone own v name)) is

-- ---- of an executable

none_more : (symbols strings : List ℕ) (end : ℕ) (name : List ℕ) → ¬ IsNamed symbols strings name end
    → IsFirstBelow symbols strings end name None → IsFirstBelow symbols strings (end + 1) name None
none_more symbols strings end name not_it none k below named =
    elim (cases_nat k end (omega arith)) [
      | inl less ↦ none k less named
      | inr same ↦ not_it (subst (λ (n : ℕ). IsNamed symbols strings name n) same named)
    ] where
      cases_nat : (k n : ℕ) → k ≤ n → (k < n) ⊎ (k ≡ n)
      cases_nat k n h = grind arith

pub passed_over : (symbols strings : List ℕ) (end : ℕ) (name : List ℕ) (found : Option ℕ)
    → ¬ IsSymbol symbols strings end → IsFirstBelow symbols strings end name found
    → IsFirstBelow symbols strings (end + 1) name found
passed_over symbols strings end name None none first = none_more symbols strings end name (λ named. none named.0) first
passed_over symbols strings end name (Some value) none first =
    (first.0, omega (arith, first.1), first.2, first.3, first.4)

taken_in : (symbols strings : List ℕ) (end : ℕ) (name own : List ℕ) (value : ℕ) (found : Option ℕ)
    → IsSymbol symbols strings end → own ≡ symbol_name symbols strings end → value ≡ st_value symbols end →
    IsFirstBelow symbols strings end name found
    → IsFirstBelow symbols strings (end + 1) name (option_or found (alone own value name))
taken_in symbols strings end name own value (Some v) is same at first =
    (first.0, omega (arith, first.1), first.2, first.3, first.4)
taken_in symbols strings end name own value None is same at first = elim (cases_Bool (bytes_eq own name)) [
  | inl t ↦ rw t (end, omega arith, (is, sym same ∙ (bytes_eq-Decides own name).0 t), at, first)
  | inr f ↦ rw f (none_more symbols strings end name
      (λ named. let e : bytes_eq own name ≡ true = (bytes_eq-Decides own name).1 (same ∙ named.1) in cc) first)
]

pub entry_taken : (symbols strings : List ℕ) (end : ℕ) (name own : List ℕ) (value : ℕ) (row : List Symbol)
    (symbol : Symbol) → symbol.name.items ≡ own → symbol.value ≡ value →
    IsSymbol symbols strings end → own ≡ symbol_name symbols strings end → value ≡ st_value symbols end →
    IsFirstBelow symbols strings end name (symbol_in row name)
    → IsFirstBelow symbols strings (end + 1) name (symbol_in (row ++ symbol ∷ []) name)
entry_taken symbols strings end name own value row symbol named valued is same at first =
    subst (λ (o : Option ℕ). IsFirstBelow symbols strings (end + 1) name o)
    (sym (found_as row symbol name own value named valued))
    (taken_in symbols strings end name own value (symbol_in row name) is same at first)

pub first_of_all : (symbols strings : List ℕ) (end : ℕ) (name : List ℕ) (found : Option ℕ)
    → ((k : ℕ) → IsNamed symbols strings name k → k < end) → IsFirstBelow symbols strings end name found
    → IsFirstValue symbols strings name found
first_of_all symbols strings end name None within first = λ k named. first k (within k named) named
first_of_all symbols strings end name (Some value) within first = (first.0, first.2, first.3, first.4)

-- ---- of a source

known_last : (es : List (Name × ℕ)) (n : Name) (value : ℕ) (name : List ℕ)
    → known_as name (es ++ (n, value) ∷ [])
    ≡ option_or (known_as name es) (if bytes_eq name (whole_name n) then Some value else None)
known_last [] n value name = elim (cases_Bool (bytes_eq name (whole_name n))) [ inl t ↦ rw t refl | inr f ↦ rw f refl ]
known_last (e ∷ es) n value name =
    elim (cases_Bool (bytes_eq name (whole_name e.0))) [ inl t ↦ rw t refl | inr f ↦ rw f (known_last es n value name) ]

turned : (xs ys : List ℕ) → bytes_eq xs ys ≡ bytes_eq ys xs
turned xs ys = same_from_decides (bytes_eq xs ys) (bytes_eq ys xs) (bytes_eq-Decides xs ys)
    (Decides-like (bytes_eq ys xs) (λ e. sym e) (λ e. sym e) (bytes_eq-Decides ys xs))

pub symbol_taken : (es : List (Name × ℕ)) (n : Name) (value : ℕ) (name : List ℕ) (row : List Symbol) (symbol : Symbol)
    → symbol.name.items ≡ whole_name n → symbol.value ≡ value →
    symbol_in row name ≡ known_as name es → symbol_in (row ++ symbol ∷ []) name ≡ known_as name (es ++ (n, value) ∷ [])
symbol_taken es n value name row symbol named valued so_far =
    found_as row symbol name (whole_name n) value named valued
    ∙ ap (λ o. option_or o (alone (whole_name n) value name)) so_far
    ∙ ap (λ b. option_or (known_as name es) (if b then Some value else None)) (turned (whole_name n) name)
    ∙ sym (known_last es n value name)

pub take_next : {X : Type 0} (xs : List X) (i : ℕ) (x : X) → slice_get xs i ≡ Some x
    → take (i + 1) xs ≡ take i xs ++ x ∷ []
take_next xs i x e =
    take_more xs i x (slice_get_within xs i x e) ∙ ap (λ y. take i xs ++ y ∷ []) (get_or_from_slice_get xs i x x e)
