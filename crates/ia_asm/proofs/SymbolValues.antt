-- Symbols with their values modulo 2^32.
use Rattle.std.proofs.Common.{◌≡◌, Bool, true, false, cond, List, [], ◌∷◌, refl, ◌∙◌, ap, map}
use Rattle.std.specs.Prelude.{ℤ}
use Rattle.indexmap.specs.IndexMap.{insert_all, insert_entry}
use Rattle.ia_item.specs.declared.name.Name.{Name}
use Rattle.ia_item.specs.Names.{same_name}
use Rattle.ia_asm.specs.Assemblies.{value_modulo, symbol_modulo}

entry_shown : (es : List (Name × ℤ)) (k : Name) (v : ℤ)
    → insert_entry same_name (map symbol_modulo es) k (value_modulo v)
    ≡ map symbol_modulo (insert_entry same_name es k v)
entry_shown [] k v = refl
entry_shown (e ∷ es) k v = by (same_name k e.0) (entry_shown es k v)
  where
    by : (t : Bool)
        → insert_entry same_name (map symbol_modulo es) k (value_modulo v)
        ≡ map symbol_modulo (insert_entry same_name es k v)
        → cond t ((e.0, value_modulo v) ∷ map symbol_modulo es)
        (symbol_modulo e ∷ insert_entry same_name (map symbol_modulo es) k (value_modulo v))
        ≡ map symbol_modulo (cond t ((e.0, v) ∷ es) (e ∷ insert_entry same_name es k v))
    by true h = refl
    by false h = ap (λ l. symbol_modulo e ∷ l) h

pub all_modulo : (es xs : List (Name × ℤ))
    → insert_all same_name (map symbol_modulo es) (map symbol_modulo xs)
    ≡ map symbol_modulo (insert_all same_name es xs)
all_modulo es [] = refl
all_modulo es (x ∷ xs) = ap (λ l. insert_all same_name l (map symbol_modulo xs)) (entry_shown es x.0 x.1)
    ∙ all_modulo (insert_entry same_name es x.0 x.1) xs
