-- Variables, and one more.
use Rattle.std.proofs.Common.{◌≡◌, ◌∙◌, Bool, true, List, [], ◌∷◌, ◌++◌, ap, append_assoc, append-nil, refl, sym}
use Rattle.page_text.specs.Commas.{comma_if}
use Rattle.elide_page.specs.Fronts.{shown_text, shows_text}
use Rattle.elide_page.specs.declared.shows.Shown.{Shown}

-- whether one was written
abbrev pub some_shown : Bool → List Shown → Bool
some_shown some [] = some
some_shown some (shown ∷ others) = some_shown true others

pub shows_and : (some : Bool) (list : List Shown) (shown : Shown) →
    shows_text some (list ++ shown ∷ []) ≡ shows_text some list ++ (comma_if (some_shown some list) ++ shown_text shown)
shows_and some [] shown = ap (λ t. comma_if some ++ t) (append-nil (shown_text shown))
shows_and some (first ∷ list) shown =
    ap (λ t. comma_if some ++ (shown_text first ++ t)) (shows_and true list shown)
    ∙ ap (λ t. comma_if some ++ t)
    (sym (append_assoc (shown_text first) (shows_text true list) (comma_if (some_shown true list) ++ shown_text shown)))
    ∙ sym (append_assoc (comma_if some) (shown_text first ++ shows_text true list)
    (comma_if (some_shown true list) ++ shown_text shown))

pub some_then : (some : Bool) (list : List Shown) (shown : Shown) → some_shown some (list ++ shown ∷ []) ≡ true
some_then some [] shown = refl
some_then some (first ∷ list) shown = some_then true list shown
