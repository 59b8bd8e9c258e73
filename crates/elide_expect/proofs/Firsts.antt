-- The first expectation that is not met.
use Rattle.std.proofs.Common.{◌≡◌, ℕ, zero, suc, ◌+◌, ◌<◌, arith, Bool, true, false, List, [], ◌∷◌, ◌++◌, Option, Some}
use Rattle.std.proofs.Common.{None, refl, sym, ◌∙◌, ap, take, drop, length, get_or, map, append_assoc}
use Rattle.std.proofs.lemmas.Bool.{and_parts}
use Rattle.std.proofs.lemmas.List.{append-nil, drop_more, length-map, map-append, take-map, take_more}
use Rattle.std.proofs.lemmas.List.Elements.{filter_map-append}
use Rattle.std.specs.Prelude.{◌&&◌, filter_map}
use Rattle.std.specs.List.{cons_option, list_all}
use Rattle.elide_expect.specs.declared.expectation.Expected.{Expected}
use Rattle.elide_expect.specs.Expectations.{Wanted}
use Rattle.elide_expect.specs.Judged.{IsFirst, Lines, have_lines, in_order, pattern_of}
use Rattle.elide_expect.specs.Tests.{the_line, the_wanted}

with_next : (es : List Expected) (i : ℕ) (x : Expected) → i < length es → x ≡ get_or es i x
    → map the_wanted (take (i + 1) es) ≡ map the_wanted (take i es) ++ the_wanted x ∷ []
with_next es i x h is = ap (map the_wanted) (take_more es i x h ∙ ap (λ y. take i es ++ y ∷ []) (sym is))
    ∙ map-append the_wanted (take i es) (x ∷ [])

all_push : (p : Wanted → Bool) (ws : List Wanted) (w : Wanted) (b : Bool) → list_all p ws ≡ true → p w ≡ b
    → list_all p (ws ++ w ∷ []) ≡ b
all_push p [] w true h e = ap (λ t. t && true) e
all_push p [] w false h e = ap (λ t. t && true) e
all_push p (x ∷ ws) w b h e =
    let parts = and_parts (p x) (list_all p ws) h in
    ap (λ t. t && list_all p (ws ++ w ∷ [])) parts.0 ∙ all_push p ws w b parts.1 e

one : {X : Type 0} (o : Option X) (xs : List X) → cons_option o [] ++ xs ≡ cons_option o xs
one None xs = refl
one (Some x) xs = refl

pattern_push : (ws : List Wanted) (w : Wanted) (patterns : List (List (List ℕ)))
    → filter_map pattern_of (ws ++ w ∷ []) ++ patterns ≡ filter_map pattern_of ws ++ cons_option (pattern_of w) patterns
pattern_push ws w patterns = ap (λ l. l ++ patterns) (filter_map-append pattern_of ws (w ∷ []))
    ∙ append_assoc (filter_map pattern_of ws) (cons_option (pattern_of w) []) patterns
    ∙ ap (λ l. filter_map pattern_of ws ++ l) (one (pattern_of w) patterns)

number_at : (es : List Expected) (i : ℕ) (x : Expected)
    → get_or (map the_line es) i (the_line x) ≡ the_line (get_or es i x)
number_at [] i x = refl
number_at (e ∷ es) zero x = refl
number_at (e ∷ es) (suc i) x = number_at es i x

pub met_more : (es : List Expected) (i : ℕ) (x : Expected) (p : Wanted → Bool) → i < length es → x ≡ get_or es i x
    → list_all p (map the_wanted (take i es)) ≡ true → p (the_wanted x) ≡ true
    → list_all p (map the_wanted (take (i + 1) es)) ≡ true
met_more es i x p h is before met =
    ap (list_all p) (with_next es i x h is) ∙ all_push p (map the_wanted (take i es)) (the_wanted x) true before met

pub unmet_first : (es : List Expected) (i : ℕ) (x : Expected) (p : Wanted → Bool) → i < length es → x ≡ get_or es i x
    → list_all p (map the_wanted (take i es)) ≡ true → p (the_wanted x) ≡ false
    → IsFirst (map the_line es) (map the_wanted es) (list_all p) (the_line x)
unmet_first es i x p h is before unmet =
    let long : length (map the_line es) ≡ length es = length-map es the_line in
    record {
      place = i;
      within = omega arith;
      number = number_at es i x ∙ ap the_line (sym is);
      before = ap (list_all p) (take-map the_wanted i es) ∙ before;
      with_it = ap (list_all p) (take-map the_wanted (i + 1) es ∙ with_next es i x h is)
          ∙ all_push p (map the_wanted (take i es)) (the_wanted x) false before unmet;
    }

abbrev pub Leads : List Expected → ℕ → Lines → ℕ → Type 0
Leads es i rows from = (patterns : List (List (List ℕ)))
    → in_order (filter_map pattern_of (map the_wanted (take i es)) ++ patterns) rows
    ≡ in_order patterns (drop from rows)

pub leads_more : (es : List Expected) (i : ℕ) (x : Expected) (rows : Lines) (from next : ℕ) → i < length es
    → x ≡ get_or es i x
    → Leads es i rows from
    → ((patterns : List (List (List ℕ)))
    → in_order (cons_option (pattern_of (the_wanted x)) patterns) (drop from rows) ≡ in_order patterns (drop next rows))
    → Leads es (i + 1) rows next
leads_more es i x rows from next h is before found = λ patterns.
    ap (λ ws. in_order (filter_map pattern_of ws ++ patterns) rows) (with_next es i x h is)
    ∙ ap (λ l. in_order l rows) (pattern_push (map the_wanted (take i es)) (the_wanted x) patterns)
    ∙ before (cons_option (pattern_of (the_wanted x)) patterns) ∙ found patterns

pub same_more : (es : List Expected) (i : ℕ) (x : Expected) (rows : Lines) (from next : ℕ) (whole : Bool)
    → i < length es → x ≡ get_or es i x
    → in_order (filter_map pattern_of (map the_wanted (drop i es))) (drop from rows) ≡ whole
    → ((patterns : List (List (List ℕ)))
    → in_order (cons_option (pattern_of (the_wanted x)) patterns) (drop from rows) ≡ in_order patterns (drop next rows))
    → in_order (filter_map pattern_of (map the_wanted (drop (i + 1) es))) (drop next rows) ≡ whole
same_more es i x rows from next whole h is same found =
    sym (found (filter_map pattern_of (map the_wanted (drop (i + 1) es))))
    ∙ ap (λ l. in_order (filter_map pattern_of (map the_wanted l)) (drop from rows))
    (sym (drop_more es i x h ∙ ap (λ y. y ∷ drop (i + 1) es) (sym is)))
    ∙ same

pub missing_first : (es : List Expected) (i : ℕ) (x : Expected) (rows : Lines) (from : ℕ) → i < length es
    → x ≡ get_or es i x
    → Leads es i rows from
    → ((patterns : List (List (List ℕ)))
    → in_order (cons_option (pattern_of (the_wanted x)) patterns) (drop from rows) ≡ false)
    → IsFirst (map the_line es) (map the_wanted es) (have_lines rows) (the_line x)
missing_first es i x rows from h is before none =
    let long : length (map the_line es) ≡ length es = length-map es the_line in
    let front = map the_wanted (take i es) in
    record {
      place = i;
      within = omega arith;
      number = number_at es i x ∙ ap the_line (sym is);
      before = ap (have_lines rows) (take-map the_wanted i es)
          ∙ ap (λ l. in_order l rows) (sym (append-nil (filter_map pattern_of front))) ∙ before [];
      with_it = ap (have_lines rows) (take-map the_wanted (i + 1) es ∙ with_next es i x h is)
          ∙ ap (λ l. in_order l rows)
          (sym (append-nil (filter_map pattern_of (front ++ the_wanted x ∷ []))) ∙ pattern_push front (the_wanted x) [])
          ∙ before (cons_option (pattern_of (the_wanted x)) []) ∙ none [];
    }
