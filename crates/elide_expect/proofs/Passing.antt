-- When a test passes.
use Rattle.std.proofs.Common.{◌≡◌, ℕ, Bool, true, false, List, [], ◌∷◌, refl, sym, ◌∙◌, ap, map, subst}
use Rattle.std.specs.Prelude.{◌==◌, ◌&&◌, filter_map}
use Rattle.std.specs.List.{list_all}
use Rattle.elide_expect.specs.declared.expectation.Expected.{Expected}
use Rattle.elide_expect.specs.declared.file.Test.{Test}
use Rattle.elide_expect.specs.Expectations.{Wanted}
use Rattle.elide_expect.specs.Judged.{IsFirst, all_lines, all_wanted, Lines, in_order, is_met, passes, pattern_of}
use Rattle.elide_expect.specs.Judged.{wanted_status}
use Rattle.elide_expect.specs.Tests.{expected_content, test_content, the_line, the_wanted}

pub wanteds : (es : List Expected) → map (λ e. e.wanted) (map expected_content es) ≡ map the_wanted es
wanteds [] = refl
wanteds (e ∷ es) = ap (λ ws. the_wanted e ∷ ws) (wanteds es)

pub lines : (es : List Expected) → map (λ e. e.line) (map expected_content es) ≡ map the_line es
lines [] = refl
lines (e ∷ es) = ap (λ ns. the_line e ∷ ns) (lines es)

abbrev pub all_three : ℕ → Lines → List Wanted → Bool
all_three status rows ws =
    (status == wanted_status ws) && list_all (is_met status rows) ws && in_order (filter_map pattern_of ws) rows

passes_is : (test : Test) (status : ℕ) (rows : Lines)
    → passes (test_content test) status rows ≡ all_three status rows (map the_wanted test.expectations.items)
unfolding passes
passes_is test status rows = ap (all_three status rows) (wanteds test.expectations.items)

not_first : (a b c : Bool) → a ≡ false → (a && b && c) ≡ false
not_first a b c h = rw h refl

not_second : (a b c : Bool) → b ≡ false → (a && b && c) ≡ false
not_second true b c h = rw h refl
not_second false b c h = refl

not_third : (a b c : Bool) → c ≡ false → (a && b && c) ≡ false
not_third true true c h = h
not_third true false c h = refl
not_third false b c h = refl

pub other_status : (test : Test) (status : ℕ) (rows : Lines)
    → (status == wanted_status (map the_wanted test.expectations.items)) ≡ false
    → passes (test_content test) status rows ≡ false
other_status test status rows h = passes_is test status rows ∙ not_first _ _ _ h

pub one_unmet : (test : Test) (status : ℕ) (rows : Lines)
    → list_all (is_met status rows) (map the_wanted test.expectations.items) ≡ false
    → passes (test_content test) status rows ≡ false
one_unmet test status rows h = passes_is test status rows
    ∙ not_second (status == wanted_status (map the_wanted test.expectations.items)) _ _ h

pub one_missing : (test : Test) (status : ℕ) (rows : Lines)
    → in_order (filter_map pattern_of (map the_wanted test.expectations.items)) rows ≡ false
    → passes (test_content test) status rows ≡ false
one_missing test status rows h = passes_is test status rows
    ∙ not_third (status == wanted_status (map the_wanted test.expectations.items))
    (list_all (is_met status rows) (map the_wanted test.expectations.items)) _ h

pub all_met : (test : Test) (status : ℕ) (rows : Lines)
    → (status == wanted_status (map the_wanted test.expectations.items)) ≡ true
    → list_all (is_met status rows) (map the_wanted test.expectations.items) ≡ true
    → in_order (filter_map pattern_of (map the_wanted test.expectations.items)) rows ≡ true
    → passes (test_content test) status rows ≡ true
all_met test status rows a b c = passes_is test status rows ∙ rw (a, b, c) refl

pub moved : (f : Lines → List Expected → Bool) (b : Bool) (r s : Lines) (d e : List Expected) → r ≡ s → d ≡ e
    → f r d ≡ b → f s e ≡ b
moved f b r s d e p q h = sym (ap (λ x. f x d) p ∙ ap (f s) q) ∙ h

pub told : (test : Test) (d : List Expected) (n : ℕ) (met : Lines → List Wanted → Bool) (r s : Lines)
    → d ≡ test.expectations.items → r ≡ s
    → IsFirst (map the_line d) (map the_wanted d) (met r) n
    → IsFirst (all_lines (test_content test)) (all_wanted (test_content test)) (met s) n
told test d n met r s q p h =
    subst (λ (x : Lines). IsFirst (all_lines (test_content test)) (all_wanted (test_content test)) (met x) n) p
    (subst (λ (l : List ℕ). IsFirst l (all_wanted (test_content test)) (met r) n)
    (ap (map the_line) q ∙ sym (lines test.expectations.items))
    (subst (λ (ws : List Wanted). IsFirst (map the_line d) ws (met r) n)
    (ap (map the_wanted) q ∙ sym (wanteds test.expectations.items)) h))

pub status_told : (test : Test) (d : List Expected) (n : ℕ) → d ≡ test.expectations.items
    → n ≡ wanted_status (map the_wanted d)
    → n ≡ wanted_status (map the_wanted test.expectations.items)
status_told test d n q h = h ∙ ap (λ l. wanted_status (map the_wanted l)) q
