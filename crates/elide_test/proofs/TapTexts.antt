-- The texts of one more test, and of one more file.
use Rattle.std.proofs.Common.{◌≡◌, ℕ, ◌+◌, ◌<◌, List, [], ◌∷◌, ◌++◌, ◌∙◌, ap, arith, sym, take, get_or, length}
use Rattle.std.proofs.Common.{append_assoc}
use Rattle.std.proofs.lemmas.Grind.{common_steps}
use Rattle.std.proofs.lemmas.List.{take_more}
use Rattle.elide_test.specs.Tap.{count_of, file_text, files_text, test_text, tests_text}
use Rattle.elide_test.specs.declared.report.FileReport.{FileReport}
use Rattle.elide_test.specs.declared.report.TestReport.{TestReport}

pub tests_push : (file : List ℕ) (before : ℕ) (xs : List TestReport) (x : TestReport) (n : ℕ)
    → n ≡ before + length xs + 1 →
    tests_text file before (xs ++ x ∷ []) ≡ tests_text file before xs ++ test_text file n x
tests_push file before [] x n e =
    let same : n ≡ before + 1 = omega arith in grind (arith, common_steps, same)
tests_push file before (y ∷ xs) x n e =
    let next = tests_push file (before + 1) xs x n (omega arith) in
    ap (λ (rest : List ℕ). test_text file (before + 1) y ++ rest) next
    ∙ sym (append_assoc (test_text file (before + 1) y) (tests_text file (before + 1) xs) (test_text file n x))

pub tests_more : (file : List ℕ) (before : ℕ) (xs : List TestReport) (i : ℕ) (d : TestReport) (n : ℕ) → i < length xs →
    n ≡ before + i + 1 →
    tests_text file before (take (i + 1) xs) ≡ tests_text file before (take i xs) ++ test_text file n (get_or xs i d)
tests_more file before xs i d n h e =
    let long : length (take i xs) ≡ i = grind (arith, common_steps) in
    ap (tests_text file before) (take_more xs i d h)
    ∙ tests_push file before (take i xs) (get_or xs i d) n (omega arith)

pub files_push : (before : ℕ) (xs : List FileReport) (x : FileReport) (n : ℕ) → n ≡ before + count_of xs →
    files_text before (xs ++ x ∷ []) ≡ files_text before xs ++ file_text n x
files_push before [] x n e = let same : n ≡ before = omega arith in grind (arith, common_steps, same)
files_push before (y ∷ xs) x n e =
    let next = files_push (before + length y.tests.items) xs x n (omega arith) in
    ap (λ (rest : List ℕ). file_text before y ++ rest) next
    ∙ sym (append_assoc (file_text before y) (files_text (before + length y.tests.items) xs) (file_text n x))

count_push : (xs : List FileReport) (x : FileReport) → count_of (xs ++ x ∷ []) ≡ count_of xs + length x.tests.items
count_push [] x = omega arith
count_push (y ∷ xs) x = omega (arith, count_push xs x)

pub count_more : (xs : List FileReport) (i : ℕ) (d : FileReport) → i < length xs →
    count_of (take (i + 1) xs) ≡ count_of (take i xs) + length (get_or xs i d).tests.items
count_more xs i d h = ap count_of (take_more xs i d h) ∙ count_push (take i xs) (get_or xs i d)

pub files_more : (xs : List FileReport) (i : ℕ) (d : FileReport) (n : ℕ) → i < length xs → n ≡ count_of (take i xs) →
    files_text 0 (take (i + 1) xs) ≡ files_text 0 (take i xs) ++ file_text n (get_or xs i d)
files_more xs i d n h e =
    ap (files_text 0) (take_more xs i d h) ∙ files_push 0 (take i xs) (get_or xs i d) n (omega arith)
