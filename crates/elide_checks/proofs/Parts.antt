-- Conditions that are read a part at a time.
use Rattle.std.proofs.Common.{◌≡◌, ℕ, ◌+◌, ◌<◌, Bool, List, [], ◌∷◌, ◌++◌, codes, subst, sym, ap, ◌∙◌, append_assoc}
use Rattle.std.proofs.Common.{length, length-append, arith, refl}
use Rattle.elide_program.specs.declared.file.ProgramFile.{ProgramFile}
use Rattle.tm_check.specs.declared.clause.RunClause.{RunClause}
use Rattle.elide_checks.specs.Conditions.{IsClause, IsCondition}
use Rattle.elide_checks.specs.Cuts.{IsCut, Lacks}
use Rattle.elide_checks.specs.Misread.{IsNoCondition, later}

-- what is read of the rest comes behind what was read so far
abbrev pub GoesOn : ProgramFile → (List ℕ → Bool) → List ℕ → List RunClause → List ℕ → Type 0
GoesOn file constants text clauses rest =
    (more : List RunClause) → IsCondition file constants rest more → IsCondition file constants text (clauses ++ more)

-- where the rest is no condition the text is none
abbrev pub GoesWrong : ProgramFile → List ℕ → List ℕ → Type 0
GoesWrong file text rest = IsNoCondition file rest → IsNoCondition file text

pub goes_wrong : (file : ProgramFile) (text rest first next : List ℕ) → GoesWrong file text rest
    → IsCut rest (codes "&&") first next →
    GoesWrong file text next
goes_wrong file text rest first next go cut h = go (later first next cut h)

begun_with : (file : ProgramFile) (constants : List ℕ → Bool) (rest first next : List ℕ) (clause : RunClause)
    (more : List RunClause) →
    IsCut rest (codes "&&") first next → IsClause file constants first clause → IsCondition file constants next more →
    IsCondition file constants rest (clause ∷ more)
begun_with file constants rest first next clause [] cut is h = absurd h
begun_with file constants rest first next clause (one ∷ more) cut is h = (first, (next, cut, is, h))

-- one part more
pub goes_on : (file : ProgramFile) (constants : List ℕ → Bool) (text rest first next : List ℕ)
    (clauses after : List RunClause) (clause : RunClause) →
    GoesOn file constants text clauses rest → IsCut rest (codes "&&") first next
    → IsClause file constants first clause →
    after ≡ clauses ++ clause ∷ [] → GoesOn file constants text after next
goes_on file constants text rest first next clauses after clause go cut is more_is more h =
    let it = go (clause ∷ more) (begun_with file constants rest first next clause more cut is h) in
    let same : clauses ++ (clause ∷ more) ≡ after ++ more =
    sym (append_assoc clauses (clause ∷ []) more) ∙ ap (λ l. l ++ more) (sym more_is) in
    subst (IsCondition file constants text) same it

-- the last part
pub ended : (file : ProgramFile) (constants : List ℕ → Bool) (text rest : List ℕ) (clauses after : List RunClause)
    (clause : RunClause) →
    GoesOn file constants text clauses rest → Lacks rest (codes "&&") → IsClause file constants rest clause →
    after ≡ clauses ++ clause ∷ [] → IsCondition file constants text after
ended file constants text rest clauses after clause go lacks is more_is =
    subst (IsCondition file constants text) (sym more_is) (go (clause ∷ []) (lacks, is))

-- a part is shorter than what it is cut from
pub shorter : (rest first next : List ℕ) → IsCut rest (codes "&&") first next → length next < length rest
shorter rest first next cut =
    let whole : length rest ≡ length first + length (codes "&&" ++ next) =
    ap length cut.whole ∙ length-append first (codes "&&" ++ next) in
    let behind : length (codes "&&" ++ next) ≡ length (codes "&&") + length next = length-append (codes "&&") next in
    let two : length (codes "&&") ≡ 2 = refl in
    omega arith
