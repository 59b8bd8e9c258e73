-- No text is a condition and none, where each sum says one thing.
use Rattle.std.proofs.Common.{◌≡◌, ℕ, ◌<◌, ◌≤◌, Bool, List, [], ◌∷◌, ◌++◌, ◌⊎◌, None, Some, ◌∙◌, ap, arith, codes, drop}
use Rattle.std.proofs.Common.{inl, inr, length, subst, sym, take}
use Rattle.std.proofs.Math.Seq.{drop-append_seam, take-append_seam}
use Rattle.std.proofs.lemmas.Bool.{cases_lt}
use Rattle.std.proofs.lemmas.Option.{none-some}
use Rattle.std.specs.Str.{trim}
use Rattle.hex.specs.Hex.{decode_of}
use Rattle.elide_program.specs.Sums.{IsSum}
use Rattle.elide_program.specs.declared.file.ProgramFile.{ProgramFile}
use Rattle.elide_program.specs.Settings.{word32}
use Rattle.tm_check.specs.declared.clause.Quantity.{Quantity}
use Rattle.tm_check.specs.declared.clause.Quantity.TheVariants.{OfMachine, OfRun}
use Rattle.tm_check.specs.declared.clause.RunClause.{RunClause}
use Rattle.tm_check.specs.declared.clause.RunClause.TheVariants as clause
use Rattle.tm_check.specs.declared.count.Cores.{Cores}
use Rattle.tm_check.specs.declared.count.Cores.TheVariants.{All, One}
use Rattle.tm_check.specs.declared.count.Count.TheVariants.{Commits, Aborts}
use Rattle.tm_condition.specs.declared.clause.Clause.TheVariants.{Compare, Bytes}
use Rattle.tm_condition.specs.declared.comparison.Comparison.{Comparison}
use Rattle.tm_condition.specs.declared.item.Item.TheVariants.{Register, Memory, Number}
use Rattle.elide_checks.specs.Conditions.{ArePieces, AreBytes, HasNoOperator, IsClause, IsCompared, IsComparison}
use Rattle.elide_checks.specs.Conditions.{IsCondition, comparison_word, turn}
use Rattle.elide_checks.specs.Counts.{AreCores}
use Rattle.elide_checks.specs.Cuts.{IsCut}
use Rattle.elide_checks.specs.Items.{IsItem, IsNamed, IsNamedBy, IsParted}
use Rattle.elide_checks.specs.Misread.{AreNoBytes, AreNoCores, IsNoClause, IsNoCondition, IsNoItem, IsNoNamed}
use Rattle.elide_checks.specs.Misread as none
use Rattle.elide_checks.specs.declared.items.Side.{Side}
use Rattle.elide_checks.specs.declared.items.Side.TheVariants.{Left, Right}
use Rattle.elide_checks.proofs.Operators.{same_turn}

-- a sum does not say nothing and a value
abbrev pub SaysOne : ProgramFile → Type 0
SaysOne file = (word : List ℕ) (value : ℕ) → IsSum file word None → ¬ IsSum file word (Some value)

-- ---- where a text is cut

pub cut_once : (text word a b x y : List ℕ) → IsCut text word a x → IsCut text word b y → (a ≡ b) × (x ≡ y)
cut_once text word a b x y one other =
    let below = one.first b y other.whole in
    let above = other.first a x one.whole in
    let long : length a ≡ length b = omega (arith, below, above) in
    let front : a ≡ b =
    sym (ap (take (length a)) one.whole ∙ take-append_seam a (word ++ x)) ∙ ap (λ (n : ℕ). take n text) long
    ∙ (ap (take (length b)) other.whole ∙ take-append_seam b (word ++ y)) in
    let back : word ++ x ≡ word ++ y =
    sym (ap (drop (length a)) one.whole ∙ drop-append_seam a (word ++ x)) ∙ ap (λ (n : ℕ). drop n text) long
    ∙ (ap (drop (length b)) other.whole ∙ drop-append_seam b (word ++ y)) in
    (front, sym (drop-append_seam word x) ∙ ap (drop (length word)) back ∙ drop-append_seam word y)

same_operator : (text a b x y : List ℕ) (c d : Comparison) → IsCompared text a c x → IsCompared text b d y →
    (turn c < turn d) ⊎ (turn d ≤ turn c) → (turn d < turn c) ⊎ (turn c ≤ turn d) → c ≡ d
same_operator text a b x y c d one other (inl below) h = absurd (other.others c below a x one.cut.whole)
same_operator text a b x y c d one other (inr g) (inl below) = absurd (one.others d below b y other.cut.whole)
same_operator text a b x y c d one other (inr g) (inr h) = same_turn c d (omega (arith, g, h))

pub compared_once : (text a b x y : List ℕ) (c d : Comparison) → IsCompared text a c x → IsCompared text b d y
    → (a ≡ b) × (x ≡ y)
compared_once text a b x y c d one other =
    let same : c ≡ d =
    same_operator text a b x y c d one other (cases_lt (turn c) (turn d)) (cases_lt (turn d) (turn c)) in
    cut_once text (comparison_word d) a b x y
    (subst (λ (e : Comparison). IsCut text (comparison_word e) a x) same one.cut) other.cut

pub pieces_once : (text a b c x y z : List ℕ) → ArePieces text a b c → ArePieces text x y z
    → (a ≡ x) × (b ≡ y) × (c ≡ z)
pieces_once text a b c x y z one other =
    let outer = cut_once text (codes "=") one.front other.front c z one.behind other.behind in
    let inner = cut_once other.front (codes ":") a x b y
    (subst (λ (t : List ℕ). IsCut t (codes ":") a b) outer.0 one.before) other.before in
    (inner.0, inner.1, outer.1)

-- ---- items

cores_apart : (whose : List ℕ) (cores : Cores) → AreNoCores whose → AreCores whose cores → ⊥
cores_apart whose All none are = none.0 are
cores_apart whose (One core) none are = none-some core (sym none.1 ∙ are)

named_apart : (name whose : List ℕ) (quantity : Quantity) → IsNoNamed name whose → IsNamed name whose quantity → ⊥
named_apart name whose (OfMachine (Register core register)) (none.no_core other is wrong) named =
    none-some core (sym wrong ∙ named.1)
named_apart name whose (OfMachine (Register core register)) (none.no_count other wrong) named = other register named.0
named_apart name whose (OfMachine (Register core register)) (none.no_cores other wrong) named = other register named.0
named_apart name whose (OfMachine (Memory address)) wrong named = named
named_apart name whose (OfMachine (Number number)) wrong named = named
named_apart name whose (OfRun (Commits cores)) (none.no_core register is wrong) named = absurd (cc (is, named.0))
named_apart name whose (OfRun (Commits cores)) (none.no_count other wrong) named = wrong.0 named.0
named_apart name whose (OfRun (Commits cores)) (none.no_cores other wrong) named = cores_apart whose cores wrong named.1
named_apart name whose (OfRun (Aborts None cores)) (none.no_core register is wrong) named = absurd (cc (is, named.0))
named_apart name whose (OfRun (Aborts (Some kind) cores)) (none.no_core register is wrong) named =
    absurd (cc (is, named.0.1))
named_apart name whose (OfRun (Aborts kind cores)) (none.no_count other wrong) named = wrong.1 kind named.0
named_apart name whose (OfRun (Aborts kind cores)) (none.no_cores other wrong) named =
    cores_apart whose cores wrong named.1

parts_apart : (word name whose : List ℕ) (quantity : Quantity) → IsParted word name whose → IsNoNamed name whose
    → IsNamedBy word quantity → ⊥
parts_apart word name whose quantity parts wrong is =
    let before : name ≡ is.before = parts.first ∙ sym is.parts.first in
    let behind : whose ≡ is.behind = parts.rest ∙ sym is.parts.rest in
    named_apart is.before is.behind quantity
    (subst (λ (w : List ℕ). IsNoNamed is.before w) behind (subst (λ (n : List ℕ). IsNoNamed n whose) before wrong))
    is.named

pub item_apart : (file : ProgramFile) (constants : List ℕ → Bool) (side : Side) (word : List ℕ) (quantity : Quantity)
    → SaysOne file →
    IsNoItem file word → IsItem file constants side word quantity → ⊥
item_apart file constants side word (OfMachine (Register core register)) one (none.no_named name whose parts wrong) is =
    parts_apart word name whose (OfMachine (Register core register)) parts wrong is
item_apart file constants side word (OfMachine (Memory address)) one (none.no_named name whose parts wrong) is =
    absurd (omega (arith, parts.has_at, is.has_none))
item_apart file constants side word (OfMachine (Number number)) one (none.no_named name whose parts wrong) (inl is) =
    absurd (omega (arith, parts.has_at, is.has_none))
item_apart file constants side word (OfMachine (Number number)) one (none.no_named name whose parts wrong) (inr is) =
    absurd (omega (arith, parts.has_at, is.has_none))
item_apart file constants side word (OfRun count) one (none.no_named name whose parts wrong) is =
    parts_apart word name whose (OfRun count) parts wrong is
item_apart file constants side word (OfMachine (Register core register)) one
    (none.no_address behind has_none amp wrong) is =
    absurd (omega (arith, is.parts.has_at, has_none))
item_apart file constants side word (OfMachine (Memory address)) one (none.no_address behind has_none amp wrong) is =
    is.plain behind amp
item_apart file constants side word (OfMachine (Number number)) one
    (none.no_address behind has_none amp wrong) (inl is) =
    let same : behind ≡ is.behind = ap (drop 1) (sym amp ∙ is.whole) in
    one is.behind number (subst (λ (b : List ℕ). IsSum file b None) same wrong) is.sum
item_apart file constants side word (OfMachine (Number number)) one (none.no_address behind has_none amp wrong)
    (inr is) = is.plain behind amp
item_apart file constants side word (OfRun count) one (none.no_address behind has_none amp wrong) is =
    absurd (omega (arith, is.parts.has_at, has_none))
item_apart file constants side word (OfMachine (Register core register)) one (none.no_sum has_none plain wrong) is =
    absurd (omega (arith, is.parts.has_at, has_none))
item_apart file constants side word (OfMachine (Memory address)) one (none.no_sum has_none plain wrong) is =
    one word address wrong is.sum
item_apart file constants side word (OfMachine (Number number)) one (none.no_sum has_none plain wrong) (inl is) =
    plain is.behind is.whole
item_apart file constants side word (OfMachine (Number number)) one (none.no_sum has_none plain wrong) (inr is) =
    one word number wrong is.sum
item_apart file constants side word (OfRun count) one (none.no_sum has_none plain wrong) is =
    absurd (omega (arith, is.parts.has_at, has_none))

-- ---- clauses

bytes_apart : (file : ProgramFile) (text : List ℕ) (address : ℕ) (bytes : List ℕ) → SaysOne file
    → AreNoBytes file text →
    AreBytes file text address bytes → ⊥
bytes_apart file text address bytes one (none.no_equals lacks) are =
    lacks are.pieces.front are.digits are.pieces.behind.whole
bytes_apart file text address bytes one (none.no_colon front digits cut lacks) are =
    let same = cut_once text (codes "=") front are.pieces.front digits are.digits cut are.pieces.behind in
    lacks are.place are.count (same.0 ∙ are.pieces.before.whole)
bytes_apart file text address bytes one (none.no_place place count digits pieces wrong) are =
    let same = pieces_once text place count digits are.place are.count are.digits pieces are.pieces in
    one are.place address (subst (λ (p : List ℕ). IsSum file p None) same.0 wrong) are.at
bytes_apart file text address bytes one (none.no_count place count digits pieces wrong) are =
    let same = pieces_once text place count digits are.place are.count are.digits pieces are.pieces in
    none-some (length bytes) (sym wrong ∙ ap (λ (c : List ℕ). word32 (trim c)) same.1 ∙ are.many)
bytes_apart file text address bytes one (none.not_many place count digits many pieces is wrong) are =
    let same = pieces_once text place count digits are.place are.count are.digits pieces are.pieces in
    let both : Some many ≡ Some (length bytes) = sym is ∙ ap (λ (c : List ℕ). word32 (trim c)) same.1 ∙ are.many in
    wrong bytes (ap (λ (d : List ℕ). decode_of (trim d)) same.2 ∙ are.are) (cc both)

comparison_apart : (file : ProgramFile) (constants : List ℕ → Bool) (text : List ℕ) (left right : Quantity)
    (comparison : Comparison) → SaysOne file →
    IsNoClause file text → IsComparison file constants text left comparison right → ⊥
comparison_apart file constants text left right comparison one (none.no_left before behind other sides wrong) is =
    let same = compared_once text before is.before behind is.behind other comparison sides is.sides in
    item_apart file constants Left (trim is.before) left one
    (subst (λ (b : List ℕ). IsNoItem file (trim b)) same.0 wrong) is.on_left
comparison_apart file constants text left right comparison one (none.no_right before behind other sides wrong) is =
    let same = compared_once text before is.before behind is.behind other comparison sides is.sides in
    item_apart file constants Right (trim is.behind) right one
    (subst (λ (b : List ℕ). IsNoItem file (trim b)) same.1 wrong) is.on_right
comparison_apart file constants text left right comparison one (none.no_bytes lacks wrong) is =
    lacks comparison is.before is.behind is.sides.cut.whole

of_bytes_apart : (file : ProgramFile) (text : List ℕ) (address : ℕ) (bytes : List ℕ) → SaysOne file
    → IsNoClause file text →
    HasNoOperator text → AreBytes file text address bytes → ⊥
of_bytes_apart file text address bytes one (none.no_left before behind other sides wrong) lacks are =
    lacks other before behind sides.cut.whole
of_bytes_apart file text address bytes one (none.no_right before behind other sides wrong) lacks are =
    lacks other before behind sides.cut.whole
of_bytes_apart file text address bytes one (none.no_bytes lacks wrong) has are =
    bytes_apart file text address bytes one wrong are

pub clause_apart : (file : ProgramFile) (constants : List ℕ → Bool) (text : List ℕ) (said : RunClause) → SaysOne file
    → IsNoClause file text →
    IsClause file constants text said → ⊥
clause_apart file constants text (clause.OfMachine (Compare left comparison right)) one wrong is =
    comparison_apart file constants text (OfMachine left) (OfMachine right) comparison one wrong is
clause_apart file constants text (clause.OfMachine (Bytes address bytes)) one wrong is =
    of_bytes_apart file text address bytes.items one wrong is.0 is.1
clause_apart file constants text (clause.Compare left comparison right) one wrong is =
    comparison_apart file constants text left right comparison one wrong is.1

-- ---- conditions

pub condition_apart : (file : ProgramFile) (constants : List ℕ → Bool) (text : List ℕ) (clauses : List RunClause)
    → SaysOne file →
    IsNoCondition file text → IsCondition file constants text clauses → ⊥
condition_apart file constants text [] says wrong is = is
condition_apart file constants text (one ∷ []) says (none.alone lacks wrong) is =
    clause_apart file constants text one says wrong is.1
condition_apart file constants text (one ∷ next ∷ more) says (none.alone lacks wrong) is =
    lacks is.0 is.1.0 is.1.1.whole
condition_apart file constants text (one ∷ []) says (none.first front rest cut wrong) is = is.0 front rest cut.whole
condition_apart file constants text (one ∷ next ∷ more) says (none.first front rest cut wrong) is =
    let same = cut_once text (codes "&&") front is.0 rest is.1.0 cut is.1.1 in
    clause_apart file constants is.0 one says (subst (λ (f : List ℕ). IsNoClause file f) same.0 wrong) is.1.2
condition_apart file constants text (one ∷ []) says (none.later front rest cut wrong) is = is.0 front rest cut.whole
condition_apart file constants text (one ∷ next ∷ more) says (none.later front rest cut wrong) is =
    let same = cut_once text (codes "&&") front is.0 rest is.1.0 cut is.1.1 in
    condition_apart file constants rest (next ∷ more) says wrong
    (subst (λ (r : List ℕ). IsCondition file constants r (next ∷ more)) (sym same.1) is.1.3)
