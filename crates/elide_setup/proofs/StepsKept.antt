-- What is kept of steps: their picks in a list, and their schedule on a device.
use Rattle.std.proofs.Common.{◌≡◌, ◌∙◌, ℕ, Bool, true, false, List, [], ◌++◌, Option, None, Some, ap, append-nil}
use Rattle.std.proofs.Common.{append_assoc, inl, inr, refl, subst, sym}
use Rattle.std.specs.Prelude.{◌⊎◌, Err, IfErr, IfOk, IfSome, Ok, OnErr, Result, Vec, if◌then◌else◌}
use Rattle.elide_program.specs.Files.{IsNotWritten, broken, lost, untold}
use Rattle.std.proofs.lemmas.Result.{IfErr-weaker, IfOk-weaker}
use Rattle.std.specs.Io.KnownBytes.{Appends, Keeps}
use Rattle.text_out.proofs.Writing.{appends_none, appends_then}
use Rattle.tm_model.specs.declared.outcome.Outcome.{Outcome}
use Rattle.tm_model.specs.declared.outcome.Pick.{Pick}
use Rattle.tm_schedule.specs.Schedule.{drawn_text, runs_text, title_line}
use Rattle.elide_setup.proofs.Records.{kept_then}
use Rattle.elide_setup.proofs.Walks.{leads_all, told_on}
use Rattle.elide_setup.specs.Schedules.{picks_told}
use Rattle.elide_setup.specs.Walks.{Leads}

-- ---- a list

abbrev Listed : {Maker : Type 0} → (Maker → List Pick) → Maker → List (Pick × Outcome) → Maker → Type 0
Listed items before steps after = items after ≡ items before ++ picks_told steps

pub all_listed : {Maker : Type 0} (items : Maker → List Pick) (steps : List (Pick × Outcome)) (a b : Maker)
    → Leads (Listed items) a steps b → Listed items a steps b
all_listed {Maker} items steps a b h =
    leads_all (Listed items) (λ a. sym (append-nil (items a)))
    (λ a b c steps others h k. k ∙ ap (λ l. l ++ picks_told others) h
    ∙ append_assoc (items a) (picks_told steps) (picks_told others)
    ∙ ap (λ l. items a ++ l) (sym (told_on steps others)))
    steps a b h

-- where they are asked for
pub listed_if_asked : {Z T E : Type 0} (U L D : List (Pick × Outcome) → Type 0) (keeps : Bool) (a b : Vec Pick Z)
    (r : Result T E) → keeps ≡ true →
    IfOk r
    (λ _. (steps : List (Pick × Outcome)) × U steps × L steps
    × Leads (Listed (λ (v : Vec Pick Z). v.items)) a steps b × D steps) →
    IfOk r
    (λ _. (steps : List (Pick × Outcome)) × U steps × L steps
    × (b.items ≡ a.items ++ (if keeps then picks_told steps else [])) × D steps)
listed_if_asked {Z} U L D keeps a b r asked h =
    IfOk-weaker r
    (λ _. (steps : List (Pick × Outcome)) × U steps × L steps
    × Leads (Listed (λ (v : Vec Pick Z). v.items)) a steps b × D steps)
    (λ _. (steps : List (Pick × Outcome)) × U steps × L steps
    × (b.items ≡ a.items ++ (if keeps then picks_told steps else [])) × D steps)
    (λ _ k. (
      k.0,
      k.1,
      k.2,
      all_listed (λ (v : Vec Pick Z). v.items) k.0 a b k.3
          ∙ ap (λ t. a.items ++ (if t then picks_told k.0 else [])) (sym asked),
      k.4,
    ))
    h

-- where they are not
pub none_listed : (keeps : Bool) (items : List Pick) (steps : List (Pick × Outcome)) → keeps ≡ false
    → items ≡ items ++ (if keeps then picks_told steps else [])
none_listed keeps items steps none =
    sym (append-nil items) ∙ ap (λ t. items ++ (if t then picks_told steps else [])) (sym none)

-- another fact of steps that were made stands in the place of what was kept of them
pub with_other : {Maker T E : Type 0} (keeps : Maker → List (Pick × Outcome) → Maker → Type 0) (a b : Maker)
    (U L D Other : List (Pick × Outcome) → Type 0) (r : Result T E) →
    ((steps : List (Pick × Outcome)) → Other steps) →
    IfOk r (λ _. (steps : List (Pick × Outcome)) × U steps × L steps × Leads keeps a steps b × D steps) →
    IfOk r (λ _. (steps : List (Pick × Outcome)) × U steps × L steps × Other steps × D steps)
with_other keeps a b U L D Other r other h =
    IfOk-weaker r
    (λ _. (steps : List (Pick × Outcome)) × U steps × L steps × Leads keeps a steps b × D steps)
    (λ _. (steps : List (Pick × Outcome)) × U steps × L steps × Other steps × D steps)
    (λ _ k. (k.0, k.1, k.2, other k.0, k.4))
    h

-- a keeper of nothing does not fail
pub never_fails : {T E : Type 0} (refuses others : E → Type 0) (r : Result T E) → IfErr r (λ why. refuses why ⊎ ⊥)
    → IfErr r (λ why. refuses why ⊎ others why)
never_fails refuses others r h =
    IfErr-weaker r (λ why. refuses why ⊎ ⊥) (λ why. refuses why ⊎ others why)
    (λ why. elim [ inl refused ↦ inl refused | inr none ↦ absurd none ]) h

-- ---- a text that is not written

-- what is owed of a failure alone
pub when_err : {T E : Type 0} (r : Result T E) (P : Type 0) → P → OnErr r P
when_err (Ok x) P h = tt
when_err (Err y) P h = h

not_refused : {Why : Type 0} (now before : Option Why) (why : Why) → now ≡ before → before ≡ None → now ≡ Some why → ⊥
not_refused now before why same none some =
    let never : None ≡ Some why = sym none ∙ sym same ∙ some in cc

-- what refused it, which nothing had before, is what it broke off by
pub why_broken : {Text Why : Type 0} (tells : Text → Text → List ℕ → Type 0) (breaks : Text → Text → Type 0)
    (refused : Text → Option Why) (P : Why → Type 0)
    (before after : Text) (why : Why) → IsNotWritten tells breaks before after → refused before ≡ None
    → refused after ≡ Some why →
    ((text : List ℕ) → tells before after text → refused after ≡ refused before) →
    (breaks before after → (refused after ≡ refused before) ⊎ IfSome (refused after) P) → P why
why_broken tells breaks refused P before after why (untold same) none some kept gone =
    absurd (not_refused (refused after) (refused before) why (ap refused same) none some)
why_broken tells breaks refused P before after why (lost text told) none some kept gone =
    absurd (not_refused (refused after) (refused before) why (kept text told) none some)
why_broken {Text} {Why} tells breaks refused P before after why (broken h) none some kept gone =
    elim (gone h) [
      | inl same ↦ absurd (not_refused (refused after) (refused before) why same none some)
      | inr is ↦ subst (λ (r : Option Why). IfSome r P) some is
    ]

-- ---- a schedule

-- of steps some bytes were written, behind which stands what is left, whatever steps follow
abbrev pub Written : {Maker : Type 0} → (Maker → List Pick → List ℕ) → (Maker → Option (List ℕ)) → Maker
    → List (Pick × Outcome) → Maker → Type 0
Written left held before steps after =
    (bytes : List ℕ) × ((rest : List Pick) → left before (picks_told steps ++ rest) ≡ bytes ++ left after rest)
    × Appends (held before) (held after) bytes

more_written : {Maker : Type 0} (left : Maker → List Pick → List ℕ) (held : Maker → Option (List ℕ)) (a b c : Maker)
    (steps others : List (Pick × Outcome)) →
    Written left held a steps b → Written left held b others c → Written left held a (steps ++ others) c
more_written left held a b c steps others h k = (
  h.0 ++ k.0,
  λ rest. ap (λ picks. left a (picks ++ rest)) (told_on steps others)
      ∙ ap (left a) (append_assoc (picks_told steps) (picks_told others) rest)
      ∙ h.1 (picks_told others ++ rest) ∙ ap (λ l. h.0 ++ l) (k.1 rest) ∙ sym (append_assoc h.0 k.0 (left c rest)),
  appends_then (held a) (held b) (held c) h.0 k.0 h.2 k.2,
)

pub all_written : {Maker : Type 0} (left : Maker → List Pick → List ℕ) (held : Maker → Option (List ℕ))
    (steps : List (Pick × Outcome)) (a b : Maker) →
    Leads (Written left held) a steps b → Written left held a steps b
all_written left held steps a b h =
    leads_all (Written left held) (λ a. ([], λ rest. refl, appends_none (held a))) (more_written left held) steps a b h

-- the title, the steps and what is left are the whole
pub whole_written : {Maker : Type 0} (left : Maker → List Pick → List ℕ) (held : Maker → Option (List ℕ))
    (has_events : Bool) (steps : List (Pick × Outcome)) (a b : Maker) (first begun last : Option (List ℕ)) →
    Keeps first begun → Appends begun (held a) (title_line has_events)
    → ((picks : List Pick) → left a picks ≡ runs_text picks) → Written left held a steps b →
    Appends (held b) last (left b []) → Appends first last (drawn_text has_events (picks_told steps))
whole_written left held has_events steps a b first begun last kept titled new written ended =
    let title : List ℕ = title_line has_events in
    let bytes : List ℕ = written.0 in
    let all : Appends begun last ((title ++ bytes) ++ left b []) =
    appends_then begun (held b) last (title ++ bytes) (left b [])
    (appends_then begun (held a) (held b) title bytes titled written.2) ended in
    let same : (title ++ bytes) ++ left b [] ≡ drawn_text has_events (picks_told steps) =
    append_assoc title bytes (left b [])
    ∙ ap (λ l. title ++ l)
    (sym (written.1 []) ∙ ap (left a) (append-nil (picks_told steps)) ∙ new (picks_told steps)) in
    kept_then first begun last (drawn_text has_events (picks_told steps)) kept
    (subst (λ (text : List ℕ). Appends begun last text) same all)
