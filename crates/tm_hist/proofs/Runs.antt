-- A run over lists is a run of the definitions.
use Rattle.std.proofs.Common.{◌≡◌, ℕ, zero, suc, ◌+◌, ◌-◌, ◌<◌, ◌≤◌, List, [], ◌∷◌, ◌++◌, refl, sym, ◌∙◌, ap, arith}
use Rattle.std.proofs.Common.{subst, length, map, take, drop, replicate, zero-add, get_or, Option, Some, None, nat_eq}
use Rattle.std.proofs.Common.{nat_lt, slice_set, if◌then◌else◌, Bool, true, false}
use Rattle.std.proofs.lemmas.Bool.{ltb-true, lt-ltb, le-ltb, eqb-true, eqb-false}
use Rattle.std.proofs.lemmas.List.{length-set, length-map, map-set, get_or-map, get_or-set_same, get_or-set_other}
use Rattle.std.proofs.lemmas.List.{take_more}
use Rattle.std.specs.List.{AllByRecursion, range_with_len, slice_get}
use Rattle.std.proofs.lemmas.Option.{get_or_from_slice_get, slice_get-get_or, slice_get-map, slice_get_within}
use Rattle.std.proofs.lemmas.List.{length-append, length-replicate, take_all, take_at}
use Rattle.std.proofs.lemmas.List.FromFn.{map-range_with_len_more, length-map-range_with_len, get_or-map-range_with_len}
use Rattle.ia_image.specs.Program.{ProgramValue as Program, code_of, opening_memory, IsSound}
use Rattle.std.specs.Prelude.{⊤}
use Rattle.std.specs.Option.{option_and_then, option_map}
use Rattle.tm_model.specs.declared.outcome.Outcome.{Outcome}
use Rattle.tm_model.specs.Setting.{Setting, program_setting, setting_of}
use Rattle.tm_model.specs.State.{Core, Pending, State, opening_state}
use Rattle.tm_model.specs.Steps.{Next, after_step, after_step_of, run, state_with, step}
use Rattle.tm_model.proofs.WithoutBuffer.{same_after_step}
use Rattle.tm_hist.specs.Serial.{Agrees, EndsWith, IsStuck, ListStuck, core_at, core_of, first_core, list_run}
use Rattle.tm_hist.specs.Serial.{list_step, steps_of, with_core}
use Rattle.tm_hist.specs.History.{pair_of}
use Rattle.tm_hist.specs.declared.pair.PackedOutcome.TheVariants as packed
use Rattle.tm_hist.specs.declared.pair.Pair.{Pair}
use Rattle.tm_hist.specs.declared.serial_core.SerialCore.{SerialCore}
use Rattle.tm_hist.specs.declared.serial_core.SerialCore.TheVariants as serial_core

Same : Option State → Option (List ℕ × List Core) → Type 0
Same None None = ⊤
Same None (Some q) = ⊥
Same (Some a) None = ⊥
Same (Some a) (Some q) = Agrees a q.0 q.1

same_if : (b : Bool) (x : Option State) (y : Option (List ℕ × List Core)) → (b ≡ true → Same x y)
    → Same (if b then x else None) (if b then y else None)
unfolding Same
same_if true x y h = h refl
same_if false x y h = tt

-- with none pending
abbrev with_none : List ℕ × Core → Next
with_none change = (change.0, ([], change.1))

abbrev no_stores : Pending
no_stores = []

-- the core that steps, and the others
each_after : (a : State) (m : List ℕ) (cores : List Core) (c : ℕ) (p : List ℕ × Core) → Agrees a m cores
    → c < length cores →
    (j : ℕ) → j < length (slice_set cores c p.1)
    → core_at (slice_set cores c p.1) j ≡ (state_with a c (with_none p)).cores j
each_after a m cores c p h l j below =
    let size = length-set cores c p.1 in
    elim (nat_eq j c) as (λ b. nat_eq j c ≡ b → core_at (slice_set cores c p.1) j ≡ (if b then p.1 else a.cores j)) [
      | true ↦ λ e. let same : j ≡ c = eqb-true j c e in
          ap (core_at (slice_set cores c p.1)) same ∙ get_or-set_same cores c p.1 _ l
      | false ↦ λ e. get_or-set_other cores c j p.1 _ (eqb-false j c e) ∙ h.each j (omega arith)
    ] refl

same_put : (a : State) (m : List ℕ) (cores : List Core) (c : ℕ) → Agrees a m cores → c < length cores
    → (o : Option (List ℕ × Core)) →
    Same (option_map (state_with a c) (option_map with_none o)) (with_core cores c o)
unfolding Same
same_put a m cores c h l None = tt
same_put a m cores c h l (Some p) = record {
  memory = refl;
  count = length-set cores c p.1 ∙ h.count;
  each = each_after a m cores c p h l;
  none = λ j below.
      let size = length-set cores c p.1 in
      let other : [] ≡ a.pending j = h.none j (omega arith) in
      (elim (nat_eq j c) as (λ b. no_stores ≡ (if b then no_stores else a.pending j)) [ true ↦ refl | false ↦ other ]);
}

same_step : (k : Setting) → k.store_buffer ≡ 0 → (a : State) (m : List ℕ) (cores : List Core) (c : ℕ) (o : Outcome)
    → Agrees a m cores → Same (step k a c o) (list_step k m cores c o)
same_step k off a m cores c o h =
    let moved : List ℕ → Pending → Core → Option State =
    λ n q x. option_map (state_with a c) (after_step k n q x o) in
    let listed : Option (List ℕ × List Core) = with_core cores c (after_step_of k m (core_at cores c) o) in
    subst (λ n. Same (if nat_lt c n then moved a.memory (a.pending c) (a.cores c) else None) (list_step k m cores c o))
    h.count
    (same_if (nat_lt c (length cores)) (moved a.memory (a.pending c) (a.cores c)) listed λ e.
    let l : c < length cores = ltb-true c (length cores) e in
    subst (λ n. Same (moved n (a.pending c) (a.cores c)) listed) h.memory
    (subst (λ q. Same (moved m q (a.cores c)) listed) (h.none c l)
    (subst (λ x. Same (moved m [] x) listed) (h.each c l)
    (subst (λ x. Same (option_map (state_with a c) x) listed) (sym (same_after_step k m (core_at cores c) o off))
    (same_put a m cores c h l (after_step_of k m (core_at cores c) o))))))

same_then : (k : Setting) (ps : List (ℕ × Outcome))
    → ((a : State) (m : List ℕ) (cores : List Core) → Agrees a m cores → Same (run k a ps) (list_run k m cores ps)) →
    (x : Option State) (y : Option (List ℕ × List Core)) → Same x y
    → Same (option_and_then (λ b. run k b ps) x) (option_and_then (λ q. list_run k q.0 q.1 ps) y)
unfolding Same
same_then k ps f None None h = tt
same_then k ps f None (Some q) h = absurd h
same_then k ps f (Some a) None h = absurd h
same_then k ps f (Some a) (Some q) h = f a q.0 q.1 h

same_run : (k : Setting) → k.store_buffer ≡ 0 → (ps : List (ℕ × Outcome)) (a : State) (m : List ℕ)
    (cores : List Core) → Agrees a m cores → Same (run k a ps) (list_run k m cores ps)
unfolding Same
same_run k off [] a m cores h = h
same_run k off (p ∷ ps) a m cores h =
    same_then k ps (same_run k off ps) (step k a p.0 p.1) (list_step k m cores p.0 p.1)
    (same_step k off a m cores p.0 p.1 h)

read_some : (x : Option State) (q : List ℕ × List Core) → Same x (Some q)
    → (end : State) × (x ≡ Some end) × Agrees end q.0 q.1
unfolding Same
read_some None q h = absurd h
read_some (Some a) q h = (a, refl, h)

read_none : (x : Option State) → Same x None → x ≡ None
unfolding Same
read_none None h = refl
read_none (Some a) h = absurd h

pub ends : (k : Setting) → k.store_buffer ≡ 0
    → (a : State) (m : List ℕ) (cores : List Core) (ps : List (ℕ × Outcome)) (now : List ℕ)
    (after : List Core) → Agrees a m cores →
    list_run k m cores ps ≡ Some (now, after) → EndsWith k a ps now after
ends k off a m cores ps now after h e =
    let P : Option (List ℕ × List Core) → Type 0 = λ y. Same (run k a ps) y in
    let got = read_some (run k a ps) (now, after) (subst P e (same_run k off ps a m cores h)) in
    record { end = got.0; ran = got.1; agrees = got.2 }

pub fails : (k : Setting) → k.store_buffer ≡ 0
    → (a : State) (m : List ℕ) (cores : List Core) (ps : List (ℕ × Outcome)) → Agrees a m cores
    → list_run k m cores ps ≡ None → run k a ps ≡ None
fails k off a m cores ps h e =
    let P : Option (List ℕ × List Core) → Type 0 = λ y. Same (run k a ps) y in
    read_none (run k a ps) (subst P e (same_run k off ps a m cores h))

-- one more pair
last : (k : Setting) (o : Option (List ℕ × List Core)) → option_and_then (λ q. list_run k q.0 q.1 []) o ≡ o
last k None = refl
last k (Some q) = refl

more : (k : Setting) (ps : List (ℕ × Outcome)) (p : ℕ × Outcome) →
    ((m : List ℕ) (cores : List Core)
    → list_run k m cores (ps ++ p ∷ []) ≡ option_and_then (λ q. list_step k q.0 q.1 p.0 p.1) (list_run k m cores ps)) →
    (o : Option (List ℕ × List Core)) →
    option_and_then (λ q. list_run k q.0 q.1 (ps ++ p ∷ [])) o
    ≡ option_and_then (λ q. list_step k q.0 q.1 p.0 p.1) (option_and_then (λ q. list_run k q.0 q.1 ps) o)
more k ps p f None = refl
more k ps p f (Some q) = f q.0 q.1

pub run_more : (k : Setting) (ps : List (ℕ × Outcome)) (p : ℕ × Outcome) (m : List ℕ) (cores : List Core) →
    list_run k m cores (ps ++ p ∷ []) ≡ option_and_then (λ q. list_step k q.0 q.1 p.0 p.1) (list_run k m cores ps)
run_more k [] p m cores = last k (list_step k m cores p.0 p.1)
run_more k (r ∷ ps) p m cores = more k ps p (run_more k ps p) (list_step k m cores r.0 r.1)

-- ---- the lists that code keeps

pub all_at : {X : Type 0} (P : X → Type 0) (xs : List X) (i : ℕ) (d : X) → AllByRecursion P xs → i < length xs
    → P (get_or xs i d)
all_at P [] i d h l = absurd (omega arith)
all_at P (x ∷ xs) zero d h l = h.0
all_at P (x ∷ xs) (suc i) d h l = all_at P xs i d h.1 (omega arith)

pub all_set : {X : Type 0} (P : X → Type 0) (xs : List X) (i : ℕ) (y : X) → AllByRecursion P xs → P y
    → AllByRecursion P (slice_set xs i y)
all_set P [] i y h p = tt
all_set P (x ∷ xs) zero y h p = (p, h.1)
all_set P (x ∷ xs) (suc i) y h p = (h.0, all_set P xs i y h.1 p)

pub all_more : {X : Type 0} (P Q : X → Type 0) (xs : List X) → ((x : X) → P x → Q x) → AllByRecursion P xs
    → AllByRecursion Q xs
all_more P Q [] f h = tt
all_more P Q (x ∷ xs) f h = (f x h.0, all_more P Q xs f h.1)

-- a step at a place of the list
pub step_at : (k : Setting) (m : List ℕ) (serial_cores : List SerialCore) (c : ℕ) (o : Outcome) (x d : SerialCore)
    → c < length serial_cores → x ≡ get_or serial_cores c d →
    list_step k m (map core_of serial_cores) c o
    ≡ with_core (map core_of serial_cores) c (after_step_of k m (core_of x) o)
step_at k m serial_cores c o x d l e =
    let size = length-map serial_cores core_of in
    let inside : nat_lt c (length (map core_of serial_cores)) ≡ true =
    lt-ltb c (length (map core_of serial_cores)) (omega arith) in
    let here : core_at (map core_of serial_cores) c ≡ core_of x =
    get_or-map core_of serial_cores c d _ l ∙ ap core_of (sym e) in
    ap
    (λ b. if b then with_core (map core_of serial_cores) c (after_step_of k m (core_at (map core_of serial_cores) c) o)
    else None) inside
    ∙ ap (λ y. with_core (map core_of serial_cores) c (after_step_of k m y o)) here

pub no_step : (k : Setting) (m : List ℕ) (serial_cores : List SerialCore) (c : ℕ) (o : Outcome)
    → length serial_cores ≤ c → list_step k m (map core_of serial_cores) c o ≡ None
no_step k m serial_cores c o l =
    let size = length-map serial_cores core_of in
    let outside : nat_lt c (length (map core_of serial_cores)) ≡ false =
    le-ltb c (length (map core_of serial_cores)) (omega arith) in
    ap
    (λ b. if b then with_core (map core_of serial_cores) c (after_step_of k m (core_at (map core_of serial_cores) c) o)
    else None) outside

pub step_some : (k : Setting) (m now : List ℕ) (serial_cores : List SerialCore) (i c : ℕ) (o : Outcome)
    (x d next : SerialCore) → i ≡ c → i < length serial_cores → x ≡ get_or serial_cores i d →
    after_step_of k m (core_of x) o ≡ Some (now, core_of next)
    → list_step k m (map core_of serial_cores) c o ≡ Some (now, map core_of (slice_set serial_cores i next))
step_some k m now serial_cores i c o x d next at l e done =
    ap (λ j. list_step k m (map core_of serial_cores) j o) (sym at)
    ∙ step_at k m serial_cores i o x d l e
    ∙ ap (with_core (map core_of serial_cores) i) done
    ∙ ap (λ cs. Some (now, cs)) (sym (map-set core_of serial_cores i next))

pub step_none : (k : Setting) (m : List ℕ) (serial_cores : List SerialCore) (i c : ℕ) (o : Outcome) (x d : SerialCore)
    → i ≡ c → i < length serial_cores → x ≡ get_or serial_cores i d →
    after_step_of k m (core_of x) o ≡ None → list_step k m (map core_of serial_cores) c o ≡ None
step_none k m serial_cores i c o x d at l e none =
    ap (λ j. list_step k m (map core_of serial_cores) j o) (sym at)
    ∙ step_at k m serial_cores i o x d l e
    ∙ ap (with_core (map core_of serial_cores) i) none

pub growth_none : (serial_cores : List SerialCore) (most : ℕ) → AllByRecursion (λ c. steps_of c ≤ most) serial_cores
    → AllByRecursion (λ c. steps_of c ≤ most + 1) serial_cores
growth_none serial_cores most h =
    all_more (λ c. steps_of c ≤ most) (λ c. steps_of c ≤ most + 1) serial_cores (λ c l. omega arith) h

pub growth_some : (serial_cores : List SerialCore) (i most : ℕ) (x d next : SerialCore) → i < length serial_cores
    → x ≡ get_or serial_cores i d → steps_of next ≤ steps_of x + 1 →
    AllByRecursion (λ c. steps_of c ≤ most) serial_cores
    → AllByRecursion (λ c. steps_of c ≤ most + 1) (slice_set serial_cores i next)
growth_some serial_cores i most x d next l e g h =
    let had = all_at (λ c. steps_of c ≤ most) serial_cores i d h l in
    let same = ap steps_of e in
    all_set (λ c. steps_of c ≤ most + 1) serial_cores i next (growth_none serial_cores most h) (omega arith)

-- a place of the list that holds nothing
abbrev pub no_core : SerialCore
no_core = serial_core.Closed (record { gpr = []; flags = record { 0 = 0 }; eip = 0 })

pub run_next : (k : Setting) (m now : List ℕ) (cores after : List Core) (history : List (ℕ × Outcome)) (i : ℕ)
    (d : ℕ × Outcome) → i < length history →
    list_run k m cores (take i history) ≡ Some (now, after) →
    list_run k m cores (take (i + 1) history) ≡ list_step k now after (get_or history i d).0 (get_or history i d).1
run_next k m now cores after history i d l ran =
    ap (list_run k m cores) (take_more history i d l)
    ∙ run_more k (take i history) (get_or history i d) m cores
    ∙ ap (option_and_then (λ q. list_step k q.0 q.1 (get_or history i d).0 (get_or history i d).1)) ran

-- the same where the next pair is known
pub run_at : (k : Setting) (m now : List ℕ) (cores after : List Core) (history : List (ℕ × Outcome)) (i : ℕ)
    (p : ℕ × Outcome) → slice_get history i ≡ Some p →
    list_run k m cores (take i history) ≡ Some (now, after)
    → list_run k m cores (take (i + 1) history) ≡ list_step k now after p.0 p.1
run_at k m now cores after history i p at ran =
    run_next k m now cores after history i p (slice_get_within history i p at) ran
    ∙ ap (λ (q : ℕ × Outcome). list_step k now after q.0 q.1) (get_or_from_slice_get history i p p at)

-- the cores before the first step
pub cores_more : (p : Program) (n : ℕ) (xs ys : List SerialCore) → xs ≡ map (first_core p) (range_with_len 0 n)
    → ys ≡ xs ++ first_core p n ∷ [] →
    ys ≡ map (first_core p) (range_with_len 0 (n + 1))
cores_more p n xs ys h e =
    e ∙ ap (λ zs. zs ++ first_core p n ∷ []) h ∙ sym (map-range_with_len_more (first_core p) 0 n n (zero-add n))

cores_closed : (p : Program) (a n : ℕ) → AllByRecursion (λ c. steps_of c ≤ 0) (map (first_core p) (range_with_len a n))
cores_closed p a zero = tt
cores_closed p a (suc n) = (omega arith, cores_closed p (a + 1) n)

pub first_closed : (p : Program) (xs : List SerialCore) → xs ≡ map (first_core p) (range_with_len 0 (length p.entries))
    → AllByRecursion (λ c. steps_of c ≤ 0) xs
first_closed p xs e = let P : List SerialCore → Type 0 = λ ys. AllByRecursion (λ c. steps_of c ≤ 0) ys in
    subst P (sym e) (cores_closed p 0 (length p.entries))

pub first_agrees : (p : Program) (m : List ℕ) (xs : List SerialCore) → m ≡ opening_memory p
    → xs ≡ map (first_core p) (range_with_len 0 (length p.entries)) → Agrees (opening_state p) m (map core_of xs)
first_agrees p m xs em ex =
    let n = length p.entries in
    let count : length (map core_of xs) ≡ n =
    length-map xs core_of ∙ ap length ex ∙ length-map-range_with_len (first_core p) 0 n in
    record {
      memory = em;
      count = count;
      each = λ j below.
          let inside : j < length xs = let s = length-map xs core_of in omega arith in
          get_or-map core_of xs j no_core _ inside
          ∙ ap core_of
          (ap (λ ys. get_or ys j no_core) ex
          ∙ get_or-map-range_with_len (first_core p) 0 n j j no_core (omega arith) (zero-add j));
      none = λ j below. refl;
    }

-- a lent vector comes back as it was left
pub written_back : {X : Type 0} (xs ys : List X) (n : ℕ) → length ys ≡ length xs → n ≡ length xs
    → take n (ys ++ drop (length ys) xs) ≡ ys
written_back xs ys n e f = take_at ys (drop (length ys) xs) n (e ∙ sym f)

-- the run by the rules of the program
by_rules : (p : Program) (history : List (ℕ × Outcome)) (code : List ℕ) (base size : ℕ) (m : List ℕ) (cores : List Core)
    → code ≡ code_of p → base ≡ p.base → size ≡ p.mem_size →
    list_run (program_setting p 0 0 0) m cores history ≡ list_run (setting_of code base size 0 0 0) m cores history
by_rules p history code base size m cores ec eb es =
    ap (λ x. list_run (setting_of x p.base p.mem_size 0 0 0) m cores history) (sym ec)
    ∙ ap (λ x. list_run (setting_of code x p.mem_size 0 0 0) m cores history) (sym eb)
    ∙ ap (λ x. list_run (setting_of code base x 0 0 0) m cores history) (sym es)

pub replayed : (p : Program) (history : List (ℕ × Outcome)) (code : List ℕ) (base size : ℕ) (m now : List ℕ)
    (xs : List SerialCore) (after : List Core) →
    code ≡ code_of p → base ≡ p.base → size ≡ p.mem_size → m ≡ opening_memory p
    → xs ≡ map (first_core p) (range_with_len 0 (length p.entries)) →
    list_run (setting_of code base size 0 0 0) m (map core_of xs) history ≡ Some (now, after)
    → EndsWith (program_setting p 0 0 0) (opening_state p) history now after
replayed p history code base size m now xs after ec eb es em ex ran =
    ends (program_setting p 0 0 0) refl (opening_state p) m (map core_of xs) history now after
    (first_agrees p m xs em ex)
    (by_rules p history code base size m (map core_of xs) ec eb es ∙ ran)

pub refused : (p : Program) (history : List (ℕ × Outcome)) (code : List ℕ) (base size : ℕ) (m : List ℕ)
    (xs : List SerialCore) (i : ℕ) →
    code ≡ code_of p → base ≡ p.base → size ≡ p.mem_size → m ≡ opening_memory p
    → xs ≡ map (first_core p) (range_with_len 0 (length p.entries)) →
    ListStuck (setting_of code base size 0 0 0) m (map core_of xs) history i
    → IsStuck (program_setting p 0 0 0) (opening_state p) history i
refused p history code base size m xs i ec eb es em ex h =
    let start = first_agrees p m xs em ex in
    let good =
    ends (program_setting p 0 0 0) refl (opening_state p) m (map core_of xs) (take i history) h.before.0 h.before.1
    start (by_rules p (take i history) code base size m (map core_of xs) ec eb es ∙ h.ran) in
    record {
      within = h.within;
      before = good.end;
      ran = good.ran;
      stuck = fails (program_setting p 0 0 0) refl (opening_state p) m (map core_of xs) (take (i + 1) history) start
          (by_rules p (take (i + 1) history) code base size m (map core_of xs) ec eb es ∙ h.stuck);
    }

whole_size : (a b n : ℕ) → a + b ≤ n → a + b + (n - (a + b)) ≡ n
whole_size a b n h = omega arith

-- the memory of a sound program is full
pub opening_size : (p : Program) → IsSound p → length (opening_memory p) ≡ p.mem_size
unfolding opening_memory
opening_size p h =
    let fits = h.fits in
    let front : List ℕ = replicate p.base 0 in
    let rest : List ℕ = replicate (p.mem_size - (p.base + length p.bytes)) 0 in
    length-append (front ++ p.bytes) rest
    ∙ ap (λ k. k + length rest) (length-append front p.bytes ∙ ap (λ k. k + length p.bytes) (length-replicate p.base 0))
    ∙ ap (λ k. p.base + length p.bytes + k) (length-replicate (p.mem_size - (p.base + length p.bytes)) 0)
    ∙ whole_size p.base (length p.bytes) p.mem_size fits

-- whether the rules allow the step or not
pub step_either : (k : Setting) (m now : List ℕ) (serial_cores : List SerialCore) (i c : ℕ) (o : Outcome)
    (x d next : SerialCore) (b : Bool) → i ≡ c → i < length serial_cores → x ≡ get_or serial_cores i d →
    after_step_of k m (core_of x) o ≡ (if b then Some (now, core_of next) else None)
    → list_step k m (map core_of serial_cores) c o
    ≡ (if b then Some (now, map core_of (slice_set serial_cores i next)) else None)
step_either k m now serial_cores i c o x d next true at l e done =
    step_some k m now serial_cores i c o x d next at l e done
step_either k m now serial_cores i c o x d next false at l e done = step_none k m serial_cores i c o x d at l e done

-- where no pair is kept
abbrev pub no_pair : Pair
no_pair = record { core = 0; outcome = packed.Plain }

-- the pair that a kept one stands for
pub kept_at : (pairs : List Pair) (i : ℕ) (p d : Pair) → i < length pairs → p ≡ get_or pairs i d
    → slice_get (map pair_of pairs) i ≡ Some (pair_of p)
kept_at pairs i p d l e =
    slice_get-map pair_of pairs i ∙ ap (option_map pair_of) (slice_get-get_or pairs i d l ∙ ap Some (sym e))

-- all of them
pub take_kept : (pairs : List Pair) (n : ℕ) → n ≡ length pairs → take n (map pair_of pairs) ≡ map pair_of pairs
take_kept pairs n e = let size = length-map pairs pair_of in take_all n (map pair_of pairs) (omega arith)
