-- A machine that becomes as another one is: its cores' lines come with slots of its own sets.
use Rattle.std.proofs.Common.{◌≡◌, ℕ, zero, suc, ◌*◌, ◌<◌, ◌≤◌, ◌^◌, Bool, true, false, cond, eqb, ◌||◌, List, [], ◌∷◌}
use Rattle.std.proofs.Common.{◌++◌, length, take, drop, get_or, Option, None, refl, sym, ap, ◌∙◌, subst, arith}
use Rattle.std.specs.Prelude.{Result}
use Rattle.std.specs.List.{list_any}
use Rattle.std.specs.Ordering.{nat_cmp}
use Rattle.std.specs.Cmp.{nat_cmp_total}
use Rattle.std.specs.FinMap as map_of
use Rattle.std.specs.FinSet as finset
use Rattle.std.proofs.lemmas.Bool.{eq-eqb, or_right, true≢false}
use Rattle.std.proofs.lemmas.List.{ext_get_or, length-take-le}
use Rattle.ia_insn.specs.declared.fault.DecodeFault.{DecodeFault}
use Rattle.ia_insn.specs.declared.op.Insn.{Insn}
use Rattle.ia_flat.specs.declared.flat.FlatAt.{FlatAt}
use Rattle.ia_word.specs.Line.{line}
use Rattle.tm_buffer.specs.Buffer.{BufferValue, IsPartOf, holds}
use Rattle.tm_model.specs.Setting.{Setting, setting_of}
use Rattle.tm_model.specs.Shown.{View, ViewsStandFor, view_between, view_outside}
use Rattle.tm_model.specs.State.{Pending, State}
use Rattle.tm_sets.specs.Content.{Content, Fixed}
use Rattle.tm_core.specs.Copying.{IsWritten}
use Rattle.tm_core.specs.Machine.{IsMachine, shown_by, views_list}
use Rattle.tm_core.specs.Representation.{AreClosed, IsHeld, IsSound, Sane, cpu_at, cpu_views}
use Rattle.tm_core.specs.Representation.{is_open, kept_at, parts_setting}
use Rattle.tm_core.specs.Theorem.{SameMachine, ShownMachine, StandsFor, machine_setting, no_regs, view_at}
use Rattle.tm_core.specs.Types.{AtStop, Condemned, CoreState, Mid, Open, Read, Running, Write}
use Rattle.tm_core.proofs.MachineLemmas.{length-views_list, view_at_is, written_back}
use Rattle.tm_core.proofs.StepTheorem.{none_pending}
use Rattle.tm_core.specs.declared.cpu.Cpu.{Cpu}

-- ---- a buffer's lines, one after another

pub as_long : (place : ℕ) (xs ys : List ℕ) → xs ≡ take place ys → place ≤ length ys → length xs ≡ place
as_long place xs ys front below = ap length front ∙ length-take-le place ys below

-- a buffer that has taken over all lines has the same bytes
pub all_taken : (part whole : BufferValue) → part.order ≡ whole.order → IsPartOf part whole
    → ((q : ℕ) → holds whole.order (line q) ≡ false → map_of.get whole.bytes q ≡ None) → part.bytes ≡ whole.bytes
all_taken part whole order is off =
    map_of.same_map nat_cmp_total map_of.nat_cmp-IsAntisymmetric part.bytes whole.bytes (λ q.
    is q
    ∙ (elim (holds part.order (line q))
    as (λ t. holds part.order (line q) ≡ t → cond t (map_of.get whole.bytes q) None ≡ map_of.get whole.bytes q) [
      | true ↦ λ e. refl
      | false ↦ λ e. sym (off q (ap (λ xs. holds xs (line q)) (sym order) ∙ e))
    ]) refl)

-- ---- the lines that a core has written

pub in_order : (order : List ℕ) (place : ℕ) → place < length order → list_any (eqb (get_or order place 0)) order ≡ true
in_order [] place below = absurd (omega arith)
in_order (x ∷ xs) zero below = ap (λ t. t || list_any (eqb x) xs) (eq-eqb x x refl)
in_order (x ∷ xs) (suc place) below =
    or_right (eqb (get_or xs place 0) x) (list_any (eqb (get_or xs place 0)) xs) (in_order xs place (omega arith))

-- a core has written lines of memory alone
written_low : (k : Setting) (v : View) (mode : CoreState) (l : ℕ) → Sane k v mode → finset.contains v.writes l ≡ true
    → l * 64 < k.size
written_low k v mode l sane has = by_mode mode sane
  where
    none : (w : View) → v ≡ w → w.writes ≡ finset.empty → l * 64 < k.size
    none w same empty = absurd (true≢false (sym has ∙ ap (λ (x : View). finset.contains x.writes l) same
        ∙ ap (λ s. finset.contains s l) empty ∙ finset.contains-empty nat_cmp l))

    by_mode : (mode : CoreState) → Sane k v mode → l * 64 < k.size
    by_mode (Open depth) s = s.4 l has
    by_mode Running s = none (view_outside Running v.base) s refl
    by_mode Mid s = none (view_between v.base v.kept) s.0 refl
    by_mode (Condemned depth) s = none (view_outside (Condemned depth) v.base) s refl
    by_mode (AtStop stop) s = none (view_outside (AtStop stop) v.base) s refl

pub each_written : (a : Content) (code : List ℕ) (base size : ℕ) (cpus : List Cpu)
    → IsSound (parts_setting code base size a) a cpus
    → size ≤ a.fixed.line_count * 64 → (i place : ℕ) → i < length cpus → place < length (cpu_at cpus i).buffer.order
    → IsWritten a i (get_or (cpu_at cpus i).buffer.order place 0)
each_written a code base size cpus sound within i place below on =
    let l : ℕ = get_or (cpu_at cpus i).buffer.order place 0 in
    let has : finset.contains (a.lines i Write) l ≡ true =
    sym ((sound.held i below).same l) ∙ in_order (cpu_at cpus i).buffer.order place on in
    let low : l * 64 < size =
    written_low (parts_setting code base size a) (cpu_views a cpus i) (cpu_at cpus i).state l
    (sound.sane i below) has in
    (omega arith, has)

-- ---- the machine

-- machines of one program have as many cores
pub as_many_cores : (a d : Content) (code their_code : List ℕ) (base their_base : ℕ) (m theirs : List ℕ)
    (cpus twins : List Cpu)
    (old other : ShownMachine) → shown_by a code base m cpus ≡ old
    → shown_by d their_code their_base theirs twins ≡ other
    → SameMachine old other → length cpus ≡ length twins
as_many_cores a d code their_code base their_base m theirs cpus twins old other shown their_shown same =
    sym (length-views_list a 0 cpus) ∙ ap (λ (x : ShownMachine). length x.views) shown ∙ sym same.cores
    ∙ sym (ap (λ (x : ShownMachine). length x.views) their_shown) ∙ length-views_list d 0 twins

module _ (a b d : Content) (code their_code : List ℕ) (base their_base : ℕ) (m m2 theirs : List ℕ)
    (cpus cpus2 lent twins : List Cpu)
    (old other : ShownMachine) (size count : ℕ)
    (shown : shown_by a code base m cpus ≡ old) (their_shown : shown_by d their_code their_base theirs twins ≡ other)
    (same : SameMachine old other) (elsewhere : length old.memory ≡ length other.memory)
    (all_bytes : size ≡ length m) (memory : m2 ≡ theirs) (all_cores : count ≡ length cpus) (lent_is : lent ≡ cpus)
    (same_cores : length cpus2 ≡ length lent) (fixed : b.fixed ≡ a.fixed)
    (views : (i : ℕ) → i < length lent → cpu_views b cpus2 i ≡ cpu_views d twins i) where
  abbrev bytes_back : List ℕ
  bytes_back = take size (m2 ++ drop (length m2) m)

  abbrev cores_back : List Cpu
  cores_back = take count (cpus2 ++ drop (length cpus2) cpus)

  same_size : length m2 ≡ length m
  same_size =
      ap length memory ∙ ap (λ (x : ShownMachine). length x.memory) their_shown ∙ sym elsewhere
      ∙ sym (ap (λ (x : ShownMachine). length x.memory) shown)

  written : bytes_back ≡ m2
  written = written_back m m2 size same_size all_bytes

  as_many : length cpus2 ≡ length cpus
  as_many = same_cores ∙ ap length lent_is

  in_place : cores_back ≡ cpus2
  in_place = written_back cpus cpus2 count as_many all_cores

  abbrev new : ShownMachine
  new = shown_by b code base m2 cpus2

  abbrev back : ShownMachine
  back = shown_by b code base bytes_back cores_back

  back_is : back ≡ new
  back_is = λ i. shown_by b code base (written i) (in_place i)

  rules_here : machine_setting new ≡ machine_setting old
  rules_here =
      ap (λ n. setting_of code base n (b.fixed.room Read) (b.fixed.room Write) 0) same_size
      ∙ ap (λ (x : Fixed). setting_of code base (length m) (x.room Read) (x.room Write) 0) fixed
      ∙ ap machine_setting shown

  pub same_copied : SameMachine old back
  same_copied = subst (SameMachine old) (sym back_is) (record {
    rules = rules_here;
    cores = length-views_list b 0 cpus2 ∙ as_many ∙ sym (length-views_list a 0 cpus)
        ∙ ap (λ (x : ShownMachine). length x.views) shown;
  })

  pub memory_copied : back.memory ≡ other.memory
  memory_copied = written ∙ memory ∙ ap (λ (x : ShownMachine). x.memory) their_shown

  twins_many : length cpus ≡ length twins
  twins_many = as_many_cores a d code their_code base their_base m theirs cpus twins old other shown their_shown same

  among_lent : (i : ℕ) → i < length cpus2 → i < length lent
  among_lent i h = subst (λ n. i < n) same_cores h

  lists_same : views_list b 0 cpus2 ≡ views_list d 0 twins
  lists_same = ext_get_or (view_outside Running no_regs) (views_list b 0 cpus2) (views_list d 0 twins)
      (length-views_list b 0 cpus2 ∙ as_many ∙ twins_many ∙ sym (length-views_list d 0 twins))
      (λ i h.
      let below : i < length cpus2 = subst (λ n. i < n) (length-views_list b 0 cpus2) h in
      let there : i < length twins = subst (λ n. i < n) (as_many ∙ twins_many) below in
      view_at_is b code base m2 cpus2 i below ∙ views i (among_lent i below)
      ∙ sym (view_at_is d their_code their_base theirs twins i there))

  pub views_copied : back.views ≡ other.views
  views_copied =
      ap (λ (x : ShownMachine). x.views) back_is ∙ lists_same ∙ ap (λ (x : ShownMachine). x.views) their_shown

  rules_there : machine_setting back ≡ machine_setting other
  rules_there = same_copied.rules ∙ sym same.rules

  pub stands_copied : (st : State) (doomed : ℕ → Option ℕ) → StandsFor other st doomed → StandsFor back st doomed
  stands_copied st doomed h =
      subst (λ (vs : List View). ViewsStandFor (machine_setting back) (length vs) back.memory
      (λ n. get_or vs n (view_outside Running no_regs)) none_pending st doomed) (sym views_copied)
      (subst (λ x. ViewsStandFor (machine_setting back) (length other.views) x (view_at other) none_pending st doomed)
      (sym memory_copied)
      (subst (λ (k : Setting). ViewsStandFor k (length other.views) other.memory (view_at other) none_pending st doomed)
      (sym rules_there)
      (subst (λ (ps : List Pending). ViewsStandFor (machine_setting other) (length other.views) other.memory
      (view_at other) (λ n. get_or ps n []) st doomed) (ap (λ (x : ShownMachine). x.pending) (sym their_shown)) h)))

  module _ (rows their_rows : List (Result (Insn × ℕ) DecodeFault)) (lines their_lines : List FlatAt)
      (busy their_busy : Bool)
      (was : IsMachine a code base rows lines m cpus busy)
      (is : IsMachine d their_code their_base their_rows their_lines theirs twins their_busy)
      (held : (i : ℕ) → i < length lent → IsHeld (b.fixed.room Write) (kept_at b cpus2 i)) where
    rules_new : parts_setting code base (length m2) b ≡ parts_setting their_code their_base (length theirs) d
    rules_new = ap machine_setting (sym back_is) ∙ rules_there ∙ ap machine_setting (sym their_shown)

    there : (i : ℕ) → i < length cpus2 → i < length twins
    there i h = subst (λ n. i < n) (as_many ∙ twins_many) h

    sound_new : IsSound (parts_setting code base (length m2) b) b cpus2
    sound_new = record {
      sane = λ i h.
          subst (λ (v : View). Sane (parts_setting code base (length m2) b) v v.mode) (sym (views i (among_lent i h)))
          (subst (λ (k : Setting). Sane k (cpu_views d twins i) (cpu_at twins i).state) (sym rules_new)
          (is.sound.sane i (there i h)));
      held = λ i h. held i (among_lent i h);
    }

    quiet_new : their_busy ≡ false → AreClosed cpus2
    quiet_new e i h = ap (λ (v : View). is_open v.mode) (views i (among_lent i h)) ∙ is.quiet e i (there i h)

    machine_new : IsMachine b code base rows lines m2 cpus2 their_busy
    machine_new = record {
      some = subst (λ n. 1 ≤ n) (sym as_many) was.some;
      few = subst (λ n. n ≤ 64) (sym as_many) was.few;
      small = subst (λ n. n < 2 ^ 32) (sym same_size) was.small;
      sound = sound_new;
      quiet = quiet_new;
      known = subst (λ n. n ≤ b.fixed.cores) (sym as_many)
          (subst (λ (x : Fixed). length cpus ≤ x.cores) (sym fixed) was.known);
      within = subst (λ n. n ≤ b.fixed.line_count * 64) (sym same_size)
          (subst (λ (x : Fixed). length m ≤ x.line_count * 64) (sym fixed) was.within);
      decoded = was.decoded;
      lined = was.lined;
      told = was.told;
      line_count = was.line_count;
    }

    pub machine_copied : IsMachine b code base rows lines bytes_back cores_back their_busy
    machine_copied = subst (λ x. IsMachine b code base rows lines x cores_back their_busy) (sym written)
        (subst (λ x. IsMachine b code base rows lines m2 x their_busy) (sym in_place) machine_new)
