-- What the page makes of a core that another one's step hits, or does not, on memory as that core sees it.
use Rattle.std.proofs.Common.{◌≡◌, ℕ, Bool, true, false, cond, List, length, Option, Some, None, refl, sym}
use Rattle.std.proofs.Common.{ap, ◌∙◌, subst}
use Rattle.std.specs.Prelude.{IsSome, MatchOption, option_and_then}
use Rattle.std.proofs.lemmas.Option.{option_and_then_some, same_Some}
use Rattle.tm_model.specs.Conflicts.{depth_at_hit, doom_after_other, is_hit}
use Rattle.tm_model.specs.Isolated.{Body, isolated_body, read_set}
use Rattle.tm_model.specs.Setting.{Setting}
use Rattle.tm_model.specs.Shown.{View, view_inside, view_of, view_of_body, view_outside}
use Rattle.tm_model.specs.State.{Closed, Core, Halted, Midway, Opened}
use Rattle.tm_core.specs.Types.{Condemned, Open, Regs}
use Rattle.tm_core.proofs.BufferLemmas.{lines_on}
use Rattle.tm_core.proofs.Frame.{frame}
use Rattle.tm_core.proofs.OtherCores.{Agree, stores_missed, view_inside_is}
use Rattle.tm_page.proofs.Own.{IsOutside, shows_outside}
use Rattle.tm_page.specs.Applied.{PageCore, condemned, other_after}
use Rattle.tm_page.specs.Shows.{ShowsCore}
use Rattle.tm_page.specs.Types.{Hit}

pub record IsCondemned (v w : View) : Type 0 where
  pub depth : ℕ
  pub was : v.mode ≡ Open depth
  pub mode : w.mode ≡ Condemned depth
  pub base : w.base ≡ v.base
  pub outside : IsOutside w

abbrev pub Tells : Option Hit → Option ℕ → Option ℕ → Type 0
Tells told before then = MatchOption told (then ≡ before) (λ hit. (before ≡ None) × IsSome then)

abbrev pub Fares : Option Hit → View → View → Type 0
Fares told v w = MatchOption told (w ≡ v) (λ hit. IsCondemned v w)

pub other : (size : ℕ) (told : Option Hit) (core : PageCore) (v w : View) → Fares told v w → ShowsCore size v core
    → ShowsCore size w (other_after told core)
other size None core v w h shows = subst (λ x. ShowsCore size x core) (sym h) shows
other size (Some hit) core v w h shows =
    shows_outside size w (condemned core.mode) core.base h.outside
    (ap condemned (sym shows.mode ∙ h.was) ∙ sym h.mode)
    (sym shows.base ∙ sym h.base ∙ h.outside.base)

-- these addresses were loaded, and these written in memory, which the core sees before as m
module _ (k : Setting) (m after : List ℕ) (loads stores : List ℕ) (len : length m ≡ length after)
    (agree : Agree m after stores) where
  abbrev doom_of : Core → Option ℕ → Option ℕ
  doom_of y dy = doom_after_other k m loads stores y dy

  -- ---- one that is not hit

  body_stays : (s : Regs) (n : ℕ) (b : Body) → isolated_body k s m n ≡ Some b
      → depth_at_hit loads stores (isolated_body k s m n) ≡ None →
      isolated_body k s after n ≡ Some b
  body_stays s n b is h =
      on (is_hit loads stores b) refl (sym (ap (depth_at_hit loads stores) is) ∙ h)
    where
      on : (t : Bool) → is_hit loads stores b ≡ t → cond t (Some b.depth) None ≡ None
          → isolated_body k s after n ≡ Some b
      on true hit e = cc
      on false missed e = frame k s m after n b len
          (agree (read_set b) b.loads (lines_on b.loads) (stores_missed loads stores b missed)) is

  pub stays : (y : Core) (dy : Option ℕ) (v w : View) → view_of k m y dy ≡ Some v
      → view_of k after y (doom_of y dy) ≡ Some w → doom_of y dy ≡ dy → w ≡ v
  stays (Closed s) None v w e f h = same_Some w v (sym f ∙ e)
  stays (Closed s) (Some depth) v w e f h = cc
  stays (Midway s value) None v w e f h = same_Some w v (sym f ∙ e)
  stays (Midway s value) (Some depth) v w e f h = cc
  stays (Halted s stop) None v w e f h = same_Some w v (sym f ∙ e)
  stays (Halted s stop) (Some depth) v w e f h = cc
  stays (Opened s n) (Some depth) v w e f h = same_Some w v (sym f ∙ e)
  stays (Opened s n) None v w e f h =
      option_and_then_some (view_inside s) (isolated_body k s m n) v e (λ b is shown.
      same_Some w v
      (sym f ∙ ap (view_of k after (Opened s n)) h
      ∙ ap (option_and_then (view_inside s)) (body_stays s n b is h) ∙ shown))

  -- ---- one that is

  struck : (s : Regs) (n : ℕ) (b : Body) (v w : View) → view_of_body s b ≡ v → isolated_body k s m n ≡ Some b →
      IsSome (depth_at_hit loads stores (isolated_body k s m n)) →
      view_of k after (Opened s n) (depth_at_hit loads stores (isolated_body k s m n)) ≡ Some w
      → IsCondemned v w
  struck s n b v w shown is h f = on (is_hit loads stores b)
      (subst (λ o. IsSome (depth_at_hit loads stores o)) is h)
      (subst (λ o. view_of k after (Opened s n) (depth_at_hit loads stores o) ≡ Some w) is f)
    where
      on : (t : Bool) → IsSome (cond t (Some b.depth) None)
          → view_of k after (Opened s n) (cond t (Some b.depth) None) ≡ Some w → IsCondemned v w
      on true some g =
          let same : view_outside (Condemned b.depth) s ≡ w = same_Some (view_outside (Condemned b.depth) s) w g in
          record {
            depth = b.depth;
            was = ap (λ x. x.mode) (sym shown);
            mode = ap (λ x. x.mode) (sym same);
            base = ap (λ x. x.base) (sym same) ∙ ap (λ x. x.base) shown;
            outside = subst IsOutside same (record { base = refl; reads = refl; writes = refl; buffer = refl });
          }
      on false some g = cc

  pub condemns : (y : Core) (dy : Option ℕ) (v w : View) → view_of k m y dy ≡ Some v
      → view_of k after y (doom_of y dy) ≡ Some w → dy ≡ None → IsSome (doom_of y dy) →
      IsCondemned v w
  condemns (Closed s) None v w e f none some = cc
  condemns (Closed s) (Some depth) v w e f none some = cc
  condemns (Midway s value) None v w e f none some = cc
  condemns (Midway s value) (Some depth) v w e f none some = cc
  condemns (Halted s stop) None v w e f none some = cc
  condemns (Halted s stop) (Some depth) v w e f none some = cc
  condemns (Opened s n) (Some depth) v w e f none some = cc
  condemns (Opened s n) None v w e f none some =
      option_and_then_some (view_inside s) (isolated_body k s m n) v e (λ b is shown.
      struck s n b v w (view_inside_is s b v shown).1 is some f)

  -- ---- either

  pub fares : (told : Option Hit) (y : Core) (dy : Option ℕ) (v w : View) → view_of k m y dy ≡ Some v
      → view_of k after y (doom_of y dy) ≡ Some w →
      Tells told dy (doom_of y dy) → Fares told v w
  fares None y dy v w e f h = stays y dy v w e f h
  fares (Some hit) y dy v w e f h = condemns y dy v w e f h.0 h.1
