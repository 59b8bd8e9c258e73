-- Each step keeps the progress.
use Rattle.std.proofs.Common.{◌≡◌, ◌≢◌, ◌⊎◌, ℕ, zero, suc, ◌<◌, List, [], ◌∷◌, ◌++◌, length, set, Some, None, Option}
use Rattle.std.proofs.Common.{true, false, cond, eqb, true≢false, refl, sym, ap, ◌∙◌, subst, ⊎_elim, inl, inr, arith}
use Rattle.std.proofs.Common.{eq-eqb, ne_eqb}
use Rattle.std.specs.Prelude.{slice_get, slice_set, IfSome}
use mathlib.Core.Option.{some, some-ne-none, some-injective}
use lib.ListN.{get_elem?}
use Rattle.atomic_table.specs.Table.{Me, step, keeps, Allows, Splits, Joins}
use Rattle.atomic_table.proofs.Lists.{at_set}
use Rattle.std.proofs.lemmas.Option.{slice_get_within}
use Rattle.tm_ledger.specs.declared.rule.SeatView.{SeatView}
use Rattle.tm_ledger.specs.Rules.{keeper_of, keeper_with, token_of, spent_view, KnowsProgress, ViewsAgree, OpensLine}
use Rattle.tm_ledger.specs.Rules.{WritesLine}

off : false ≡ true → ⊥
off e = true≢false (sym e)

-- the new element stands behind the others
at_snoc : {A : Type 0} (l : List A) (a b : A) (j : ℕ) → get_elem? (l ++ a ∷ []) j ≡ some b
    → (get_elem? l j ≡ some b) ⊎ ((j ≡ length l) × (a ≡ b))
at_snoc [] a b zero e = inr (refl, some-injective a b e)
at_snoc [] a b (suc j) e = absurd (some-ne-none b (sym e))
at_snoc (x ∷ xs) a b zero e = inl e
at_snoc (x ∷ xs) a b (suc j) e = ⊎_elim (λ t. inl t) (λ t. inr (ap suc t.0, t.1)) (at_snoc xs a b j e)

-- who has the token of a line, after it went to another place
abbrev moved : (ℕ → ℕ) → ℕ → ℕ → ℕ → ℕ
moved who line to k = cond (eqb k line) to (who k)

moved_here : (who : ℕ → ℕ) (line to : ℕ) → moved who line to line ≡ to
moved_here who line to = ap (λ b. cond b to (who line)) (eq-eqb line line refl)

moved_else : (who : ℕ → ℕ) (line to k : ℕ) → k ≢ line → moved who line to k ≡ who k
moved_else who line to k n = ap (λ b. cond b to (who k)) (ne_eqb k line n)

module _ {M : Type 0} where
  no_mark : (m : M) → None ≡ Some m → ⊥
  no_mark m e = absurd (cc)

  pub slice_get_front : (xs ys : List M) (k : ℕ) (p : M) → slice_get xs k ≡ Some p → slice_get (xs ++ ys) k ≡ Some p
  slice_get_front [] ys k p e = absurd (cc)
  slice_get_front (x ∷ xs) ys zero p e = e
  slice_get_front (x ∷ xs) ys (suc k) p e = slice_get_front xs ys k p e

  pub slice_get_last : (xs : List M) (x : M) → slice_get (xs ++ x ∷ []) (length xs) ≡ Some x
  slice_get_last [] x = refl
  slice_get_last (y ∷ xs) x = slice_get_last xs x

  pub slice_get_same : (xs : List M) (k : ℕ) (x : M) → k < length xs → slice_get (set xs k x) k ≡ Some x
  slice_get_same [] k x h = absurd (omega arith)
  slice_get_same (y ∷ xs) zero x h = refl
  slice_get_same (y ∷ xs) (suc k) x h = slice_get_same xs k x (omega arith)

  pub slice_get_other : (xs : List M) (k j : ℕ) (x : M) → j ≢ k → slice_get (set xs k x) j ≡ slice_get xs j
  slice_get_other [] k j x n = refl
  slice_get_other (y ∷ xs) zero zero x n = absurd (n refl)
  slice_get_other (y ∷ xs) zero (suc j) x n = refl
  slice_get_other (y ∷ xs) (suc k) zero x n = refl
  slice_get_other (y ∷ xs) (suc k) (suc j) x n = slice_get_other xs k j x (λ e. n (ap suc e))

  fits_set : (seat : ℕ) (all : List M) (who : ℕ → ℕ) (views : List (SeatView M)) (by : ℕ) (w : SeatView M)
      → ((j : ℕ) (u : SeatView M) → j ≢ by → get_elem? views j ≡ some u → KnowsProgress seat all who j u)
      → KnowsProgress seat all who by w
      → (j : ℕ) (u : SeatView M) → get_elem? (set views by w) j ≡ some u → KnowsProgress seat all who j u
  fits_set seat all who views by w others mine j u e =
      ⊎_elim
      (λ (x : (j ≡ by) × (w ≡ u)). subst (λ (y : ℕ × SeatView M). KnowsProgress seat all who y.0 y.1)
      (λ i. (sym x.0 i, x.1 i)) mine)
      (λ (x : (j ≢ by) × (get_elem? views j ≡ some u)). others j u x.0 x.1)
      (at_set views by j w u e)

  pub begins : ViewsAgree (keeper_of {M = M} [] ∷ [])
  begins = (0, [], (λ _. 0), one)
    where
      one : (by : ℕ) (v : SeatView M) → get_elem? (keeper_of {M = M} [] ∷ []) by ≡ some v
          → KnowsProgress 0 [] (λ _. 0) by v
      one zero v e = subst (KnowsProgress 0 [] (λ _. 0) 0) (some-injective _ _ e)
          ((λ _. (refl, refl)), (λ m is. absurd (no_mark m is)))
      one (suc by) v e = absurd (some-ne-none v (sym e))

  pub opens : (id slots : ℕ) (all : List M) (m : M) (f : ℕ → ℕ)
      → Allows {S = M} {V = SeatView M} (λ s. ViewsAgree s.views) slots id (keeper_of all, []) 0 f
      (OpensLine (step slots 0 0 0 (some m)) (keeper_of all, []))
  opens id slots all m f s h homes at word =
      let mine = (h.3 id (keeper_of all) at).0 refl in
      let line : ℕ = length all in
      let more : List M = all ++ m ∷ [] in
      let who : ℕ → ℕ = moved h.2 line id in
      let w = keeper_with more line (Some m) in (
        w,
        keeps,
        tt,
        (
          h.0,
          more,
          who,
          fits_set h.0 more who s.views id w
              (λ j u apart e.
              let old = h.3 j u e in (
                (λ k. absurd (apart ((old.0 k).0 ∙ sym mine.0))),
                (λ x is.
                    let t = old.1 x is in
                    let there : slice_get all u.line ≡ Some x = ap (λ l. slice_get l u.line) mine.1 ∙ t.1 in
                    let below = slice_get_within all u.line x there in (
                      moved_else h.2 line id u.line (λ same. absurd (omega arith)) ∙ t.0,
                      slice_get_front all (m ∷ []) u.line x there,
                    )),
              ))
              ((λ _. (mine.0, refl)), (λ x is. (moved_here h.2 line id, slice_get_last all m ∙ is))),
        ),
        (λ n said. ap (λ (k : M). (keeper_with (all ++ k ∷ []) line (Some k), [])) (some-injective m n said)),
      )

  pub notes : (id slots : ℕ) (all : List M) (line : ℕ) (n m : M) (f : ℕ → ℕ)
      → Allows {S = M} {V = SeatView M} (λ s. ViewsAgree s.views) slots id (keeper_with all line (Some n), []) 0 f
      (WritesLine (step slots 0 0 0 (some m)) (keeper_with all line (Some n), []))
  notes id slots all line n m f s h homes at word =
      let both = h.3 id (keeper_with all line (Some n)) at in
      let mine = both.0 refl in
      let held = both.1 n refl in
      let here : slice_get all line ≡ Some n = ap (λ l. slice_get l line) mine.1 ∙ held.1 in
      let below = slice_get_within all line n here in
      let now : List M = slice_set all line m in
      let w = keeper_with now line (Some m) in (
        w,
        keeps,
        tt,
        (
          h.0,
          now,
          h.2,
          fits_set h.0 now h.2 s.views id w
              (λ j u apart e.
              let old = h.3 j u e in (
                (λ k. absurd (apart ((old.0 k).0 ∙ sym mine.0))),
                (λ x is.
                    let t = old.1 x is in
                    let there : slice_get all u.line ≡ Some x = ap (λ l. slice_get l u.line) mine.1 ∙ t.1 in
                    (t.0, slice_get_other all line u.line m (λ same. apart (sym t.0 ∙ ap h.2 same ∙ held.0)) ∙ there)),
              ))
              ((λ _. (mine.0, refl)), (λ x is. (held.0, slice_get_same all line m below ∙ is))),
        ),
        (
          (λ k is. here ∙ is),
          (λ k said. ap (λ (y : M). (keeper_with (slice_set all line y) line (Some y), [])) (some-injective m k said)),
        ),
      )

  pub gives : (id : ℕ) (all : List M) (line : ℕ) (n : M)
      → Splits {S = M} {V = SeatView M} (λ s. ViewsAgree s.views) id (keeper_with all line (Some n)) (keeper_of all)
      (token_of line (Some n))
  gives id all line n s h at =
      let both = h.3 id (keeper_with all line (Some n)) at in
      let mine = both.0 refl in
      let held = both.1 n refl in
      let here : slice_get all line ≡ Some n = ap (λ l. slice_get l line) mine.1 ∙ held.1 in
      let views : List (SeatView M) = slice_set s.views id (keeper_of all) in
      let next : ℕ = length views in
      let who : ℕ → ℕ = moved h.2 line next in
      let first = fits_set h.0 all who s.views id (keeper_of all)
      (λ j u apart e.
      let old = h.3 j u e in (
        (λ k. absurd (apart ((old.0 k).0 ∙ sym mine.0))),
        (λ x is.
            let t = old.1 x is in
            let there : slice_get all u.line ≡ Some x = ap (λ l. slice_get l u.line) mine.1 ∙ t.1 in
            (moved_else h.2 line next u.line (λ same. apart (sym t.0 ∙ ap h.2 same ∙ held.0)) ∙ t.0, there)),
      ))
      ((λ _. (mine.0, refl)), (λ x is. absurd (no_mark x is))) in (
        h.0,
        all,
        who,
        λ j u e. ⊎_elim
            (λ was. first j u was)
            (λ (t : (j ≡ next) × (token_of line (Some n) ≡ u)).
            subst (λ (y : ℕ × SeatView M). KnowsProgress h.0 all who y.0 y.1) (λ i. (sym t.0 i, t.1 i))
            ((λ k. absurd (off k)), (λ x is. (moved_here h.2 line next, here ∙ is))))
            (at_snoc views (token_of line (Some n)) u j e),
      )

  pub takes : (id : ℕ) (all : List M) (other : ℕ) (line : ℕ) (n : M)
      → Joins {S = M} {V = SeatView M} (λ s. ViewsAgree s.views) id (keeper_of all) other (token_of line (Some n))
      (keeper_with all line (Some n)) spent_view
  takes id all other line n s h at apart there =
      let both = keeper_with all line (Some n) in
      let token = token_of line (Some n) in
      let mine = (h.3 id (keeper_of all) at).0 refl in
      let theirs = ⊎_elim (λ (t : (other ≡ id) × (both ≡ token)). absurd (apart t.0))
      (λ (t : (other ≢ id) × (get_elem? s.views other ≡ some token)). h.3 other token t.1)
      (at_set s.views id other both token there) in
      let held = theirs.1 n refl in
      let here : slice_get all line ≡ Some n = ap (λ l. slice_get l line) mine.1 ∙ held.1 in
      let who : ℕ → ℕ = moved h.2 line id in (
        h.0,
        all,
        who,
        fits_set h.0 all who (slice_set s.views id both) other spent_view
            (λ j u away e. ⊎_elim
            (λ (t : (j ≡ id) × (both ≡ u)). subst (λ (y : ℕ × SeatView M). KnowsProgress h.0 all who y.0 y.1)
            (λ i. (sym t.0 i, t.1 i))
            ((λ _. (mine.0, refl)), (λ x is. (moved_here h.2 line id, here ∙ is))))
            (λ (t : (j ≢ id) × (get_elem? s.views j ≡ some u)).
            let old = h.3 j u t.1 in (
              (λ k. absurd (t.0 ((old.0 k).0 ∙ sym mine.0))),
              (λ x is.
                  let o = old.1 x is in (
                    moved_else h.2 line id u.line (λ same. away (sym o.0 ∙ ap h.2 same ∙ held.0)) ∙ o.0,
                    ap (λ l. slice_get l u.line) mine.1 ∙ o.1,
                  )),
            ))
            (at_set s.views id j both u e))
            ((λ k. absurd (off k)), (λ x is. absurd (no_mark x is))),
      )

  -- the moves, at what is known of a seat
  pub opens_as : (id slots : ℕ) (me : Me M (SeatView M)) (all : List M) (m : M) (f : ℕ → ℕ) → me ≡ (keeper_of all, [])
      → Allows {S = M} {V = SeatView M} (λ s. ViewsAgree s.views) slots id me 0 f
      (OpensLine (step slots 0 0 0 (some m)) me)
  opens_as id slots me all m f is = subst (λ (u : Me M (SeatView M)). Allows {S = M} {V = SeatView M}
      (λ s. ViewsAgree s.views) slots id u 0 f (OpensLine (step slots 0 0 0 (some m)) u))
      (sym is) (opens id slots all m f)

  pub notes_as : (id slots : ℕ) (me : Me M (SeatView M)) (all : List M) (line : ℕ) (n m : M) (f : ℕ → ℕ)
      → me ≡ (keeper_with all line (Some n), [])
      → Allows {S = M} {V = SeatView M} (λ s. ViewsAgree s.views) slots id me 0 f
      (WritesLine (step slots 0 0 0 (some m)) me)
  notes_as id slots me all line n m f is = subst (λ (u : Me M (SeatView M)). Allows {S = M} {V = SeatView M}
      (λ s. ViewsAgree s.views) slots id u 0 f (WritesLine (step slots 0 0 0 (some m)) u))
      (sym is) (notes id slots all line n m f)

  pub gives_as : (id : ℕ) (me : Me M (SeatView M)) (all : List M) (line : ℕ) (n : M)
      → me ≡ (keeper_with all line (Some n), [])
      → Splits {S = M} {V = SeatView M} (λ s. ViewsAgree s.views) id me.0 (keeper_of me.0.all)
      (token_of me.0.line me.0.progress)
  gives_as id me all line n is = subst (λ (u : Me M (SeatView M)). Splits {S = M} {V = SeatView M}
      (λ s. ViewsAgree s.views) id u.0 (keeper_of u.0.all) (token_of u.0.line u.0.progress))
      (sym is) (gives id all line n)

  pub takes_as : (id : ℕ) (me : Me M (SeatView M)) (all : List M) (other : ℕ) (you : Me M (SeatView M)) (line : ℕ)
      (n : M) → me ≡ (keeper_of all, []) → you ≡ (token_of line (Some n), [])
      → Joins {S = M} {V = SeatView M} (λ s. ViewsAgree s.views) id me.0 other you.0
      (keeper_with me.0.all you.0.line you.0.progress) spent_view
  takes_as id me all other you line n is are =
      subst (λ (u : Me M (SeatView M)). Joins {S = M} {V = SeatView M} (λ s. ViewsAgree s.views) id u.0 other you.0
      (keeper_with u.0.all you.0.line you.0.progress) spent_view) (sym is)
      (subst (λ (u : Me M (SeatView M)). Joins {S = M} {V = SeatView M} (λ s. ViewsAgree s.views) id (keeper_of all)
      other u.0 (keeper_with all u.0.line u.0.progress) spent_view) (sym are) (takes id all other line n))

  -- the ledger behind its steps
  pub opened_as : (me after : Me M (SeatView M)) (m : M) → me ≡ (keeper_of me.0.all, [])
      → after ≡ (keeper_with (me.0.all ++ m ∷ []) (length me.0.all) (Some m), me.1)
      → after ≡ (keeper_with (me.0.all ++ m ∷ []) (length me.0.all) (Some m), [])
  opened_as me after m is opened =
      opened ∙ ap (λ (u : Me M (SeatView M)). (keeper_with (me.0.all ++ m ∷ []) (length me.0.all) (Some m), u.1)) is

  pub taken_as : (me held : Me M (SeatView M)) (line : ℕ) (progress : Option M) (n : M) → me ≡ (keeper_of me.0.all, [])
      → progress ≡ Some n → held ≡ (keeper_with me.0.all line progress, me.1)
      → held ≡ (keeper_with me.0.all line (Some n), [])
  taken_as me held line progress n is has took =
      took ∙ ap (λ (p : Option M). (keeper_with me.0.all line p, me.1)) has
      ∙ ap (λ (u : Me M (SeatView M)). (keeper_with me.0.all line (Some n), u.1)) is

  pub noted_as : (me held after : Me M (SeatView M)) (line : ℕ) (progress : Option M) (n m : M)
      → me ≡ (keeper_of me.0.all, []) → progress ≡ Some n → held ≡ (keeper_with me.0.all line progress, me.1)
      → after ≡ (keeper_with (slice_set held.0.all held.0.line m) held.0.line (Some m), held.1)
      → after ≡ (keeper_with (slice_set me.0.all line m) line (Some m), [])
  noted_as me held after line progress n m is has took noted =
      noted ∙ ap
      (λ (u : Me M (SeatView M)). (keeper_with (slice_set u.0.all u.0.line m) u.0.line (Some m), u.1))
      (taken_as me held line progress n is has took)

  pub keeper_again : (me : Me M (SeatView M)) (all : List M) → me ≡ (keeper_of all, []) → me ≡ (keeper_of me.0.all, [])
  keeper_again me all is =
      is ∙ ap (λ (l : List M). (keeper_of l, [])) (sym (ap (λ (u : Me M (SeatView M)). u.0.all) is))

  pub token_again : (me : Me M (SeatView M)) (line : ℕ) (n : M) → me ≡ (token_of line (Some n), [])
      → me ≡ (token_of me.0.line me.0.progress, [])
  token_again me line n is = is ∙ ap (λ (u : Me M (SeatView M)). (token_of u.0.line u.0.progress, [])) (sym is)

  pub if_some : (o : Option M) (P : M → Type 0) → ((m : M) → o ≡ Some m → P m) → IfSome o P
  if_some (Some m) P f = f m refl
  if_some None P f = tt
