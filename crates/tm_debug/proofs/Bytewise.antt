-- A line that is read byte by byte.
use Rattle.std.proofs.Common.{◌≡◌, ℕ, false, List, [], ◌∷◌, ◌++◌, Option, Some, None, option_to_list, refl, sym, ◌∙◌}
use Rattle.std.proofs.Common.{ap, append-nil, append_assoc, inl, inr}
use Rattle.std.specs.Prelude.{◌==◌}
use Rattle.ia_lex.specs.Lines.{lines_of, without_cr}
use Rattle.tm_debug.specs.declared.line.InputLine.{InputLine}
use Rattle.tm_debug.specs.declared.line.LineStart.{LineStart}
use Rattle.std.specs.Io.KnownBytes.{Keeps}
use Rattle.tm_debug.specs.Serving.{BeginsLine, HasNoFeed, IsKept, IsLast, IsLine, ReadsLine}
use Rattle.tm_debug.proofs.Feeds.{line_at_end, line_at_feed, no_feed_more}

-- of the known input these bytes were read, and the others are left
pub record Reading (old new : Option (List ℕ)) (failed_old failed_new : ℕ) (s : LineStart) : Type 0 where
  pub taken : List ℕ
  pub kept : IsKept taken s
  pub no_feed : HasNoFeed taken
  pub failed : failed_new ≡ failed_old
  pub input : (xs : List ℕ) → old ≡ Some xs → (ys : List ℕ) × (new ≡ Some ys) × (xs ≡ taken ++ ys)

pub reading_new : (known : Option (List ℕ)) (failed : ℕ) (s : LineStart) → IsKept [] s
    → Reading known known failed failed s
reading_new known failed s h =
    record { taken = []; kept = h; no_feed = refl; failed = refl; input = λ xs e. (xs, e, refl) }

abbrev pub ReadsByte : Option (List ℕ) → Option (List ℕ) → Option ℕ → Type 0
ReadsByte old new byte = (xs : List ℕ) → old ≡ Some xs
    → (ys : List ℕ) × (new ≡ Some ys) × (xs ≡ option_to_list byte ++ ys) × (byte ≡ None → ys ≡ [])

pub reading_more : {a b c : Option (List ℕ)} {f g h : ℕ} {s t : LineStart} (byte : ℕ) → (byte == 10) ≡ false
    → Reading a b f g s → ReadsByte b c (Some byte) → h ≡ g →
    ((taken : List ℕ) → IsKept taken s → IsKept (taken ++ byte ∷ []) t) → Reading a c f h t
reading_more byte other r reads same adds = record {
  taken = r.taken ++ byte ∷ [];
  kept = adds r.taken r.kept;
  no_feed = no_feed_more r.taken byte other r.no_feed;
  failed = same ∙ r.failed;
  input = λ xs e.
      let before = r.input xs e in
      let after = reads before.0 before.1 in
      (after.0, after.1, before.2 ∙ ap (λ l. r.taken ++ l) after.2 ∙ sym (append_assoc r.taken (byte ∷ []) after.0));
}

abbrev pub GivesLine : Option (List ℕ) → Option (List ℕ) → InputLine → Type 0
GivesLine old new line = (xs : List ℕ) → old ≡ Some xs → (ys : List ℕ) × (new ≡ Some ys) × ReadsLine line xs ys

pub read_feed : {a b c : Option (List ℕ)} {f g : ℕ} {s : LineStart} (byte : ℕ) (line : InputLine) → byte ≡ 10
    → Reading a b f g s → ReadsByte b c (Some byte) →
    ((taken : List ℕ) → IsKept taken s → IsLine (without_cr taken) line) → GivesLine a c line
read_feed byte line feed r reads gives xs e =
    let before = r.input xs e in
    let after = reads before.0 before.1 in
    let whole : xs ≡ r.taken ++ 10 ∷ after.0 =
    before.2 ∙ ap (λ l. r.taken ++ l) after.2 ∙ ap (λ b. r.taken ++ b ∷ after.0) feed in (
      after.0,
      after.1,
      inr (
        without_cr r.taken,
        gives r.taken r.kept,
        record {
          bytes = r.taken ++ 10 ∷ [];
          split = whole ∙ sym (append_assoc r.taken (10 ∷ []) after.0);
          ended = inr (λ zs. ap lines_of (append_assoc r.taken (10 ∷ []) zs) ∙ line_at_feed r.taken zs r.no_feed);
        },
      ),
    )

pub read_end : {a b c : Option (List ℕ)} {f g : ℕ} {s : LineStart} (line : InputLine) → Reading a b f g s
    → ReadsByte b c None → ((taken : List ℕ) → IsKept taken s → IsLast taken line) → GivesLine a c line
read_end line r reads gives xs e =
    let before = r.input xs e in
    let after = reads before.0 before.1 in
    let none : after.0 ≡ [] = after.3 refl in
    let whole : xs ≡ r.taken = before.2 ∙ ap (λ l. r.taken ++ l) (after.2 ∙ none) ∙ append-nil r.taken in
    elim (gives r.taken r.kept) [
      | inl end ↦ (after.0, after.1, inl (end.0, whole ∙ end.1, none))
      | inr last ↦ (
        after.0,
        after.1,
        inr (
          r.taken,
          last.1,
          record {
            bytes = r.taken;
            split = before.2 ∙ ap (λ l. r.taken ++ l) after.2;
            ended = inl (none, line_at_end r.taken last.0 r.no_feed);
          },
        ),
      )
    ]

-- the input failed
pub read_fails : {a b c : Option (List ℕ)} {f g : ℕ} {s : LineStart} → Reading a b f g s → Keeps b c
    → (xs : List ℕ) → a ≡ Some xs → (ys : List ℕ) × (c ≡ Some ys) × BeginsLine xs ys
read_fails {a} {b} {c} r keeps xs e =
    let before = r.input xs e in
    (before.0, kept_is b c before.0 before.1 keeps, record { begun = r.taken; split = before.2; no_feed = r.no_feed })
  where
    kept_is : (b c : Option (List ℕ)) (ys : List ℕ) → b ≡ Some ys → Keeps b c → c ≡ Some ys
    kept_is None c ys e h = cc
    kept_is (Some xs) None ys e h = absurd h
    kept_is (Some xs) (Some zs) ys e h = ap Some h ∙ e
