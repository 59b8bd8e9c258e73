-- A text that is written part by part, and the lines behind a place.
use Rattle.std.proofs.Common.{◌≡◌, ℕ, ◌+◌, ◌≤◌, List, [], ◌∷◌, ◌++◌, refl, sym, ◌∙◌, ap, append-nil, drop, length}
use Rattle.std.proofs.lemmas.List.{drop-drop, drop_all}
use Rattle.ia_lex.specs.Lines.{lines_of}
use Rattle.text_out.specs.Writing.{Device, Making, Stopped, Wrote}
use Rattle.text_out.proofs.Writing.{making_more, making_room, making_stopped}
use Rattle.ia_source.specs.Warnings.{line_warning, lone_label, warnings_from}

-- a part of the rest was written
pub part_wrote : {a b c : Device} {rest whole : List ℕ} (part rest' : List ℕ) → Making a b [] rest whole
    → rest ≡ part ++ rest'
    → Wrote b c part → Making a c [] rest' whole
part_wrote {a} {b} {c} {rest} {whole} part rest' m e h =
    making_room (making_more part part rest' m e refl)
    (record { front = part; split = sym (append-nil part); wrote = h })

-- the warnings of the lines behind a place, by the first of them
pub line_behind : (n place taken : ℕ) (source line : List ℕ)
    → lines_of (drop place source) ≡ line ∷ lines_of (drop taken (drop place source))
    → warnings_from n (lines_of (drop place source))
    ≡ line_warning n (lone_label line) ++ warnings_from (n + 1) (lines_of (drop (place + taken) source))
line_behind n place taken source line e =
    ap (warnings_from n) e
    ∙ ap (λ l. line_warning n (lone_label line) ++ warnings_from (n + 1) (lines_of l)) (drop-drop taken place source)

-- behind the end there is none
pub none_behind : (n place : ℕ) (source : List ℕ) → length source ≤ place
    → warnings_from n (lines_of (drop place source)) ≡ []
none_behind n place source h = ap (λ l. warnings_from n (lines_of l)) (drop_all place source h)

-- a beginning of a part of the rest was written
pub part_stopped : {a b c : Device} {rest whole : List ℕ} (part rest' : List ℕ) → Making a b [] rest whole
    → rest ≡ part ++ rest'
    → Stopped b c part → Stopped a c whole
part_stopped {a} {b} {c} {rest} {whole} part rest' m e h = making_stopped (making_more part part rest' m e refl) h
