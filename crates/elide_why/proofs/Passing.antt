-- What is written on a device that gathers, behind what the other one held.
use Rattle.std.proofs.Common.{ℕ, List, ◌++◌, Option, None, Some, ap, ◌∙◌}
use Rattle.std.specs.Io.KnownBytes.{Appends, Keeps}
use Rattle.text_out.proofs.Writing.{appends_then}

pub kept_first : (first begun last : Option (List ℕ)) (text : List ℕ) → Keeps first begun → Appends begun last text
    → Appends first last text
kept_first None begun last text h k = tt
kept_first (Some xs) None last text h k = absurd h
kept_first (Some xs) (Some ys) None text h k = absurd k
kept_first (Some xs) (Some ys) (Some zs) text h k = k ∙ ap (λ l. l ++ text) h

pub kept_last : (begun ended last : Option (List ℕ)) (text : List ℕ) → Appends begun ended text → Keeps ended last
    → Appends begun last text
kept_last None ended last text k e = tt
kept_last (Some xs) None last text k e = absurd k
kept_last (Some xs) (Some ys) None text k e = absurd e
kept_last (Some xs) (Some ys) (Some zs) text k e = e ∙ k

-- two texts, one behind the other, that were handed on
pub both_passed_on : (first begun between ended last : Option (List ℕ)) (text rest : List ℕ) →
    Keeps first begun → Appends begun between text → Appends between ended rest → Keeps ended last
    → Appends first last (text ++ rest)
both_passed_on first begun between ended last text rest h k l e =
    kept_first first begun last (text ++ rest) h
    (kept_last begun ended last (text ++ rest) (appends_then begun between ended text rest k l) e)
