use Rattle.std.proofs.Common.{◌≡◌, ◌<◌, ◌*◌, ℕ, List, length, eqb, false, get_or, sym, ap, ◌∙◌, subst, arith}
use Rattle.std.proofs.lemmas.List.{get_or_default}
use Rattle.std.specs.List.{list_any}
use Rattle.std.specs.FinSet as finset
use Rattle.tm_sets.specs.Content.{Content}
use Rattle.tm_model.specs.Explained.{IsHitOnLines}
use Rattle.tm_core.specs.declared.cpu.Cpu.{Cpu}
use Rattle.tm_core.specs.ExplainedViews.{is_used, touched_told}
use Rattle.tm_core.specs.Representation.{IsHeld, cpu_at, kept_at, no_cpu}
use Rattle.tm_core.specs.StepRefinement.{Touched, lines_touched}
use Rattle.tm_core.specs.Types.{Lines, Read, Write}
use Rattle.tm_core.proofs.Cores.{lines_below}
use Rattle.tm_core.proofs.ExplainHits.{commit_stored, same_uses, stores_not_loaded}
use Rattle.tm_core.proofs.explain_hit.hit_touched.Goals as goal

pub hit_of_commit-requires-clause-lines : goal.hit_of_commit-requires-clause-lines
hit_of_commit-requires-clause-lines g c =
    let a : Content = g.S.Sets.content c.args.sets.now in
    let cpus : List Cpu = c.args.cpus.now in
    let n : ℕ = a.fixed.line_count in
    let here : get_or cpus c.args.c c.index-cpus-c.result ≡ cpu_at cpus c.args.c =
    get_or_default cpus c.args.c c.index-cpus-c.result no_cpu c.requires.exists in
    let below : (i : ℕ) → i < length (cpu_at cpus c.args.c).buffer.order →
    get_or (cpu_at cpus c.args.c).buffer.order i 0 < n =
    lines_below (a.fixed.room Write) (n * 64) n (kept_at a cpus c.args.c) c.requires.held
    (c.requires.written c.in-WriteSet.is) (omega arith) in
    subst (λ (z : Cpu). (i : ℕ) → i < length z.buffer.order → get_or z.buffer.order i 0 < n) (sym here) below

pub returns-in-WriteSet-clause-opened : goal.returns-in-WriteSet-clause-opened
returns-in-WriteSet-clause-opened g c _ _ =
    let a : Content = g.S.Sets.content c.args.sets.now in
    let cpus : List Cpu = c.args.cpus.now in
    let reads : Lines = a.lines c.args.victim Read in
    let writes : Lines = a.lines c.args.victim Write in
    let mine : Lines = a.lines c.args.c Write in
    let here : get_or cpus c.args.c c.index-cpus-c.result ≡ cpu_at cpus c.args.c =
    get_or_default cpus c.args.c c.index-cpus-c.result no_cpu c.requires.exists in
    let held : IsHeld (a.fixed.room Write) (kept_at a cpus c.args.c) = c.requires.held in
    let order : List ℕ = (get_or cpus c.args.c c.index-cpus-c.result).buffer.order in
    let same : (q : ℕ) → list_any (eqb q) order ≡ finset.contains mine q =
    λ q. ap (λ (z : Cpu). list_any (eqb q) z.buffer.order) here ∙ held.same q in
    let all : Touched = lines_touched Write (finset.items mine) in
    subst (λ touched. IsHitOnLines (is_used touched Write) (is_used touched Read) reads writes c.hit_of_commit.result)
    (ap (touched_told mine) (sym c.in-WriteSet.is))
    (same_uses (λ q. list_any (eqb q) order) (is_used all Write) (λ _. false) (is_used all Read) reads writes
    c.hit_of_commit.result (commit_stored order mine same) (λ q. sym (stores_not_loaded (finset.items mine) q))
    c.hit_of_commit.ensures)
