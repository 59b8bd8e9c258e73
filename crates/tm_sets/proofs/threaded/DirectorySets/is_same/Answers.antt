use Rattle.std.proofs.Common.{◌≡◌, ℕ, List, sym, ◌∙◌}
use Rattle.std.proofs.lemmas.Bool.{ne_eqb}
use Rattle.std.specs.FinSet as set
use Rattle.tm_sets.specs.declared.interface.Kind.{Kind}
use Rattle.tm_sets.specs.declared.interface.Kind.TheVariants.{Read, Write}
use Rattle.tm_sets.specs.declared.row.Entry.{Entry}
use Rattle.tm_sets.specs.Row.{lines_in}
use Rattle.tm_sets.proofs.Counting.{never, equal}
use Rattle.tm_sets.proofs.Same.{itself}
use Rattle.tm_sets.proofs.Within.{same_lines}
use Rattle.tm_sets.proofs.threaded.DirectorySets.is_same.Goals as goal
use Rattle.tm_sets.proofs.threaded.DirectorySets.is_same.Goals.{then-held_lines, else-held_lines}

-- two rows have as many lines of a core, of this kind
abbrev AsMany : List Entry → List Entry → ℕ → Kind → Type 0
AsMany es others core kind = set.len (lines_in es core kind) ≡ set.len (lines_in others core kind)

of_each : (es others : List Entry) (core : ℕ) → AsMany es others core Read → AsMany es others core Write
    → (kind : Kind) → AsMany es others core kind
of_each es others core read write Read = read
of_each es others core read write Write = write

pub returns-then-held_lines-2-clause-lines : goal.returns-then-held_lines-2-clause-lines
returns-then-held_lines-2-clause-lines c subset kind =
    let mine = c.args.self.now in
    let other = c.args.other.now in
    same_lines mine.entries.items other.entries.items c.args.core kind
    (elim c.if-held_lines.branch [
      | then-held_lines w ↦
          of_each mine.entries.items other.entries.items c.args.core
          (sym (mine.counted.reads c.args.core) ∙ sym c.held_lines.ensures ∙ w.if-held_lines.true
          ∙ c.held_lines-2.ensures ∙ other.counted.reads c.args.core)
          (sym (mine.counted.writes c.args.core) ∙ sym w.held_lines-then-held_lines.ensures
          ∙ equal w.held_lines-then-held_lines.result w.held_lines-then-held_lines-2.result
          (sym w.value-is ∙ c.if-held_lines-2.true)
          ∙ w.held_lines-then-held_lines-2.ensures ∙ other.counted.writes c.args.core)
          kind
      | else-held_lines w ↦
          never c.if-held_lines.value c.if-held_lines-2.true
          (w.value-is ∙ ne_eqb c.held_lines.result c.held_lines-2.result w.if-held_lines.false)
    ])
    (c.is_within.ensures.within subset kind)

pub returns-then-held_lines-2-clause-all : goal.returns-then-held_lines-2-clause-all
returns-then-held_lines-2-clause-all c same =
    c.is_within.ensures.all (λ kind. itself (lines_in c.args.self.now.entries.items c.args.core kind)
    (lines_in c.args.other.now.entries.items c.args.core kind) (same kind))
