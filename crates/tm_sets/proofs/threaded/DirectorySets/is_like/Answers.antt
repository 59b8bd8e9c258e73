use Rattle.std.proofs.Common.{length, sym, ap, ◌∙◌}
use Rattle.std.proofs.lemmas.Bool.{eq-eqb}
use Rattle.tm_sets.specs.declared.interface.Kind.TheVariants.{Read, Write}
use Rattle.tm_sets.proofs.Counting.{never}
use Rattle.tm_sets.proofs.threaded.DirectorySets.is_like.Goals as goal
use Rattle.tm_sets.proofs.threaded.DirectorySets.is_like.Goals.{then-as_slice, else-as_slice, then-self-other}
use Rattle.tm_sets.proofs.threaded.DirectorySets.is_like.Goals.{else-self-other}

pub returns-then-self-other-2-clause-all : goal.returns-then-self-other-2-clause-all
returns-then-self-other-2-clause-all c same =
    eq-eqb c.args.self.now.write_lines c.args.other.now.write_lines (ap (λ f. f.room Write) same)

pub returns-else-self-other-2-clause-all : goal.returns-else-self-other-2-clause-all
returns-else-self-other-2-clause-all c same = elim c.if-self-other.branch [
  | then-self-other w ↦
      w.value-is ∙ eq-eqb c.args.self.now.read_lines c.args.other.now.read_lines (ap (λ f. f.room Read) same)
  | else-self-other w ↦ elim c.if-as_slice.branch [
    | then-as_slice v ↦ never c.if-as_slice.value
        (v.value-is ∙ eq-eqb c.args.self.now.line_count c.args.other.now.line_count (ap (λ f. f.line_count) same))
        w.if-self-other.false
    | else-as_slice v ↦ absurd (v.if-as_slice.false (ap length c.as_slice.ensures.value ∙ ap (λ f. f.cores) same
        ∙ sym (ap length c.as_slice-2.ensures.value)))
  ]
]
