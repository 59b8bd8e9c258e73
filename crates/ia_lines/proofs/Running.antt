-- Runs of a program, opcode by opcode.
use Rattle.std.proofs.Common.{◌≡◌, ℕ, List, [], ◌∷◌, ◌++◌, Some, length, append_assoc, subst, sym, arith}
use Rattle.std.proofs.lemmas.List.{append-nil}
use Rattle.ia_lines.specs.Opcodes.{opcode_at}
use Rattle.ia_lines.specs.Machine.{Runs, step, ended, after, rows_of}
use Rattle.ia_lines.specs.declared.layout.Layout.{Layout}
use Rattle.ia_lines.specs.declared.lines.Row.{Row}
use Rattle.ia_lines.specs.declared.machine.Registers.{Registers}
use Rattle.ia_lines.specs.declared.opcodes.Opcode.{Opcode}

-- some rows come in front of whatever a program's rest appends
abbrev pub ComesFirst : Layout → Registers → List ℕ → Registers → List ℕ → List Row → Type 0
ComesFirst layout first program now rest done =
    (more : List Row) → Runs layout now rest more → Runs layout first program (done ++ more)

pub one_opcode : (layout : Layout) (first now next : Registers) (program rest behind : List ℕ) (opcode : Opcode)
    (done : List Row) → ComesFirst layout first program now rest done
    → opcode_at layout.opcode_base rest ≡ Some (opcode, behind) → next ≡ after layout opcode now
    → ComesFirst layout first program next behind (done ++ rows_of layout opcode now)
one_opcode layout first now next program rest behind opcode done front found moved more runs =
    subst (λ (rows : List Row). Runs layout first program rows)
    (sym (append_assoc done (rows_of layout opcode now) more))
    (front (rows_of layout opcode now ++ more)
    (step found (subst (λ (r : Registers). Runs layout r behind more) moved runs)))

pub whole : (layout : Layout) (first now : Registers) (program rest : List ℕ) (done : List Row)
    → ComesFirst layout first program now rest done → length rest ≡ 0 → Runs layout first program done
whole layout first now program [] done front none =
    subst (λ (rows : List Row). Runs layout first program rows) (append-nil done) (front [] ended)
whole layout first now program (byte ∷ rest) done front none = absurd (omega arith)
