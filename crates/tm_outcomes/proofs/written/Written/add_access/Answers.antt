use Rattle.std.proofs.Common.{◌/◌, ◌≤◌, inl, inr, Option, subst, arith}
use Rattle.std.specs.Prelude.{Contains}
use Rattle.std.proofs.lemmas.Bool.{cases_lt}
use Rattle.ia_word.specs.Width.{bytes_of}
use Rattle.ia_word.specs.declared.width.Width.{Width}
use Rattle.ia_word.specs.declared.width.Width.TheVariants.{B, D}
use Rattle.tm_model.specs.Access.{loaded_addresses}
use Rattle.tm_model.specs.Types.{Access}
use Rattle.tm_outcomes.proofs.Digests.{more_then}
use Rattle.tm_outcomes.proofs.Stored.{in_row}
use Rattle.tm_outcomes.proofs.written.Written.add_access.Goals as goal

few : (width : Width) → (1 ≤ bytes_of width) × (bytes_of width ≤ 4)
few B = ((omega arith), (omega arith))
few D = ((omega arith), (omega arith))

pub returns-clause-all : goal.returns-clause-all
returns-clause-all c = λ address among.
    let access = c.in-Some.access in
    let start = access.addr in
    let row = in_row start (bytes_of access.width) address
    (subst (λ (a : Option Access). Contains (loaded_addresses a) address) c.in-Some.is among) in
    let low = row.0 in
    let high = row.1 in
    let least = (few access.width).0 in
    let most = (few access.width).1 in
    elim (cases_lt (start / 64) (address / 64)) [
      | inl later ↦
          subst (λ n. Contains c.add-2.new.self.lines.items n) (omega arith) c.in_ok-add-2.ensures.here
      | inr same ↦
          subst (λ n. Contains c.add-2.new.self.lines.items n) (omega arith)
          (c.in_ok-add-2.ensures.keeps.kept _ c.in_ok-add.ensures.here)
    ]

pub returns-clause-grown : goal.returns-clause-grown
returns-clause-grown c =
    more_then c.args.self.now.lines.items c.add.new.self.lines.items c.add-2.new.self.lines.items
    c.in_ok-add.ensures.grown
    c.in_ok-add-2.ensures.grown
