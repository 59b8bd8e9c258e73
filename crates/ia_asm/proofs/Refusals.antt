-- From what reading and placing tell to what assembling tells.
use Rattle.std.proofs.Common.{ℕ, List, refl, inl, inr}
use Rattle.ia_item.specs.declared.item.Entry.{Entry}
use Rattle.ia_source.specs.declared.fault.SourceFault.{SourceFault}
use Rattle.ia_source.specs.declared.fault.SourceFault.TheVariants as source
use Rattle.ia_source.specs.declared.fault.Why.TheVariants as why
use Rattle.ia_source.specs.Source.{AsksFor, entries_of, Tells as SourceTells}
use Rattle.ia_asm.specs.declared.fault.AsmFault.{AsmFault}
use Rattle.ia_asm.specs.declared.fault.AsmFault.TheVariants as asm
use Rattle.ia_asm.specs.Assemblies.{TellsFault}
use Rattle.ia_asm.specs.Assembles.{RefusedAs}
use Rattle.ia_asm.specs.Faults.{asm_fault}

pub reading_refused : (text : List ℕ) (f : SourceFault) → SourceTells (entries_of text) f → RefusedAs text (asm_fault f)
reading_refused text (source.Line line why.BadToken) e = inl (line, why.BadToken, e, refl)
reading_refused text (source.Line line why.NotInSubset) e = inl (line, why.NotInSubset, e, refl)
reading_refused text (source.Line line why.SymbolTwice) e = inl (line, why.SymbolTwice, e, refl)
reading_refused text (source.Line line why.BadOperand) e = inl (line, why.BadOperand, e, refl)
reading_refused text source.NoMemory e = tt

pub placing_refused : (text : List ℕ) (es : List Entry) → AsksFor text es → (f : AsmFault) → TellsFault es f
    → RefusedAs text f
placing_refused text es a asm.NoMemory t = tt
placing_refused text es a (asm.BadToken l) t = inr (es, a, t)
placing_refused text es a (asm.BadOperand l) t = inr (es, a, t)
placing_refused text es a (asm.UnknownSymbol l) t = inr (es, a, t)
placing_refused text es a (asm.SymbolTwice l) t = inr (es, a, t)
placing_refused text es a (asm.Range l) t = inr (es, a, t)
placing_refused text es a (asm.NotInSubset l) t = inr (es, a, t)
placing_refused text es a (asm.ShortJumpTooFar l) t = inr (es, a, t)
