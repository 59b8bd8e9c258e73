-- What comes of a source that FILE holds.
use Rattle.std.proofs.Common.{ℕ, Bool, List, Option, Result, MatchResult, inr}
use Rattle.std.proofs.lemmas.Result.{MatchResult-weaker}
use Rattle.text_out.specs.Writing.{Device}
use Rattle.elide_program.specs.Files.{Gives, most_bytes}
use Rattle.elide_program.specs.declared.fault.ProgramRefusal.{ProgramRefusal}
use Rattle.elide_asm.specs.Printed.{IsAssembly, Prints, PrintsAssembly, RefusesAssembly, RefusesSource}

pub of_file : {T : Type 0} (r : Result T ProgramRefusal) (content : Option (List ℕ)) (lists : Bool) (source : List ℕ)
    (before after : Device) → Gives content most_bytes source
    → MatchResult r (λ _. Prints (IsAssembly lists source) before after)
    (RefusesSource source (IsAssembly lists source) before after)
    → MatchResult r (λ _. PrintsAssembly content lists before after) (RefusesAssembly content lists before after)
of_file r content lists source before after given made =
    MatchResult-weaker r {P = λ _. Prints (IsAssembly lists source) before after}
    {P' = λ _. PrintsAssembly content lists before after}
    {Q = RefusesSource source (IsAssembly lists source) before after}
    {Q' = RefusesAssembly content lists before after} made
    (λ _ printed. (source, given, printed))
    (λ _ refused. inr (source, given, refused))
