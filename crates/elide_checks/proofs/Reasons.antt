-- Why an option is misread.
use Rattle.std.proofs.Common.{◌≡◌, ◌≢◌, ◌∙◌, ℕ, List, ap, codes, subst, sym}
use Rattle.std.specs.Borrow.{Bor}
use Rattle.elide_program.specs.declared.fault.ProgramRefusal.{ProgramRefusal}
use Rattle.elide_program.specs.declared.fault.ProgramRefusal.TheVariants as program
use Rattle.elide_setup.specs.Faults.{refusal_of}
use Rattle.elide_setup.specs.Misuse.{IsMisuse}
use Rattle.elide_setup.specs.declared.fault.Refusal.{Refusal}
use Rattle.tm_hist.specs.Lines.{stop_word}
use Rattle.tm_pick.specs.declared.method.Method.{Method}
use Rattle.tm_pick.specs.declared.method.Method.TheVariants.{Mix, Uniform, Bursts, Priorities, Seen}
use Rattle.tm_rule.specs.declared.kinds.Stop.{Stop}
use Rattle.tm_rule.specs.declared.kinds.Stop.TheVariants as stop
use Rattle.elide_checks.specs.Runs.{method_word}

-- the option of this name is misused, which a program's refusal says
pub misuse_named : (name : List ℕ) (said : Bor (List ℕ)) (cause : ProgramRefusal) (why : Refusal)
    → cause ≡ program.Usage said →
    why ≡ refusal_of cause → said.now ≡ name → IsMisuse name why
misuse_named name said cause why named told is =
    subst (λ (w : Refusal). IsMisuse name w) (sym (told ∙ ap refusal_of named)) is

pub no_method : (word : List ℕ) → word ≢ codes "mix" → word ≢ codes "uniform" → word ≢ codes "bursts"
    → word ≢ codes "pct" →
    word ≢ codes "seen" → (method : Method) → word ≢ method_word method
no_method word mix uniform bursts pct seen Mix e = mix e
no_method word mix uniform bursts pct seen Uniform e = uniform e
no_method word mix uniform bursts pct seen Bursts e = bursts e
no_method word mix uniform bursts pct seen Priorities e = pct e
no_method word mix uniform bursts pct seen Seen e = seen e

pub no_stop : (word : List ℕ) → word ≢ codes "#DE" → word ≢ codes "#BP" → word ≢ codes "#UD" → word ≢ codes "#GP"
    → word ≢ codes "HLT" →
    word ≢ codes "range" → word ≢ codes "code-store" → word ≢ codes "fetch" → word ≢ codes "not-in-subset"
    → (why : Stop) →
    stop_word why ≢ word
no_stop word de bp ud gp hlt range code fetch other stop.Divide e = de (sym e)
no_stop word de bp ud gp hlt range code fetch other stop.Breakpoint e = bp (sym e)
no_stop word de bp ud gp hlt range code fetch other stop.Undefined e = ud (sym e)
no_stop word de bp ud gp hlt range code fetch other stop.Protection e = gp (sym e)
no_stop word de bp ud gp hlt range code fetch other stop.Halt e = hlt (sym e)
no_stop word de bp ud gp hlt range code fetch other stop.Range e = range (sym e)
no_stop word de bp ud gp hlt range code fetch other stop.CodeStore e = code (sym e)
no_stop word de bp ud gp hlt range code fetch other stop.Fetch e = fetch (sym e)
no_stop word de bp ud gp hlt range code fetch other stop.NotInSubset e = other (sym e)
