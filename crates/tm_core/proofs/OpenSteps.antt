-- The step of an open core as a whole, with what it leaves of the core: it goes on with room for its lines, or its
-- transaction aborts.
use Rattle.std.proofs.Common.{◌≡◌, ℕ, ◌*◌, ◌^◌, ◌<◌, ◌≤◌, true, false, List, Option, length, map, refl, sym, ap, ◌∙◌}
use Rattle.std.specs.Prelude.{IfSome}
use Rattle.tm_rule.specs.Rule.{load_at, inside_of}
use Rattle.tm_sets.specs.Content.{Content}
use Rattle.tm_model.specs.Access.{loaded_addresses, loaded_value}
use Rattle.tm_model.specs.Owed.{have_room, status_at}
use Rattle.tm_model.specs.Shown.{View}
use Rattle.tm_model.specs.Steps.{registers_after_abort}
use Rattle.tm_core.specs.declared.cpu.Cpu.{Cpu}
use Rattle.tm_core.specs.declared.transaction.InsideStep.TheVariants.{Aborts, GoesInside}
use Rattle.tm_core.specs.Representation.{Elsewhere, IsHeld, IsOnLines, cpu_view, kept_of, parts_setting}
use Rattle.tm_core.specs.Stepping.{Closes, IsOpenCore, StepsInside}
use Rattle.tm_core.specs.StepRefinement.{StepResult, if_room, quit, ran_inside, seen, stayed, stepped}
use Rattle.tm_core.specs.Types.{Aborted, Access, Capacity, InsideResult, Open, Outcome, Regs, Write}
use Rattle.tm_core.proofs.Held.{held_plain}
use Rattle.tm_core.proofs.Inside.{leaves, open_regs, overflows, row, stays}
use Rattle.tm_core.proofs.Table.{load_is_in, load_lines}

-- what is loaded lies on lines that the sets know
pub loads_on_lines : (code : List ℕ) (base size : ℕ) (a : Content) (s : Regs) (access : Option Access)
    → access ≡ load_at code base size s → size ≤ a.fixed.line_count * 64 → size < 2 ^ 32
    → IfSome access (λ load. IsOnLines a load.addr load.width)
loads_on_lines code base size a s access is within small =
    load_lines size a.fixed.line_count access (load_is_in code base size s access is) within small

-- what one step leaves of the others, and then a second one
elsewhere_on : {a b c : Content} {number : ℕ} → Elsewhere a b number → Elsewhere b c number → Elsewhere a c number
elsewhere_on first second = record {
  lines = λ other apart kind. second.lines other apart kind ∙ first.lines other apart kind;
  slots = λ other apart. second.slots other apart ∙ first.slots other apart;
  fixed = second.fixed ∙ first.fixed;
}

-- a core that is closed has nothing in its buffer
pub closed_held : {a b : Content} {number : ℕ} {x y : Cpu} {regs : Regs} (room : ℕ) → x.buffer.room ≡ room
    → Closes a b number x y regs → IsHeld room (kept_of b number y)
closed_held {b = b} {number = number} {y = y} room same closed =
    held_plain room (kept_of b number y) (closed.room ∙ same) closed.order closed.slots
    (ap (λ (w : View). w.writes) closed.view)

-- [`row`] of a core that is open
pub run_open : (code : List ℕ) (base : ℕ) (m : List ℕ) {a : Content} {number depth : ℕ} {x : Cpu}
    (access : Option Access) (loaded : ℕ) (o : InsideResult) → IsOpenCore (length m) a number depth x
    → access ≡ load_at code base (length m) x.regs
    → loaded ≡ loaded_value access (map (seen x.buffer.bytes m) (loaded_addresses access))
    → o ≡ inside_of code base (length m) x.regs depth loaded
    → stepped (parts_setting code base (length m) a) m (cpu_view a number x) (Open depth)
    ≡ ran_inside (parts_setting code base (length m) a) m (cpu_view a number x) depth (loaded_addresses access) o
run_open code base m {a = a} {number = number} {depth = depth} {x = x} access loaded o core is value e =
    row code base (length m) a m (cpu_view a number x) depth x.regs (open_regs x depth core.mode) access loaded o is
    value e

-- it goes on, and there is room for its lines
pub stays_inside : (code : List ℕ) (base : ℕ) (m : List ℕ) {a b : Content} {number depth : ℕ} {x : Cpu} (y : Cpu)
    (access : Option Access) (new : View) → IsOpenCore (length m) a number depth x
    → access ≡ load_at code base (length m) x.regs
    → stepped (parts_setting code base (length m) a) m (cpu_view a number x) (Open depth)
    ≡ if_room (parts_setting code base (length m) a) m (cpu_view a number x) depth new
    (stayed m (loaded_addresses access) new)
    → true ≡ have_room (parts_setting code base (length m) a) new.reads new.writes → cpu_view b number y ≡ new
    → IsHeld (a.fixed.room Write) (kept_of b number y) → Elsewhere a b number
    → StepsInside code base m a b number depth x y (GoesInside access)
stays_inside code base m {a = a} {b = b} {number = number} {depth = depth} {x = x} y access new core is went room grown
    held elsewhere = record {
      step = went ∙ stays code base (length m) a m (cpu_view a number x) depth new (cpu_view b number y) room grown _ _
          (ap (λ (w : View). stayed m (loaded_addresses access) w) (sym grown));
      held = held;
      lines = loads_on_lines code base (length m) a x.regs access is core.within core.small;
      elsewhere = elsewhere;
      buffer = λ e. cc;
      order = λ e. cc;
    }

-- it quits with this status: the core is still open behind what it tried, and then closed
pub aborts : (code : List ℕ) (base : ℕ) (m : List ℕ) {a b c : Content} {number depth : ℕ} {x y z : Cpu} (status : ℕ)
    (out : Outcome) → IsOpenCore (length m) a number depth x
    → stepped (parts_setting code base (length m) a) m (cpu_view a number x) (Open depth)
    ≡ quit (parts_setting code base (length m) a) m (cpu_view a number x) status
    → y.base ≡ x.base → y.buffer.room ≡ x.buffer.room → Elsewhere a b number → out ≡ Aborted status
    → Closes b c number y z (registers_after_abort (parts_setting code base (length m) a) y.base status)
    → StepsInside code base m a c number depth x z (Aborts out)
aborts code base m {a = a} {c = c} {number = number} {depth = depth} {x = x} {y = y} {z = z} status out core quits
    same_base same_room first is closed = record {
      step = quits
          ∙ leaves code base (length m) a m (cpu_view a number x) depth y.base status out (cpu_view c number z) is
          closed.view same_base;
      held = closed_held (a.fixed.room Write) (same_room ∙ core.held.same_room) closed;
      lines = tt;
      elsewhere = elsewhere_on first closed.elsewhere;
      buffer = λ e. cc;
      order = λ e. cc;
    }

-- its lines have no room
pub aborts_full : (code : List ℕ) (base : ℕ) (m : List ℕ) {a b c : Content} {number depth : ℕ} {x y z : Cpu}
    (new : View) (r : StepResult) (out : Outcome) → IsOpenCore (length m) a number depth x
    → stepped (parts_setting code base (length m) a) m (cpu_view a number x) (Open depth)
    ≡ if_room (parts_setting code base (length m) a) m (cpu_view a number x) depth new r
    → false ≡ have_room (parts_setting code base (length m) a) new.reads new.writes
    → y.base ≡ x.base → y.buffer.room ≡ x.buffer.room → Elsewhere a b number
    → out ≡ Aborted (status_at Capacity depth)
    → Closes b c number y z
    (registers_after_abort (parts_setting code base (length m) a) y.base (status_at Capacity depth))
    → StepsInside code base m a c number depth x z (Aborts out)
aborts_full code base m {a = a} {number = number} {depth = depth} {x = x} new r out core went full same_base same_room
    first is closed =
    aborts code base m (status_at Capacity depth) out core
    (went ∙ overflows code base (length m) a m (cpu_view a number x) depth new full r _ refl) same_base same_room first
    is closed
