-- What is told of stores that are late past a load (docs/FORMATS.md, "Checks").
use Rattle.std.specs.Prelude.{◌≡◌, ℕ, ◌+◌, List, ◌++◌, codes}
use Rattle.std.specs.Fmt.{decimal}
use Rattle.elide_why.specs.Lines.{insn_words}
use Rattle.elide_why.specs.declared.words.Words.{Words}
use Rattle.text_out.specs.TextLine.{line_end}
use Rattle.tm_hunt.specs.Deciding.{deciding}
use Rattle.tm_hunt.specs.Delays.{IsDelayed}
use Rattle.tm_hunt.specs.declared.delays.Delayed.{Delayed}
use Rattle.tm_hunt.specs.declared.failure.Failure.{Failure}
use Rattle.tm_hunt.specs.declared.trial.Trial.{Trial}
use Rattle.elide_hunt.specs.declared.late.Late.{Late}

-- ---- the text

-- a step by its number
abbrev pub step_text : ℕ → List ℕ
step_text step = codes " (step " ++ decimal step ++ codes ")"

-- the store, and the load that it is late past
abbrev pub late_line : Late → List ℕ
late_line late =
    codes "delayed: " ++ (late.store.items ++ (step_text late.stored ++ (codes " past "
    ++ (late.load.items ++ (step_text late.loaded ++ line_end)))))

-- where an instruction stands, and what it is
abbrev pub words_text : Words → List ℕ
words_text words = words.place.items ++ (codes " " ++ insn_words words.insn words.eip)

-- ---- of which step

-- the words of the instruction at this address
abbrev pub IsTextAt : ℕ → List ℕ → Type 0
IsTextAt eip text = (words : Words) × (words.eip ≡ eip) × (text ≡ words_text words)

-- what is told of a store and a load: its core, their steps, counted from 1, and their instructions
pub record IsLateOf (delayed : Delayed) (late : Late) : Type 0 where
  pub core : late.core ≡ delayed.core
  pub stored : late.stored ≡ delayed.stored + 1
  pub store_at : late.store_eip ≡ delayed.store_eip
  pub store : IsTextAt delayed.store_eip late.store.items
  pub loaded : late.loaded ≡ delayed.loaded + 1
  pub load_at : late.load_eip ≡ delayed.load_eip
  pub load : IsTextAt delayed.load_eip late.load.items

-- a store of a failing run that is late past a load, both of the steps that decide
pub record IsLate (trial : Trial) (failure : Failure) (late : Late) : Type 0 where
  pub delayed : Delayed
  pub is_delayed : IsDelayed trial (deciding failure) delayed
  pub told : IsLateOf delayed late
