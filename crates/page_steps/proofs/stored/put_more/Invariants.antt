use Rattle.std.proofs.Common.{◌≡◌, take}
use Rattle.text_out.specs.Writing.{Wrote}
use Rattle.page_steps.proofs.Texts.{last_of}
use Rattle.page_steps.specs.Stored.{more_text}
use Rattle.page_steps.proofs.stored.put_more.Given as goal

-- the bytes so far were written, of which the last is known
abbrev pub invariant-loop-byte : goal.invariant-loop-byte
invariant-loop-byte g l = record {
  wrote : Wrote (g.O.Out.device l.initial.out) (g.O.Out.device l.out)
      (more_text l.initial.last (take l.byte-index l.bytes));
  last : l.last ≡ last_of l.initial.last (take l.byte-index l.bytes);
}
