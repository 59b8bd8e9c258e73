use Rattle.std.proofs.Common.{◌≡◌, ◌∙◌, ℕ, ◌+◌, List, [], ◌∷◌, ◌++◌, ap, subst, sym, take}
use Rattle.std.proofs.lemmas.List.{take_more}
use Rattle.std.specs.Prelude.{slice_index_or}
use Rattle.text_out.proofs.Writing.{wrote_then}
use Rattle.text_out.specs.Writing.{Wrote}
use Rattle.page_steps.specs.Stored.{joint_text, more_text}
use Rattle.page_steps.specs.Types.{StoredByte}
use Rattle.page_steps.proofs.Texts.{last_and, last_of, more_and}
use Rattle.page_steps.proofs.stored.put_more.Goals as goal

pub loop-byte-preserved : goal.loop-byte-preserved
loop-byte-preserved g c =
    let first : StoredByte = c.args.first in
    let bytes : List StoredByte = c.args.bytes.now in
    let i = c.loop-byte.byte-index in
    let none : StoredByte = record { address = 0; byte = 0 } in
    let byte : StoredByte = slice_index_or bytes i none in
    let more : take (i + 1) bytes ≡ take i bytes ++ byte ∷ [] = take_more bytes i none c.loop-byte-test.true in
    let text :
    more_text first (take i bytes) ++ joint_text c.loop-byte.last byte ≡ more_text first (take (i + 1) bytes) =
    ap (λ l. more_text first (take i bytes) ++ joint_text l byte) c.loop-byte.invariant.last
    ∙ sym (more_and first (take i bytes) byte) ∙ ap (more_text first) (sym more) in
    record {
      wrote = subst (λ (t : List ℕ). Wrote (g.O.Out.device c.args.out.now) (g.O.Out.device c.put_next.new.out) t) text
          (wrote_then c.loop-byte.invariant.wrote c.in_ok-put_next.ensures);
      last = sym (ap (last_of first) more ∙ last_and first (take i bytes) byte);
    }
