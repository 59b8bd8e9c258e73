use Rattle.std.proofs.Common.{rules, refl, subst, sym}
use Rattle.std.proofs.lemmas.List.Elements.{All-push}
use Rattle.std.specs.Prelude.{All}
use Rattle.elide_hunt.specs.Lates.{IsLate}
use Rattle.elide_hunt.proofs.late.Told.add.Goals as goal

pub returns : goal.returns
returns c =
    let is_late = IsLate c.args.self.trial c.args.self.failure.now in
    subst (All is_late) (sym c.in_ok-push.ensures.items)
    (All-push is_late c.args.lates.now.items _ c.requires.late (record {
      delayed = c.args.delayed;
      is_delayed = c.requires.delayed;
      told = record {
        core = refl;
        stored = search rules;
        store_at = refl;
        store = c.in_ok-text_at.ensures;
        loaded = search rules;
        load_at = refl;
        load = c.in_ok-text_at-2.ensures;
      };
    }))
