use Rattle.std.proofs.Common.{ap, refl, ◌∙◌}
use Rattle.elide_test.specs.declared.folder.FolderPaths.{FolderPaths}
use Rattle.text_out.specs.declared.out.ToVec.{ToVec}
use Rattle.elide_trial.proofs.carrier.carried_out.Goals as goal

pub returns : goal.returns
returns g c =
    let files : FolderPaths g.row.S.Denot =
    record { alloc = c.args.alloc; paths = c.args.paths; folder = c.args.folder } in
    record {
      given = c.args.words;
      same_words = refl;
      files = files;
      same_files = refl;
      same_folder = refl;
      device = c.new-2.result;
      is_empty = ap (λ (o : ToVec). o.bytes.items) c.new-2.ensures ∙ c.new.ensures.items;
      end = c.call-end.result;
      answered = c.call-end.ensures;
      same_status = c.in_ok-ended.ensures.status;
      same_output = c.in_ok-ended.ensures.output;
      same_errors = c.in_ok-ended.ensures.errors;
      none_lost = c.in_ok-ended.ensures.whole;
    }
