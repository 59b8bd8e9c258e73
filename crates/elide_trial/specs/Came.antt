-- What a command of a test came to (docs/FORMATS.md, "Tests"), by what the call answered that carried it out.
use Rattle.std.specs.Prelude.{◌≡◌, ℕ, List, [], Option}
use Rattle.std.specs.Borrow.{Bor}
use Rattle.std.specs.Option.{option_copied}
use Rattle.elide_args.specs.Asked.{texts_of}
use Rattle.elide_test.specs.declared.ended.Ended.{Ended}
use Rattle.elide_test.specs.declared.folder.FolderPaths.{FolderPaths}
use Rattle.text_out.specs.declared.out.ToVec.{ToVec}
use Rattle.elide_trial.specs.declared.ending.CommandEnd.{CommandEnd}

-- a call with these words, with these files as they are seen from this folder, if there is one, and with an empty
-- device ended with this status, its device has the whole output, and this came on standard error
pub record CameTo {S : Type 0}
    (answers : Bor (List (Bor (List ℕ))) → FolderPaths S → ToVec → CommandEnd → Type 0) (paths : S)
    (folder : Option (List ℕ)) (words : List (List ℕ)) (ended : Ended) : Type 0 where
  pub given : Bor (List (Bor (List ℕ)))
  pub same_words : texts_of given.now ≡ words
  pub files : FolderPaths S
  pub same_files : files.paths.now ≡ paths
  pub same_folder : option_copied files.folder ≡ folder
  pub device : ToVec
  pub is_empty : device.bytes.items ≡ []
  pub end : CommandEnd
  pub answered : answers given files device end
  pub same_status : ended.status ≡ end.status
  pub same_output : ended.output ≡ end.out.bytes
  pub same_errors : ended.errors ≡ end.errors
  pub none_lost : end.out.failures ≡ 0
