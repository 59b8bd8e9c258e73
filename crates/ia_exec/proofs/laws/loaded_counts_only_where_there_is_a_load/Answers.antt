use Rattle.ia_exec.proofs.Unread.{finish_same}
use Rattle.ia_exec.proofs.laws.loaded_counts_only_where_there_is_a_load.Goals as goal

pub returns : goal.returns
returns c = finish_same
