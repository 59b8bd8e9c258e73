use Rattle.std.proofs.Common.{[], refl, rules}
use Rattle.tm_why.proofs.history.follow.Goals as goal

pub steps-init : goal.steps-init
steps-init c = (
  search rules,
  record {
    steps = [];
    many = refl;
    told = tt;
    kept = c.requires.none;
    most = c.requires.most;
  },
)
