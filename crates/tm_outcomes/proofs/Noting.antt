-- Lines that are noted one behind the other.
use Rattle.std.proofs.Common.{◌∙◌, refl}
use Rattle.tm_outcomes.specs.Written.{KeepsNoted}
use Rattle.tm_outcomes.specs.declared.written.Written.{Written}

pub keeps_all : (written : Written) → KeepsNoted written written
keeps_all written = record { opening = refl; kept = λ line among. among }

pub keeps_more : (first middle last : Written) → KeepsNoted first middle → KeepsNoted middle last →
    KeepsNoted first last
keeps_more first middle last one other = record {
  opening = other.opening ∙ one.opening;
  kept = λ line among. other.kept line (one.kept line among);
}

-- for lines behind lines
pub ruleset noting = (keeps_all, keeps_more)
