use Rattle.std.proofs.Common.{◌≡◌, [], drop, map}
use Rattle.elide_expect.specs.Comments.{comment_content}
use Rattle.elide_expect.specs.Tests.{ahead, expectations_from, expected_content, the_wanted}
use Rattle.elide_expect.specs.Words.{texts}
use Rattle.elide_expect.proofs.file.read_expectations.Given as goal

abbrev pub invariant-loop-comment : goal.invariant-loop-comment
invariant-loop-comment l =
    ahead (map expected_content l.all.items)
    (expectations_from (texts l.words) (map the_wanted l.all.items)
    (map comment_content (drop l.comment-index l.comments)))
    ≡ expectations_from (texts l.words) [] (map comment_content l.comments)
