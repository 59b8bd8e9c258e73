use Rattle.std.proofs.Common.{◌≡◌, drop, map}
use Rattle.elide_expect.specs.Comments.{comment_content}
use Rattle.elide_expect.specs.Tests.{ahead, test_content, tests_of}
use Rattle.elide_expect.proofs.file.read_commands.Given as goal

abbrev pub invariant-loop-i : goal.invariant-loop-i
invariant-loop-i l = ahead (map test_content l.tests.items) (tests_of (map comment_content (drop l.i l.comments)))
    ≡ tests_of (map comment_content l.comments)
