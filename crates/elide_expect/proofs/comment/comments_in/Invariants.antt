use Rattle.std.proofs.Common.{◌≡◌, ◌+◌, ◌++◌, drop, map}
use Rattle.elide_expect.specs.Comments.{comment_content, comments_from}
use Rattle.elide_expect.proofs.Behind.{nows}
use Rattle.elide_expect.proofs.comment.comments_in.Given as goal

abbrev pub invariant-loop-i : goal.invariant-loop-i
invariant-loop-i l = map comment_content l.comments.items ++ comments_from l.kind (l.i + 1) (nows (drop l.i l.lines))
    ≡ comments_from l.kind 1 (nows l.lines)
