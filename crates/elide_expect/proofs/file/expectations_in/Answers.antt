use Rattle.std.proofs.Common.{sym, ◌∙◌, ap, map, take}
use Rattle.std.proofs.lemmas.List.{take_all}
use Rattle.std.specs.List.{position_or_len}
use Rattle.elide_expect.specs.declared.comment.Comment.{Comment}
use Rattle.elide_expect.specs.Comments.{comment_content}
use Rattle.elide_expect.proofs.Lists.{front_map, position_none, position_some}
use Rattle.elide_expect.proofs.file.expectations_in.Goals as goal

pub returns-in-Some : goal.returns-in-Some
returns-in-Some c =
    let test = λ (comment : Comment). comment.is_command in
    let comments = c.args.comments.now in
    ap (λ n. map comment_content (take n comments))
    (sym (position_some test comments c.in-Some.at (sym c.in-Some.ensures.place)))
    ∙ front_map (λ other. other.is_command) comment_content comments

pub returns-in-None : goal.returns-in-None
returns-in-None c =
    let test = λ (comment : Comment). comment.is_command in
    let comments = c.args.comments.now in
    sym (ap (map comment_content)
    (take_all (position_or_len test comments) comments (position_none test comments (sym c.in-None.ensures.place))))
    ∙ front_map (λ other. other.is_command) comment_content comments
