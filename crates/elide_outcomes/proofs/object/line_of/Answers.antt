use Rattle.std.proofs.Common.{◌≡◌, Bool, subst}
use Rattle.std.specs.Prelude.{string_bytes}
use Rattle.std.proofs.lemmas.Result.{IfOk-weaker}
use Rattle.elide_args.specs.Asked.{texts_of}
use Rattle.elide_object.specs.Object.{object_text}
use Rattle.elide_outcomes.proofs.Objects.{no_float_search}
use Rattle.elide_outcomes.specs.Object.{search_object}
use Rattle.elide_outcomes.proofs.object.line_of.Goals as goal

pub returns : goal.returns
returns c =
    let options = c.args.options.now in
    let show = texts_of c.args.show.now in
    let search = c.args.search.now in
    let stores : Bool = c.has_store_buffer.result in
    IfOk-weaker c.object_line.result _ _
    (λ line texts.
    subst (λ (s : Bool). string_bytes line ≡ object_text (search_object options show c.args.status s search))
    c.has_store_buffer.ensures
    (texts (search_object options show c.args.status stores search) (λ log sent. sent)
    (no_float_search options show c.args.status stores search)))
    c.object_line.ensures
