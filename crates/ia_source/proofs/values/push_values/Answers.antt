use Rattle.std.proofs.Common.{◌≡◌, ◌-◌, take, drop, length, map, ap, sym, ◌∙◌, arith, length-drop}
use Rattle.std.proofs.lemmas.List.{take_rest}
use Rattle.ia_item.specs.declared.name.Scope.{Scope}
use Rattle.ia_lex.specs.Tokens.{lexeme_of}
use Rattle.ia_names.proofs.Namings.{grows_more, naming_less}
use Rattle.ia_source.specs.Contents.{entry_content}
use Rattle.ia_source.specs.Commas.{between_commas}
use Rattle.ia_source.specs.Statements.{StateContent, value_onto, no_value, values_onto, values_content, state_content}
use Rattle.ia_source.proofs.AddedEntries.{piece_is, value_read, value_unread, bad_too}
use Rattle.ia_source.proofs.values.push_values.Goals as goal

pub returns-in-Err-clause-values : goal.returns-in-Err-clause-values
returns-in-Err-clause-values c r h =
    let step = piece_is c.args.values.tokens.now c.loop-place.place c.comma_index-end.result c.loop-place-test.true
    c.comma_index-end.ensures.long c.comma_index-end.ensures.within in
    let at = state_content c.args.names.now.scope.text.now c.args.values.state in
    let here = state_content c.loop-place.names.scope.text.now c.args.values.state in
    let same : here ≡ at =
    ap (λ (s : Scope). state_content s.text.now c.args.values.state) c.loop-place.invariant.scope in
    let v = values_content r c.loop-place.entries.list.items c.loop-place.run.items in
    let before = naming_less r.naming c.loop-place.names c.push_value.new.names c.push_value.ensures.grows h in
    let piece = map lexeme_of (take c.comma_index-end.result
    (take (length c.args.values.tokens.now - c.loop-place.place) (drop c.loop-place.place c.args.values.tokens.now))) in
    bad_too (value_onto c.args.values.long here v piece)
    (values_onto c.args.values.long at (no_value (map (entry_content r) c.args.entries.now.list.items))
    (between_commas (map lexeme_of c.args.values.tokens.now)))
    c.args.values.state.line c.in-Err.fault
    (λ e. sym (c.loop-place.invariant.read r before)
    ∙ value_unread c.args.values.long at v piece _ _ step
    (sym (ap (λ (a : StateContent). value_onto c.args.values.long a v piece) same) ∙ e))
    (c.in-Err.ensures.value r h)

pub loop-place-preserved : goal.loop-place-preserved
loop-place-preserved c =
    let step = piece_is c.args.values.tokens.now c.loop-place.place c.comma_index-end.result c.loop-place-test.true
    c.comma_index-end.ensures.long c.comma_index-end.ensures.within in
    let long :
    length
    (take (length c.args.values.tokens.now - c.loop-place.place) (drop c.loop-place.place c.args.values.tokens.now))
    ≡ length c.args.values.tokens.now - c.loop-place.place
    = ap length (take_rest c.args.values.tokens.now c.loop-place.place)
    ∙ length-drop c.loop-place.place c.args.values.tokens.now in
    let at = state_content c.args.names.now.scope.text.now c.args.values.state in
    let here = state_content c.loop-place.names.scope.text.now c.args.values.state in
    let same : here ≡ at =
    ap (λ (s : Scope). state_content s.text.now c.args.values.state) c.loop-place.invariant.scope in
    let piece = map lexeme_of (take c.comma_index-end.result
    (take (length c.args.values.tokens.now - c.loop-place.place) (drop c.loop-place.place c.args.values.tokens.now))) in
    record {
      within = omega (arith, long, c.comma_index-end.ensures.within);
      scope = c.push_value.ensures.scope ∙ c.loop-place.invariant.scope;
      grows = grows_more c.args.names.now c.loop-place.names c.push_value.new.names c.loop-place.invariant.grows
          c.push_value.ensures.grows;
      read = λ r h.
          value_read c.args.values.long at (values_content r c.loop-place.entries.list.items c.loop-place.run.items)
          (values_content r c.push_value.new.entries.list.items c.push_value.new.run.items) piece _ _ step
          (sym
          (ap (λ (a : StateContent). value_onto c.args.values.long a (values_content r c.loop-place.entries.list.items
          c.loop-place.run.items) piece) same) ∙ c.in-Ok.ensures.value r h)
          ∙ c.loop-place.invariant.read r
          (naming_less r.naming c.loop-place.names c.push_value.new.names c.push_value.ensures.grows h);
    }
