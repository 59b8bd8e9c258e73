use Rattle.std.proofs.Common.{◌≡◌, ◌+◌, ◌-◌, ◌≤◌, length, map}
use Rattle.ia_lex.specs.Tokens.{lexeme_of}
use Rattle.ia_names.specs.Namings.{IsNaming, Grows}
use Rattle.ia_source.specs.Contents.{Reading, entry_content}
use Rattle.ia_source.specs.Commas.{between_commas, pieces_from}
use Rattle.ia_source.specs.Statements.{no_value, values_onto, values_content, state_content}
use Rattle.ia_source.proofs.values.push_values.Given as goal

abbrev pub invariant-loop-place : goal.invariant-loop-place
invariant-loop-place l = record {
  within : l.place ≤ length l.values.tokens.now + 1;
  scope : l.names.scope ≡ l.initial.names.scope;
  grows : Grows l.initial.names l.names;
  read : (r : Reading) → IsNaming r.naming l.names
      → values_onto l.values.long (state_content l.initial.names.scope.text.now l.values.state)
      (values_content r l.entries.list.items l.run.items) (pieces_from l.place l.values.tokens.now)
      ≡ values_onto l.values.long (state_content l.initial.names.scope.text.now l.values.state)
      (no_value (map (entry_content r) l.initial.entries.list.items))
      (between_commas (map lexeme_of l.values.tokens.now));
}

abbrev pub decreases-loop-place : goal.decreases-loop-place
decreases-loop-place l = length l.values.tokens.now + 1 - l.place
