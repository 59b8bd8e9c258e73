use Rattle.std.proofs.Common.{subst}
use Rattle.tm_debug.specs.declared.line.InputLine.{InputLine}
use Rattle.tm_debug.specs.Serving.{IsLine}
use Rattle.tm_debug.proofs.Sessions.{long_request}
use Rattle.tm_debug.proofs.session.line_request.Goals as goal

pub returns-in-Long-clause-text : goal.returns-in-Long-clause-text
returns-in-Long-clause-text c text is =
    long_request c.args.state.now.names.symbols.items text (subst (λ (l : InputLine). IsLine text l) c.in-Long.is is)
