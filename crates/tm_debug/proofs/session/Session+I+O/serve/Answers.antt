use Rattle.tm_debug.proofs.session.Session+I+O.serve.Goals as goal

pub returns : goal.returns
returns g c = rw c.plain.ensures at c.serve_from.ensures
