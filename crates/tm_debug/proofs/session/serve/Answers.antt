use Rattle.std.proofs.Common.{◌≡◌, rules}
use Rattle.tm_debug.proofs.session.serve.Goals as goal

pub returns : goal.returns
returns g c =
    let input : c.serve.new.self.0 ≡ c.input-1.given.0 = search rules in
    let left : c.serve.new.self.1.0 ≡ c.out-1.given.0 = search rules in
    rw (c.new.ensures.input, c.new.ensures.out, c.new.ensures.board, input, left) at c.serve.ensures
