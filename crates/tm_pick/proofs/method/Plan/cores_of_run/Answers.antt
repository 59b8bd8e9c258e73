use Rattle.std.proofs.Common.{◌∙◌, sym}
use Rattle.tm_pick.specs.Chances.{words_of}
use Rattle.tm_pick.specs.declared.method.Method.TheVariants as method
use Rattle.tm_pick.proofs.OfRun.{cores_by}
use Rattle.tm_pick.proofs.method.Plan.cores_of_run.Goals as goal

pub returns-in-Bursts-clause-cores : goal.returns-in-Bursts-clause-cores
returns-in-Bursts-clause-cores c =
    cores_by c.args.self c.args.run c.args.cores method.Bursts (words_of c.of_run-chance.result) c.bursts.result.manner
    (sym c.in-Bursts.is ∙ c.of_run.ensures.value) c.of_run-chance.ensures
    (c.bursts.ensures.manner c.args.run c.args.cores c.args.self.length)

pub returns-in-Priorities-clause-cores : goal.returns-in-Priorities-clause-cores
returns-in-Priorities-clause-cores c =
    cores_by c.args.self c.args.run c.args.cores method.Priorities (words_of c.of_run-chance.result)
    c.priorities.result.manner
    (sym c.in-Priorities.is ∙ c.of_run.ensures.value) c.of_run-chance.ensures
    (c.priorities.ensures.manner c.args.run)

pub returns-in-Seen-clause-cores : goal.returns-in-Seen-clause-cores
returns-in-Seen-clause-cores c =
    cores_by c.args.self c.args.run c.args.cores method.Seen (words_of c.of_run-chance.result) c.seen.result.manner
    (sym c.in-Seen.is ∙ c.of_run.ensures.value) c.of_run-chance.ensures
    (c.seen.ensures.manner c.args.run c.args.cores c.draws_of.ensures)

pub returns-in-Uniform-clause-cores : goal.returns-in-Uniform-clause-cores
returns-in-Uniform-clause-cores c =
    cores_by c.args.self c.args.run c.args.cores method.Uniform (words_of c.of_run-chance.result)
    c.uniform.result.manner
    (sym c.in-Uniform.is ∙ c.of_run.ensures.value) c.of_run-chance.ensures
    (c.uniform.ensures.manner c.args.run c.args.cores c.args.self.length)
