use Rattle.tm_hunt.proofs.Shortenings.{shortens_more}
use Rattle.tm_hunt.proofs.shortening.Front.shorten.Goals as goal

pub returns-in_err-cut_events-clause-shorter : goal.returns-in_err-cut_events-clause-shorter
returns-in_err-cut_events-clause-shorter c =
    shortens_more c.cut_behind.ensures.shorter c.cut_events.ensures.shorter

pub returns-in_err-cut_bursts-clause-shorter : goal.returns-in_err-cut_bursts-clause-shorter
returns-in_err-cut_bursts-clause-shorter c =
    let events = shortens_more c.cut_behind.ensures.shorter c.cut_events.ensures.shorter in
    shortens_more events c.cut_bursts.ensures.shorter

pub returns-in_err-cut_steps-clause-shorter : goal.returns-in_err-cut_steps-clause-shorter
returns-in_err-cut_steps-clause-shorter c =
    let events = shortens_more c.cut_behind.ensures.shorter c.cut_events.ensures.shorter in
    let bursts = shortens_more events c.cut_bursts.ensures.shorter in
    shortens_more bursts c.cut_steps.ensures.shorter

pub returns-in_err-join_bursts-clause-shorter : goal.returns-in_err-join_bursts-clause-shorter
returns-in_err-join_bursts-clause-shorter c =
    let events = shortens_more c.cut_behind.ensures.shorter c.cut_events.ensures.shorter in
    let bursts = shortens_more events c.cut_bursts.ensures.shorter in
    let steps = shortens_more bursts c.cut_steps.ensures.shorter in
    shortens_more steps c.join_bursts.ensures.shorter

pub returns-clause-shorter : goal.returns-clause-shorter
returns-clause-shorter c =
    let events = shortens_more c.cut_behind.ensures.shorter c.cut_events.ensures.shorter in
    let bursts = shortens_more events c.cut_bursts.ensures.shorter in
    let steps = shortens_more bursts c.cut_steps.ensures.shorter in
    let joined = shortens_more steps c.join_bursts.ensures.shorter in
    shortens_more joined c.cut_steps-2.ensures.shorter
