use Rattle.std.proofs.Common.{sym}
use Rattle.rp_front.proofs.RunLemmas.{unasked, unread, why_of_cause, why_of_memory}
use Rattle.rp_front.proofs.running.run_program.Goals as goal

pub returns-in_default-clause-turns : goal.returns-in_default-clause-turns
returns-in_default-clause-turns g c = unread g.P.Program.meaning _ _ _

pub returns-in_default-clause-names : goal.returns-in_default-clause-names
returns-in_default-clause-names g c = unasked g.P.Program.meaning _ _ _

pub returns-in_default-clause-why : goal.returns-in_default-clause-why
returns-in_default-clause-why g c = why_of_memory g.P.Program.meaning c.args.hints _ _ _ _ _ _ _ c.refuse.ensures.status c.name.ensures c.refuse.ensures.told

pub returns-clause-why : goal.returns-clause-why
returns-clause-why g c =
    let read = rw (c.in-Some.is, c.as_slice.ensures.value) at c.in-Ok.ensures in
    why_of_cause g.P.Program.meaning _ _ (sym read) _ c.args.hints _ _ c.in-Err.cause _ _ _ c.refuse-in-Err.ensures.status c.name-in-Err.ensures c.in-Err.ensures.caused c.refuse-in-Err.ensures.told
