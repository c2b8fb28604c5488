use Rattle.judge_rules.proofs.text.put_bad_secure.Goals as goal

pub returns-in-Short-clause-added : goal.returns-in-Short-clause-added
returns-in-Short-clause-added c = rw (c.in-Short.is, ← c.from.ensures) c.put_number.ensures.added

pub returns-in-Algorithm-clause-added : goal.returns-in-Algorithm-clause-added
returns-in-Algorithm-clause-added c =
    rw (c.in-Algorithm.is, ← c.from-in-Algorithm.ensures) c.put_number-in-Algorithm.ensures.added

pub returns-in-Broadcast-clause-added : goal.returns-in-Broadcast-clause-added
returns-in-Broadcast-clause-added c = rw c.in-Broadcast.is c.text.ensures.added

pub returns-in-Service-clause-added : goal.returns-in-Service-clause-added
returns-in-Service-clause-added c =
    rw (c.in-Service.is, ← c.from-in-Service.ensures) c.put_number-in-Service.ensures.added

pub returns-in-Sync-clause-added : goal.returns-in-Sync-clause-added
returns-in-Sync-clause-added c = rw (c.in-Sync.is, ← c.from-in-Sync.ensures) c.put_octet_and_number.ensures.added
