use Rattle.judge_rules.proofs.text.put_verdict.Goals as goal

pub returns-in-SyncAnswer-clause-added : goal.returns-in-SyncAnswer-clause-added
returns-in-SyncAnswer-clause-added c =
    rw (c.in-SyncAnswer.is, ← c.get.ensures.value, ← c.get-in-SyncAnswer.ensures.value) c.put_two_numbers.ensures.added
