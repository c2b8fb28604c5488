use Rattle.judge_rules.proofs.text.put_not_frame.Goals as goal

pub returns-in-Length-clause-added : goal.returns-in-Length-clause-added
returns-in-Length-clause-added c = rw c.in-Length.is c.put_two_numbers.ensures.added

pub returns-in-Check-clause-added : goal.returns-in-Check-clause-added
returns-in-Check-clause-added c = rw c.in-Check.is c.put_two_octets.ensures.added
