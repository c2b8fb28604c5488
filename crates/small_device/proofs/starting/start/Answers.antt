use Rattle.small_device.proofs.starting.start.Goals as goal

pub returns-in-Ok-clause-unformatted : goal.returns-in-Ok-clause-unformatted
returns-in-Ok-clause-unformatted g c = λ fits place. c.in-Ok.ensures.unformatted place

pub returns-in-Err-clause-unformatted : goal.returns-in-Err-clause-unformatted
returns-in-Err-clause-unformatted g c = λ fits place. c.in-Err.ensures.unformatted place
