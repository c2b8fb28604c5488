use Rattle.datapoints.proofs.decoding.write_value.Goals as goal

pub returns-in-Switch : goal.returns-in-Switch
returns-in-Switch c = rw c.in-Switch.is c.write_switch.ensures
