use Rattle.datapoints.proofs.CharacterLemmas.{filled_is}
use Rattle.datapoints.proofs.value_octets.ValueOctets.filled.Goals as goal

pub returns : goal.returns
returns c = filled_is c.args.octets.now c.copy_from_slice.new.self c.copy_from_slice.ensures.after c.requires.room
