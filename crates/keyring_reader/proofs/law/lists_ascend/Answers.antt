use Rattle.keyring_reader.proofs.OrderLemmas.{ascends, stays, names_ascend}
use Rattle.keyring_reader.proofs.SameLemmas.{same_attributes}
use Rattle.keyring_reader.proofs.law.lists_ascend.Goals as goal

pub returns : goal.returns
returns c = record {
  groups = ascends (λ group. group.0);
  same_groups = λ groups n. stays (λ group. group.0) n groups;
  devices = ascends (λ device. device.0);
  same_devices = λ devices n. stays (λ device. device.0) n devices;
  names = names_ascend;
  same_attributes = same_attributes;
}
