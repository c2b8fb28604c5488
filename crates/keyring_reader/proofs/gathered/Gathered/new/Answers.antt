use Rattle.std.proofs.Common.{refl, rules}
use Rattle.keyring_reader.specs.Roles.{ascending}
use Rattle.keyring_reader.proofs.gathered.Gathered.new.Goals as goal

pub returns : goal.returns
unfolding ascending
returns c = record {
  rows = search rules;
  groups = c.new-2.ensures.empty;
  devices = c.new-3.ensures.empty;
  group_known = λ group. rw c.new-2.ensures.empty refl;
  device_known = λ device. rw c.new-3.ensures.empty refl;
  listed = λ group. rw c.new-4.ensures.empty refl;
}
