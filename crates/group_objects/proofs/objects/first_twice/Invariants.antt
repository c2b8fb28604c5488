use Rattle.std.proofs.Common.{◌≡◌, [], take, drop}
use Rattle.group_objects.specs.Objects.{first_twice}
use Rattle.group_objects.proofs.objects.first_twice.Given as goal

abbrev pub invariant-loop-index : goal.invariant-loop-index
invariant-loop-index l = first_twice (take l.index l.rows) (drop l.index l.rows) ≡ first_twice [] l.rows
