use Rattle.std.proofs.Common.{◌≡◌, length, take}
use Rattle.group_objects.specs.Objects.{first_values}
use Rattle.group_objects.proofs.objects.put_first_values.Given as goal

abbrev pub invariant-loop-index : goal.invariant-loop-index
invariant-loop-index l =
    (length l.values ≡ length l.rows) × (take l.index l.values ≡ first_values (take l.index l.rows))
