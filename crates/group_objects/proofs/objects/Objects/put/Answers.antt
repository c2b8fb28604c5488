use Rattle.std.proofs.Common.{◌≡◌, ◌<◌, true, length, slice_get, IfSome, sym, subst}
use Rattle.group_objects.proofs.Forms.{keeps_row}
use Rattle.group_objects.specs.Value.{same_form}
use Rattle.group_objects.specs.Objects.{ObjectsState}
use Rattle.group_objects.proofs.objects.Objects.put.Goals as goal

pub invariant_of-self : goal.invariant_of-self
invariant_of-self c =
    let before : ObjectsState = record { rows = c.self.inside.rows.items; values = c.self.inside.values.items } in
    keeps_row before c.args.index c.args.value
    (subst (λ (objects : ObjectsState). c.args.index < length objects.rows) (sym c.self.view_is) c.requires.there)
    (subst (λ (objects : ObjectsState). IfSome (slice_get objects.rows c.args.index)
    (λ row. same_form c.args.value row.value ≡ true)) (sym c.self.view_is) c.requires.form)
    c.self.invariant
