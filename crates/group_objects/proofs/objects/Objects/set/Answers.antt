use Rattle.std.proofs.Common.{◌≡◌, Some, true, slice_get, sym, subst, ◌∙◌, refl}
use Rattle.group_objects.proofs.Forms.{keeps_held}
use Rattle.group_objects.specs.Value.{same_form}
use Rattle.group_objects.specs.Objects.{ObjectsState}
use Rattle.group_objects.proofs.objects.Objects.set.Goals as goal

pub invariant_of-self : goal.invariant_of-self
invariant_of-self c =
    let before : ObjectsState = record { rows = c.self.inside.rows.items; values = c.self.inside.values.items } in
    keeps_held before c.args.index c.args.value c.in-Some.held
    (subst (λ (objects : ObjectsState). slice_get objects.values c.args.index ≡ Some c.in-Some.held)
    (sym c.self.view_is) (sym c.value.ensures.value ∙ c.in-Some.is))
    (sym c.has_form.ensures ∙ c.if-not-has_form.false) c.self.invariant

pub returns-clause-refusal : goal.returns-clause-refusal
returns-clause-refusal c =
    let at : slice_get c.args.self.now.values c.args.index ≡ Some c.in-Some.held =
    sym c.value.ensures.value ∙ c.in-Some.is in
    let same : same_form c.args.value c.in-Some.held ≡ true = sym c.has_form.ensures ∙ c.if-not-has_form.false in
    rw (at, same) refl
