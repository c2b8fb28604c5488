use Rattle.std.proofs.Common.{Some, sym, ap, ◌∙◌, arith}
use Rattle.knx_base.proofs.ShelfLemmas.{length-first, still_first, told_set, moved_on, opened_alone}
use Rattle.knx_base.proofs.shelf.Shelf.read.Goals as goal

pub index_mut-file-requires : goal.index_mut-file-requires
index_mut-file-requires c = omega (arith, length-first _ _ _ (c.self.invariant _ c.in-Some.is), c.self.inside.files.ok)

pub invariant_of-self : goal.invariant_of-self
invariant_of-self c = λ x same.
    still_first _ _ x _ _ _ _ _ (c.self.invariant _ c.in-Some.is) c.index_mut-file.ensures.value
    c.copy_out.ensures.moved (sym c.in-Some.is ∙ same)

pub returns-in-Some-clause-told : goal.returns-in-Some-clause-told
returns-in-Some-clause-told c =
    rw (← c.self.view_is) (told_set _ _ _ _ _ _ c.index_mut-file.ensures.value c.copy_out.ensures.moved)

pub returns-in-Some-clause-moves : goal.returns-in-Some-clause-moves
returns-in-Some-clause-moves c = rw (← c.self.view_is, c.in-Some.is)
    (moved_on _ _ _ _ _ _ _ _ _ (c.self.invariant _ c.in-Some.is) c.index_mut-file.ensures.value
    c.copy_out.ensures.moved c.copy_out.ensures.count (omega (arith, c.requires.room))
    (omega (arith, c.copy_out.auto.buffer)) c.copy_out.ensures.given c.copy_out.ensures.last.1)

pub returns-in-Some-clause-others : goal.returns-in-Some-clause-others
returns-in-Some-clause-others c = rw (← c.self.view_is, c.in-Some.is) (λ other differs.
    opened_alone _ _ _ _ _ _ _ (c.self.invariant _ c.in-Some.is) c.index_mut-file.ensures.value
    c.copy_out.ensures.moved other (λ same. differs (ap Some (sym same))))
