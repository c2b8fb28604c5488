use Rattle.std.proofs.Common.{◌++◌, ◌∷◌, []}
use Rattle.knx_base.proofs.ShelfLemmas.{first_added, named_added}
use Rattle.knx_base.proofs.shelf.Shelf.add.Goals as goal

pub invariant_of-self-2 : goal.invariant_of-self-2
invariant_of-self-2 c = λ x same. rw c.in_ok-push.ensures.items (first_added _ _ x (c.self.invariant x same))

pub returns-clause-added : goal.returns-clause-added
returns-clause-added c =
    rw (c.in_ok-push.ensures.items, ← c.self.view_is)
    (λ i. record {
      files = c.self.inside.files.items ++ c.in_ok-file.ensures.stored i ∷ [];
      current = named_added c.self.inside.files.items (c.in_ok-file.file ∷ []) c.self.inside.current c.self.invariant i;
      opened = c.self.inside.opened;
    })
