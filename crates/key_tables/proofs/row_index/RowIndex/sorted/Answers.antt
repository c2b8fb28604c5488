use Rattle.std.proofs.Common.{rules, ◌≡◌}
use Rattle.std.proofs.lemmas.Fn.{always_returns_same}
use Rattle.key_tables.specs.Index.{AreInOrder}
use Rattle.key_tables.proofs.Indexing.{sorted_in_order}
use Rattle.key_tables.proofs.row_index.RowIndex.sorted.Goals as goal

pub invariant_of-result : goal.invariant_of-result
invariant_of-result c =
    let ordered : AreInOrder c.args.entries.items c.sort_unstable_by_key.new.self.items =
    sorted_in_order _ _ c.requires c.sort_unstable_by_key.ensures.permutation
    (c.sort_unstable_by_key.ensures.sorted (λ e. e.0)
    (always_returns_same _ (λ a r. r ≡ a.0.now.0) _ (λ a r f k. search rules)))
    in
    ordered.ascend

pub returns : goal.returns
returns c =
    sorted_in_order _ _ c.requires c.sort_unstable_by_key.ensures.permutation
    (c.sort_unstable_by_key.ensures.sorted (λ e. e.0)
    (always_returns_same _ (λ a r. r ≡ a.0.now.0) _ (λ a r f k. search rules)))
