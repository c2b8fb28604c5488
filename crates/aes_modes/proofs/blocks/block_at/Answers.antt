use Rattle.std.proofs.Common.{◌≡◌, ◌+◌, ◌-◌, ◌*◌, ◌<◌, ◌∙◌, drop, slice_index, sym, ap, arith, ℕ, inl, inr, lit<}
use Rattle.std.proofs.lemmas.Bool.{cases_lt}
use Rattle.std.proofs.lemmas.List.{get_or_past, get_or-take, get_or-drop}
use Rattle.aes_modes.proofs.Squares.{same_blocks}
use Rattle.aes_modes.proofs.Chaining.{block_at-at, length-block_at}
use Rattle.aes_modes.proofs.blocks.block_at.Goals as goal

-- octet i of the block that is read
read : (c : goal.After-block-2-1) (i : ℕ) → i < 16 → slice_index c.copy_from_slice.new.self i
    ≡ slice_index c.args.octets.now (16 * c.args.n + i)
read c i lt =
    let start = 16 * c.args.n in
    ap (λ l. slice_index l i) c.copy_from_slice.ensures.after
    ∙ get_or-take (start + 16 - start) (drop start c.args.octets.now) i 0 (omega arith)
    ∙ get_or-drop start c.args.octets.now i 0

pub returns-clause-block : goal.returns-clause-block
returns-clause-block c =
    same_blocks c.copy_from_slice.new.self _ c.copy_from_slice.ensures.len (length-block_at c.args.octets.now c.args.n)
    (λ i lt. read c i lt ∙ sym (block_at-at c.args.octets.now c.args.n i lt))

pub returns-clause-octets : goal.returns-clause-octets
returns-clause-octets c = λ i. elim (cases_lt i 16) [
  | inl within ↦ rw (read c i within) (omega (arith, c.type_inv.octets (16 * c.args.n + i)))
  | inr past ↦ rw (get_or_past c.copy_from_slice.new.self i 0 (omega (arith, c.copy_from_slice.ensures.len))) (lit< tt)
]
