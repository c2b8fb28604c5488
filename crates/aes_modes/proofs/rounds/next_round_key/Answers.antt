use Rattle.std.proofs.Common.{◌*◌, ◌^◌, ◌%◌, [], ◌∷◌, ap, ◌∙◌, slice_index, arith}
use Rattle.std.proofs.lemmas.Nat.{xor_of_32}
use Rattle.aes_modes.specs.Octet.{◌⊕◌, sub_byte}
use Rattle.aes_modes.specs.Cipher.{next_entry}
use Rattle.aes_modes.proofs.Octets.{octet_of-⊕, octet_of-turned, octet_of-constant, octet_of-columns, columns_of-block_of}
use Rattle.aes_modes.proofs.rounds.next_round_key.Goals as goal

pub returns-clause-same : goal.returns-clause-same
unfolding next_entry
returns-clause-same c =
    let k = c.args.k in
    let constant = c.from.result * 2 ^ 24 % 2 ^ 32 in
    let added = c.substituted_column.result ⊕ constant in
    let turned =
    octet_of-turned (slice_index k 3) c.rotate_left-turned.result (omega arith) c.rotate_left-turned.ensures in
    let constants = octet_of-constant c.args.constant c.from.result (omega arith) c.from.ensures in
    let row0 = octet_of-columns k added 0 _ (octet_of-⊕ c.substituted_column.result constant 0
    ∙ (λ i. (c.substituted_column.ensures.row0 ∙ ap sub_byte turned.0) i ⊕ constants.0 i)) in
    let row1 = octet_of-columns k added 1 _ (octet_of-⊕ c.substituted_column.result constant 1
    ∙ (λ i. (c.substituted_column.ensures.row1 ∙ ap sub_byte turned.1) i ⊕ constants.1 i)) in
    let row2 = octet_of-columns k added 2 _ (octet_of-⊕ c.substituted_column.result constant 2
    ∙ (λ i. (c.substituted_column.ensures.row2 ∙ ap sub_byte turned.2) i ⊕ constants.2 i)) in
    let row3 = octet_of-columns k added 3 _ (octet_of-⊕ c.substituted_column.result constant 3
    ∙ (λ i. (c.substituted_column.ensures.row3 ∙ ap sub_byte turned.3) i ⊕ constants.3 i)) in
    λ i.
    row0.0 i ∷ row1.0 i ∷ row2.0 i ∷ row3.0 i
    ∷ row0.1 i ∷ row1.1 i ∷ row2.1 i ∷ row3.1 i
    ∷ row0.2 i ∷ row1.2 i ∷ row2.2 i ∷ row3.2 i
    ∷ row0.3 i ∷ row1.3 i ∷ row2.3 i ∷ row3.3 i ∷ []

pub returns-clause-columns : goal.returns-clause-columns
returns-clause-columns c =
    let k = c.args.k in
    let added = xor_of_32 c.substituted_column.result (c.from.result * 2 ^ 24 % 2 ^ 32) (omega arith) (omega arith) in
    let next0 = xor_of_32 (slice_index k 0) _ (omega arith) added in
    let next1 = xor_of_32 (slice_index k 1) _ (omega arith) next0 in
    let next2 = xor_of_32 (slice_index k 2) _ (omega arith) next1 in
    columns_of-block_of _ _ _ _ next0 next1 next2 (xor_of_32 (slice_index k 3) _ (omega arith) next2)
