use Rattle.std.proofs.Common.{◌≡◌, ℕ, ◌<◌, ap, ◌∙◌, slice_index, lit<}
use Rattle.aes_modes.specs.Octet.{◌⊕◌}
use Rattle.aes_modes.specs.Cipher.{mixed}
use Rattle.aes_modes.specs.Words.{octet_of}
use Rattle.aes_modes.specs.declared.tables.TheConstants.{UNMIXED0, UNMIXED1, UNMIXED2, UNMIXED3}
use Rattle.aes_modes.proofs.Computed.{row_of, row_of-0, row_of-1, row_of-2, row_of-3, unmixed_octet}
use Rattle.aes_modes.proofs.rounds.unmixed_column.Goals as goal

row : (c : goal.After-column_at-4) (r : ℕ) → r < 4
    → let u = c.column_at.result ⊕ c.column_at-2.result ⊕ c.column_at-3.result ⊕ c.column_at-4.result in
    mixed r (octet_of u 0) (octet_of u 1) (octet_of u 2) (octet_of u 3)
    ≡ row_of r (octet_of c.args.t 0) (octet_of c.args.t 1) (octet_of c.args.t 2) (octet_of c.args.t 3)
row c r lt =
    unmixed_octet r _ _ _ _ c.args.t lt
    (c.column_at.ensures ∙ ap (slice_index UNMIXED0) c.octet.ensures)
    (c.column_at-2.ensures ∙ ap (slice_index UNMIXED1) c.octet-2.ensures)
    (c.column_at-3.ensures ∙ ap (slice_index UNMIXED2) c.octet-3.ensures)
    (c.column_at-4.ensures ∙ ap (slice_index UNMIXED3) c.octet-4.ensures)

pub returns-clause-row0 : goal.returns-clause-row0
returns-clause-row0 c =
    row c 0 (lit< tt) ∙ row_of-0 (octet_of c.args.t 0) (octet_of c.args.t 1) (octet_of c.args.t 2) (octet_of c.args.t 3)

pub returns-clause-row1 : goal.returns-clause-row1
returns-clause-row1 c =
    row c 1 (lit< tt) ∙ row_of-1 (octet_of c.args.t 0) (octet_of c.args.t 1) (octet_of c.args.t 2) (octet_of c.args.t 3)

pub returns-clause-row2 : goal.returns-clause-row2
returns-clause-row2 c =
    row c 2 (lit< tt) ∙ row_of-2 (octet_of c.args.t 0) (octet_of c.args.t 1) (octet_of c.args.t 2) (octet_of c.args.t 3)

pub returns-clause-row3 : goal.returns-clause-row3
returns-clause-row3 c =
    row c 3 (lit< tt) ∙ row_of-3 (octet_of c.args.t 0) (octet_of c.args.t 1) (octet_of c.args.t 2) (octet_of c.args.t 3)
