use Rattle.std.proofs.Common.{◌≡◌, ℕ, ◌<◌, ap, ◌∙◌, slice_index, lit<}
use Rattle.aes_modes.specs.Octet.{◌⊕◌, sub_byte}
use Rattle.aes_modes.specs.Cipher.{mixed}
use Rattle.aes_modes.specs.Words.{octet_of}
use Rattle.aes_modes.specs.declared.tables.TheConstants.{MIXED0, MIXED1, MIXED2, MIXED3}
use Rattle.aes_modes.proofs.Computed.{mixed_octet}
use Rattle.aes_modes.proofs.rounds.mixed_column.Goals as goal

row : (c : goal.After-column_at-4) (r : ℕ) → r < 4
    → octet_of (c.column_at.result ⊕ c.column_at-2.result ⊕ c.column_at-3.result ⊕ c.column_at-4.result) r
    ≡ mixed r (sub_byte (octet_of c.args.a 0)) (sub_byte (octet_of c.args.b 1)) (sub_byte (octet_of c.args.c 2))
    (sub_byte (octet_of c.args.d 3))
row c r lt =
    mixed_octet r _ _ _ _ c.args.a c.args.b c.args.c c.args.d lt
    (c.column_at.ensures ∙ ap (slice_index MIXED0) c.octet.ensures)
    (c.column_at-2.ensures ∙ ap (slice_index MIXED1) c.octet-2.ensures)
    (c.column_at-3.ensures ∙ ap (slice_index MIXED2) c.octet-3.ensures)
    (c.column_at-4.ensures ∙ ap (slice_index MIXED3) c.octet-4.ensures)

pub returns-clause-row0 : goal.returns-clause-row0
returns-clause-row0 c = row c 0 (lit< tt)

pub returns-clause-row1 : goal.returns-clause-row1
returns-clause-row1 c = row c 1 (lit< tt)

pub returns-clause-row2 : goal.returns-clause-row2
returns-clause-row2 c = row c 2 (lit< tt)

pub returns-clause-row3 : goal.returns-clause-row3
returns-clause-row3 c = row c 3 (lit< tt)
