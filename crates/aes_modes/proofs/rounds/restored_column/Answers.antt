use Rattle.std.proofs.Common.{ap, ◌∙◌, slice_index, arith}
use Rattle.aes_modes.specs.Octet.{sub_byte}
use Rattle.aes_modes.proofs.Octets.{octet_of-from_be_bytes, octet_of-lt}
use Rattle.aes_modes.proofs.Computed.{restored}
use Rattle.aes_modes.specs.declared.tables.TheConstants.{RESTORED}
use Rattle.aes_modes.proofs.rounds.restored_column.Goals as goal

pub returns-clause-row0 : goal.returns-clause-row0
returns-clause-row0 c =
    ap sub_byte ((octet_of-from_be_bytes _ _ _ _ _ (omega arith) (omega arith) (omega arith) (omega arith)
    c.from_be_bytes.ensures).0
    ∙ c.octet_at.ensures ∙ ap (slice_index RESTORED) c.octet.ensures) ∙ restored _ (octet_of-lt c.args.a 0)

pub returns-clause-row1 : goal.returns-clause-row1
returns-clause-row1 c =
    ap sub_byte ((octet_of-from_be_bytes _ _ _ _ _ (omega arith) (omega arith) (omega arith) (omega arith)
    c.from_be_bytes.ensures).1
    ∙ c.octet_at-2.ensures ∙ ap (slice_index RESTORED) c.octet-2.ensures) ∙ restored _ (octet_of-lt c.args.b 1)

pub returns-clause-row2 : goal.returns-clause-row2
returns-clause-row2 c =
    ap sub_byte ((octet_of-from_be_bytes _ _ _ _ _ (omega arith) (omega arith) (omega arith) (omega arith)
    c.from_be_bytes.ensures).2
    ∙ c.octet_at-3.ensures ∙ ap (slice_index RESTORED) c.octet-3.ensures) ∙ restored _ (octet_of-lt c.args.c 2)

pub returns-clause-row3 : goal.returns-clause-row3
returns-clause-row3 c =
    ap sub_byte ((octet_of-from_be_bytes _ _ _ _ _ (omega arith) (omega arith) (omega arith) (omega arith)
    c.from_be_bytes.ensures).3
    ∙ c.octet_at-4.ensures ∙ ap (slice_index RESTORED) c.octet-4.ensures) ∙ restored _ (octet_of-lt c.args.d 3)
