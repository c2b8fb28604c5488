use Rattle.std.proofs.Common.{Some, sym, ap, ◌∙◌, arith}
use Rattle.mark_cells.proofs.Copies.{number_read}
use Rattle.mark_cells.proofs.cell.copy_number.Goals as goal

pub returns : goal.returns
returns c =
    ap Some c.from_bytes.ensures.value
    ∙ sym (number_read c.args.octets.now c.copy_from_slice.new.self c.args.gate (omega arith)
    c.copy_from_slice.ensures.after c.if-octets-gate.false)
