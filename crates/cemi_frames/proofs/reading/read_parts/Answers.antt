use Rattle.std.proofs.lemmas.Result.{err_from_is_err_and}
use Rattle.cemi_frames.proofs.FirstFault.{frame_fault-head, reads_raw, reads_data}
use Rattle.cemi_frames.proofs.reading.read_parts.Goals as goal

pub returns-in_err-code : goal.returns-in_err-code
returns-in_err-code c =
    let p = err_from_is_err_and c.from_residual.result c.from_residual.ensures.1 in
    record {
      exact = rw (p.1, p.2) (frame_fault-head c.args.octets.now c.in_err-code.field-0.0 c.in_err-code.ensures.head);
    }

pub returns-in-Busmon : goal.returns-in-Busmon
returns-in-Busmon c =
    let head = c.in_ok-code.ensures.head in
    record {
      exact = reads_raw c.args.octets.now c.in_ok-code.body.now c.in_ok-code.code c.read_raw.result head.0 head.1 head.2
          c.in-Busmon.is c.read_raw.ensures;
    }

pub returns-in_default : goal.returns-in_default
returns-in_default c =
    let head = c.in_ok-code.ensures.head in
    record {
      exact = reads_data c.args.octets.now c.in_ok-code.body.now c.in_ok-code.code c.read_data.result head.0 head.1
          head.2 c.in_default.not-Busmon c.read_data.ensures;
    }
