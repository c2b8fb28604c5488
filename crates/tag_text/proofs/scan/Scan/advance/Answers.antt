use Rattle.std.proofs.Common.{arith, sym}
use Rattle.tag_text.specs.PieceView.{piece_of}
use Rattle.tag_text.proofs.PieceLemmas.{piece_less}
use Rattle.tag_text.proofs.scan.Scan.advance.Goals as goal

pub judge-requires : goal.judge-requires
judge-requires c = record {
  less = omega (
    arith,
    piece_less _ c.args.self.now.rest.now (piece_of c.in-Ok-Some.piece, c.in-Ok-Some.after.now)
        (sym (rw c.in-Ok-Some.field-0-is at c.in-Ok-Some.ensures.piece)),
  );
}
