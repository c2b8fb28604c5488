use Rattle.std.proofs.Common.{rules, ◌≡◌, ◌++◌, length, ap, length-append, arith}
use Rattle.knx_base.specs.Files.{Seen}
use Rattle.frame_file.proofs.RestLemmas.{held_goes, held_given, piece_goes, piece_given}
use Rattle.frame_file.proofs.log_text.read_rest.Goals as goal

pub pieces-preserved : goal.pieces-preserved
pieces-preserved g c =
    let before = c.pieces.invariant in
    let start : Seen = g.F.Files.seen c.args.files.now in
    let now : Seen = g.F.Files.seen c.pieces.files in
    let next : Seen = g.F.Files.seen c.refill.new.files in
    let all : c.extend_from_slice.new.self.items ≡ c.pieces.text.items ++ c.refill.new.source = search rules in
    record {
      goes = piece_goes start next c.args.source.now c.refill.new.source c.clear.new.self (held_goes start now next
          c.args.source.now c.pieces.source c.refill.new.source before.goes c.in-Ok.ensures.goes) c.clear.ensures.empty;
      room = omega (
        arith,
        before.room,
        c.if-bytes-len.false,
        ap length all,
        length-append c.pieces.text.items c.refill.new.source,
        ap length c.bytes.ensures.octets,
        c.len.ensures,
      );
      given = piece_given start next c.args.source.now c.refill.new.source c.clear.new.self c.args.text.items
          c.pieces.text.items c.extend_from_slice.new.self.items c.clear.ensures.empty all
          (held_given start now next c.args.source.now c.pieces.source c.refill.new.source c.args.text.items
          c.pieces.text.items before.goes before.given c.in-Ok.ensures.given);
    }
