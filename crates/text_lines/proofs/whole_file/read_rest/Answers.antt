use Rattle.std.proofs.Common.{◌≡◌, ◌++◌, length, rules, length-append, ap, arith}
use Rattle.knx_base.specs.Files.{Seen}
use Rattle.text_lines.proofs.WholeFiles.{piece_goes, piece_given}
use Rattle.text_lines.proofs.whole_file.read_rest.Goals as goal

pub pieces-preserved : goal.pieces-preserved
pieces-preserved g c =
    let before = c.pieces.invariant in
    let start : Seen = g.F.Files.seen c.args.files.now in
    let now : Seen = g.F.Files.seen c.pieces.files in
    let next : Seen = g.F.Files.seen c.fill.new.files in
    let all : c.extend_from_slice.new.self.items ≡ c.pieces.text.items ++ c.fill.new.self = search rules in
    record {
      goes = piece_goes start now next c.fill.new.self before.goes c.in-Ok.ensures.goes;
      empty = search rules;
      room = omega (
        arith,
        before.room,
        c.if-bytes-most.false,
        ap length all,
        length-append c.pieces.text.items
            c.fill.new.self,
        ap length c.bytes.ensures.octets,
        c.len.ensures,
      );
      given = piece_given start now next c.fill.new.self c.pieces.text.items c.extend_from_slice.new.self.items
          before.goes before.given c.in-Ok.ensures.given all;
    }
