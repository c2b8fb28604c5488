use Rattle.std.proofs.Common.{◌++◌, ℕ, List, length, drop, ◌+◌, sym, ap, ◌∙◌, append_assoc, length-append, rules, arith}
use Rattle.knx_base.specs.Files.{Seen}
use Rattle.text_lines.proofs.Readers.{goes_then, takes_less, given_then, none_ahead}
use Rattle.text_lines.proofs.LineReads.{reads_to_end, reads_piece}
use Rattle.text_lines.proofs.text_line.read_line.Goals as goal

pub returns-then-is_empty-clause-line : goal.returns-then-is_empty-clause-line
returns-then-is_empty-clause-line g c =
    let before = c.pieces.invariant in
    let start : Seen = g.F.Files.seen c.args.files.now in
    let now : Seen = g.F.Files.seen c.pieces.files in
    let next : Seen = g.F.Files.seen c.refill.new.files in
    reads_to_end start next c.args.source.now c.refill.new.self c.pieces.line c.end_at_file_end.result before.none
    c.end_at_file_end.ensures.end c.end_at_file_end.ensures.line
    (none_ahead start now next c.args.source.now c.pieces.source c.refill.new.self c.pieces.line (length c.pieces.line)
    (search rules) before.goes
    (given_then start now next c.args.source.now c.pieces.source c.refill.new.self c.pieces.line (length c.pieces.line)
    before.goes before.given c.in_ok-refill.ensures.given) (c.in_ok-refill.ensures.end (search rules)))

pub returns-in-Some-clause-line : goal.returns-in-Some-clause-line
returns-in-Some-clause-line g c =
    let before = c.pieces.invariant in
    let start : Seen = g.F.Files.seen c.args.files.now in
    let now : Seen = g.F.Files.seen c.pieces.files in
    let next : Seen = g.F.Files.seen c.refill.new.files in
    reads_piece start next c.args.source.now c.pieces.line c.refill.new.self c.take_piece.new.self
    c.take_piece.new.source c.in-Some.read
    (given_then start now next c.args.source.now c.pieces.source c.refill.new.self c.pieces.line (length c.pieces.line)
    before.goes before.given c.in_ok-refill.ensures.given) c.in-Some.ensures.piece

pub pieces-preserved : goal.pieces-preserved
pieces-preserved g c =
    let before = c.pieces.invariant in
    let piece = c.in_default.ensures.piece in
    let start : Seen = g.F.Files.seen c.args.files.now in
    let now : Seen = g.F.Files.seen c.pieces.files in
    let next : Seen = g.F.Files.seen c.refill.new.files in
    record {
      goes = takes_less start next c.args.source.now c.refill.new.self c.take_piece.new.source
          (length c.pieces.line + 0) (length c.take_piece.new.self)
          (omega (arith, ap length piece.0, ap length piece.2, length-append c.pieces.line c.refill.new.self))
          (goes_then start now next c.args.source.now c.pieces.source c.refill.new.self (length c.pieces.line) 0
          before.goes c.in_ok-refill.ensures.goes);
      room = piece.1;
      none = piece.3;
      given = λ octets has.
          given_then start now next c.args.source.now c.pieces.source c.refill.new.self c.pieces.line
          (length c.pieces.line) before.goes before.given c.in_ok-refill.ensures.given octets has
          ∙ sym (append_assoc c.pieces.line c.refill.new.self (drop next.place octets))
          ∙ ap (λ (all : List ℕ). all ++ drop next.place octets) (sym piece.0)
          ∙ ap (λ (left : List ℕ). c.take_piece.new.self ++ (left ++ drop next.place octets)) (sym piece.2);
    }
