use Rattle.std.proofs.Common.{rules}
use Rattle.text_lines.proofs.LineReads.{piece_goes_on, piece_too_long, piece_long_to_feed, piece_to_feed}
use Rattle.text_lines.proofs.text_line.TextLine.take_piece.Goals as goal

pub returns-then-fits : goal.returns-then-fits
returns-then-fits c =
    let piece = piece_to_feed c.args.self.now c.args.source.now c.extend-fits.new.self c.end_at_line_feed.new.self
    c.take_front.new.self c.in-Some.end c.end_at_line_feed.result c.requires.one_line (search rules) (search rules)
    c.end_at_line_feed.ensures.line c.end_at_line_feed.ensures.read (search rules) in
    record { piece = piece }

pub returns-else-fits : goal.returns-else-fits
returns-else-fits c =
    let piece = piece_long_to_feed c.args.self.now c.args.source.now c.extend-fits.new.self c.take_front.new.self
    c.in-Some.end c.requires.one_line (search rules) (search rules) (search rules) in
    record { piece = piece }

pub returns-then-fits-2 : goal.returns-then-fits-2
returns-then-fits-2 c =
    let piece = piece_goes_on c.args.self.now c.args.source.now c.extend-fits-in-None.new.self c.clear.new.self
    c.requires.one_line (search rules) (search rules) (search rules) (search rules) in
    record { piece = piece }

pub returns-else-fits-2 : goal.returns-else-fits-2
returns-else-fits-2 c =
    let piece = piece_too_long c.args.self.now c.args.source.now c.extend-fits-in-None.new.self c.clear.new.self
    c.requires.one_line (search rules) (search rules) (search rules) (search rules) in
    record { piece = piece }
