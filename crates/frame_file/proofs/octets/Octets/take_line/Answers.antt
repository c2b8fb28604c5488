use Rattle.std.proofs.Common.{◌≡◌, length, rules, ap, arith}
use Rattle.frame_file.proofs.WordLengths.{word_short}
use Rattle.frame_file.proofs.octets.Octets.take_line.Goals as goal

pub decode-requires : goal.decode-requires
decode-requires c =
    let short = word_short c.args.line.now c.in-Some-None.word.now c.in-Ok-Some.field-0 c.in-Ok-Some.words
    c.next.new.self c.in-Ok-Some.field-0-is c.in-Ok-Some.ensures.line c.in-Some-None.ensures.word in
    let same : c.as_bytes.result.now ≡ c.in-Some-None.word.now = search rules in
    record { short = omega (arith, short, ap length same) }
