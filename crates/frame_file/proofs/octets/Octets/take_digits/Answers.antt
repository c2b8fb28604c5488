use Rattle.std.proofs.Common.{rules, ◌≡◌, ◌<◌, ◌≤◌, length, Some, Ok, arith}
use Rattle.hex.specs.Hex.{decode_of}
use Rattle.frame_file.specs.Records.{record_of_digits}
use Rattle.frame_file.proofs.DigitLemmas.{digits_say}
use Rattle.frame_file.proofs.octets.Octets.take_digits.Goals as goal

pub returns-in-Ok-true : goal.returns-in-Ok-true
returns-in-Ok-true c =
    let some : 0 < length c.args.line.now = search rules in
    let short : length c.args.line.now ≤ 1024 = omega (arith, c.if-line-gt-MOST_OCTETS.false) in
    let says : record_of_digits (decode_of c.args.line.now) ≡ Ok (Some c.decode.new.self) =
    search rules in
    record { digits = λ yes. digits_say c.args.line.now c.decode.new.self some short says }
