use Rattle.std.proofs.Common.{◌<◌, length, get_or, arith}
use Rattle.std.proofs.lemmas.Bool.Decides.{nat_tests}
use Rattle.std.proofs.lemmas.Str.{IsCharBoundary-after_ascii}
use Rattle.tag_text.proofs.octets.first_octet.Goals as goal

pub range_from-requires : goal.range_from-requires
range_from-requires c =
    let ascii : get_or c.args.text.now 0 0 < 128 = rw (← c.as_bytes-octets.ensures.value) c.if-octets-ge128.false in
    let some : 0 < length c.args.text.now =
    grind (arith, nat_tests, c.as_bytes-octets.ensures.value, c.is_empty.ensures, c.if-is_empty.false) in
    λ _. IsCharBoundary-after_ascii c.args.text.now 0 c.utf8.text some ascii
