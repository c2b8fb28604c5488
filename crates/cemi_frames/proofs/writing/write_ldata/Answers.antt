use Rattle.std.proofs.Common.{◌≡◌, take, ◌∙◌, arith}
use Rattle.knx_base.proofs.Places.{later_rest}
use Rattle.cemi_frames.specs.Fields.{long_octets}
use Rattle.cemi_frames.specs.Writing.{parts_of, fields_of, data_octets}
use Rattle.cemi_frames.proofs.Written.{front_and_rest, message-octets}
use Rattle.cemi_frames.proofs.writing.write_ldata.Goals as goal

pub returns-clause-octets : goal.returns-clause-octets
returns-clause-octets c =
    let front : take c.put.result c.put.new.out ≡ data_octets (parts_of c.args.parts.now) =
    rw (c.put.ensures.front, c.put-after-2.ensures.front, c.put-after.ensures.front)
    (message-octets 0x29 c.long_header.result c.args.parts.now.content.now
    (long_octets (fields_of (parts_of c.args.parts.now))) c.long_header.ensures) in
    front_and_rest c.put.result (data_octets (parts_of c.args.parts.now)) c.args.out.now c.put.new.out front
    (c.put.ensures.rest
    ∙ later_rest c.put-after-2.result c.put.result c.put-after.new.out c.put-after-2.new.out (omega arith)
    c.put-after-2.ensures.rest
    ∙ later_rest c.put-after.result c.put.result c.args.out.now c.put-after.new.out (omega arith)
    c.put-after.ensures.rest)
