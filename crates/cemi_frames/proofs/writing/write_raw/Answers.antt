use Rattle.std.proofs.Common.{◌≡◌, ◌-◌, ◌++◌, ◌∷◌, [], take, drop, refl, ap, ◌∙◌, arith}
use Rattle.knx_base.proofs.Places.{later_rest}
use Rattle.cemi_frames.specs.Fields.{check_octet, checked, message}
use Rattle.cemi_frames.proofs.Written.{front_and_rest, message-octets, behind_two}
use Rattle.cemi_frames.proofs.writing.write_raw.Goals as goal

pub returns-clause-octets : goal.returns-clause-octets
returns-clause-octets c =
    let before : take c.put-after-3.result c.put-after-3.new.out ≡ ((0x2b ∷ 0 ∷ []) ++ c.args.header.now)
    ++ c.args.content.now =
    rw (c.put-after-3.ensures.front, c.put-after-2.ensures.front, c.put-after.ensures.front) refl in
    let raw : take (c.put-after-3.result - 2) (drop 2 c.put-after-3.new.out) ≡ c.args.header.now ++ c.args.content.now =
    behind_two c.put-after-3.result 0x2b 0 (c.args.header.now ++ c.args.content.now) c.put-after-3.new.out
    (omega arith) before in
    let check : c.check_of-check.result ≡ check_octet (c.args.header.now ++ c.args.content.now) =
    c.check_of-check.ensures ∙ ap check_octet raw in
    let front : take c.put.result c.put.new.out ≡ message 0x2b [] (checked (c.args.header.now ++ c.args.content.now)) =
    c.put.ensures.front ∙ rw (before, check) (message-octets 0x2b (c.args.header.now ++ c.args.content.now)
    (check_octet (c.args.header.now ++ c.args.content.now) ∷ []) (checked (c.args.header.now ++ c.args.content.now))
    refl) in
    front_and_rest c.put.result (message 0x2b [] (checked (c.args.header.now ++ c.args.content.now))) c.args.out.now
    c.put.new.out front
    (c.put.ensures.rest
    ∙ later_rest c.put-after-3.result c.put.result c.put-after-2.new.out c.put-after-3.new.out (omega arith)
    c.put-after-3.ensures.rest
    ∙ later_rest c.put-after-2.result c.put.result c.put-after.new.out c.put-after-2.new.out (omega arith)
    c.put-after-2.ensures.rest
    ∙ later_rest c.put-after.result c.put.result c.args.out.now c.put-after.new.out (omega arith)
    c.put-after.ensures.rest)
