use Rattle.secure_apdu.proofs.SealedFrameLemmas.{sealed_frame_from}
use Rattle.secure_apdu.proofs.sealing.seal_frame.Goals as goal

pub returns : goal.returns
returns c = record {
  frame = sealed_frame_from c.args.key.now c.args.head.now c.args.apdu.now _ _ _ _
      c.put_content-length.ensures.content c.write_ldata-out-inside.ensures.length
      c.write_ldata-out-inside.ensures.octets;
}
