-- Statement: the frame that a sealed APDU is sent in.
use Rattle.std.specs.Prelude.{ℕ, List, [], ◌∷◌, ◌++◌, length}
use Rattle.knx_base.specs.Number.{octets_of}
use Rattle.cemi_frames.specs.Fields.{Fields, long_octets, message}
use Rattle.cemi_frames.specs.Writing.{written_control, written_control2}
use Rattle.knx_ccm.specs.declared.head.Head.{Head}
use Rattle.knx_ccm.specs.Sealing.{sealed}
use Rattle.secure_apdu.specs.declared.sealing.SendHead.{SendHead}

-- the TPCI octet of data without a connection, with the upper bits of the secure service
abbrev pub secure_tpci : ℕ
secure_tpci = 0x03

-- what the code covers beside the APDU
abbrev pub sealed_head : SendHead → Head
sealed_head head = record {
  number = head.number;
  source = head.source.0;
  destination = head.destination;
  control2 = written_control2 head.group;
  tpci = secure_tpci;
  field = head.field;
}

-- the secure service, the control field, the number field, and what stands on the wire of the APDU
abbrev pub sealed_content : List ℕ → SendHead → List ℕ → List ℕ
sealed_content key head apdu =
    secure_tpci ∷ 0xf1 ∷ head.field ∷ (octets_of head.shown ++ sealed key (sealed_head head) apdu)

abbrev pub sealed_fields : SendHead → List ℕ → Fields
sealed_fields head content = record {
  rows = [];
  control = written_control (length content);
  control2 = written_control2 head.group;
  source = head.source.0;
  destination = head.destination;
  content = content;
}

-- the L_Data.ind frame with that content
unfoldable pub sealed_frame : List ℕ → SendHead → List ℕ → List ℕ
sealed_frame key head apdu = message 0x29 [] (long_octets (sealed_fields head (sealed_content key head apdu)))
