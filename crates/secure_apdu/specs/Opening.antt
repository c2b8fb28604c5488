-- Statement: what a code covers of a frame beside its APDU.
use Rattle.std.specs.Prelude.{ℕ, slice_index}
use Rattle.cemi_frames.specs.Frames.{Telegram}
use Rattle.knx_ccm.specs.declared.head.Head.{Head}

-- of a telegram, under a nonce number and the control field
abbrev pub head_of : Telegram → ℕ → ℕ → Head
head_of telegram number field = record {
  number = number;
  source = telegram.source;
  destination = telegram.destination;
  control2 = telegram.control2;
  tpci = slice_index telegram.content 0;
  field = field;
}
