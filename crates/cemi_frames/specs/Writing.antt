-- Statement: what is written for a telegram of low priority and hop count 6 that is no repetition.
use Rattle.std.specs.Prelude.{ℕ, List, [], length, Bool, false, nat_le, if◌then◌else◌}
use Rattle.cemi_frames.specs.declared.frame.Code.{Code}
use Rattle.cemi_frames.specs.declared.writing.FrameParts.{FrameParts}
use Rattle.cemi_frames.specs.Fields.{Fields, long_octets, standard_octets, checked, message}
use Rattle.cemi_frames.specs.Frames.{Telegram}

-- standard up to 16 octets of content, else extended
abbrev pub is_short : ℕ → Bool
is_short size = nat_le size 16

abbrev pub written_control : ℕ → ℕ
written_control size = if is_short size then 0xbc else 0x3c

-- to a group, or to a device
abbrev pub written_control2 : Bool → ℕ
written_control2 group = if group then 0xe0 else 0x60

-- what a frame is written from, apart from where the content lies
pub record Parts : Type 0 where
  pub source : ℕ
  pub destination : ℕ
  pub group : Bool
  pub content : List ℕ

abbrev pub parts_of : FrameParts → Parts
parts_of parts = record {
  source = parts.source.0;
  destination = parts.destination;
  group = parts.group;
  content = parts.content.now;
}

abbrev pub fields_of : Parts → Fields
fields_of parts = record {
  rows = [];
  control = written_control (length parts.content);
  control2 = written_control2 parts.group;
  source = parts.source;
  destination = parts.destination;
  content = parts.content;
}

-- an L_Data.ind message
abbrev pub data_octets : Parts → List ℕ
data_octets parts = message 0x29 [] (long_octets (fields_of parts))

-- an L_Busmon.ind message
abbrev pub raw_octets : Parts → List ℕ
raw_octets parts =
    message 0x2b []
    (checked (if is_short (length parts.content) then standard_octets (fields_of parts)
    else long_octets (fields_of parts)))

-- the frame that these octets are
abbrev pub written_frame : Code → Parts → Telegram
written_frame code parts = record {
  code = code;
  repeated = false;
  priority = 3;
  control2 = written_control2 parts.group;
  source = parts.source;
  destination = parts.destination;
  content = parts.content;
}
