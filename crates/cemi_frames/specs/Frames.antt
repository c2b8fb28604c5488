-- Statement: which octets are which frame: one case for each message code and format.
use Rattle.std.specs.Prelude.{◌≡◌, ℕ, ◌/◌, ◌%◌, ◌<◌, ◌≤◌, ◌⊎◌, List, length, slice_index, Bool, false, ◌==◌}
use Rattle.cemi_frames.specs.declared.frame.Code.{Code}
use Rattle.cemi_frames.specs.declared.frame.Code.TheVariants.{Req, Ind, Con, Busmon}
use Rattle.cemi_frames.specs.declared.frame.Frame.{Frame}
use Rattle.cemi_frames.specs.Fields.{Fields, long_octets, standard_octets, checked, message}

-- a frame apart from where its content lies
pub record Telegram : Type 0 where
  pub code : Code
  pub repeated : Bool
  pub priority : ℕ
  pub control2 : ℕ
  pub source : ℕ
  pub destination : ℕ
  pub content : List ℕ

abbrev pub telegram : Frame → Telegram
telegram frame = record {
  code = frame.code;
  repeated = frame.repeated;
  priority = frame.priority;
  control2 = frame.control2;
  source = frame.source.0;
  destination = frame.destination;
  content = frame.content.now;
}

-- what the fields say under a message code
abbrev pub said_by : Code → Bool → Fields → Telegram
said_by code repeated f = record {
  code = code;
  repeated = repeated;
  priority = f.control / 4 % 4;
  control2 = f.control2;
  source = f.source;
  destination = f.destination;
  content = f.content;
}

-- Bit 5 of the control octet is 0 in a repetition.
abbrev pub repeat_mark : ℕ → Bool
repeat_mark control = control / 32 % 2 == 0

-- ---- the cases

-- a message of data: the content has 1 to 255 octets
pub record IsData (code : ℕ) (octets : List ℕ) (f : Fields) : Type 0 where
  pub not_empty : 0 < length f.content
  pub fits : length f.content ≤ 255
  pub spelled : octets ≡ message code f.rows (long_octets f)

-- a standard TP1 frame, of up to 16 octets of content: bits 7 and 6 of its control octet are 10
pub record IsStandard (octets : List ℕ) (f : Fields) : Type 0 where
  pub format : f.control / 64 ≡ 2
  pub low_bits : f.control2 % 16 ≡ 0
  pub not_empty : 0 < length f.content
  pub fits : length f.content ≤ 16
  pub spelled : octets ≡ message 0x2b f.rows (checked (standard_octets f))

-- an extended TP1 frame: bits 7 and 6 are 00
pub record IsExtended (octets : List ℕ) (f : Fields) : Type 0 where
  pub format : f.control / 64 ≡ 0
  pub not_empty : 0 < length f.content
  pub fits : length f.content ≤ 255
  pub spelled : octets ≡ message 0x2b f.rows (checked (long_octets f))

-- In a request bit 5 asks for repetition on error, and a confirmation never counts as repeated.
abbrev pub IsCase : Code → List ℕ → Fields → Telegram → Type 0
IsCase Req octets f t = IsData 0x11 octets f × (t ≡ said_by Req false f)
IsCase Ind octets f t = IsData 0x29 octets f × (t ≡ said_by Ind (repeat_mark f.control) f)
IsCase Con octets f t = IsData 0x2e octets f × (t ≡ said_by Con false f)
IsCase Busmon octets f t = (IsStandard octets f ⊎ IsExtended octets f) × (t ≡ said_by Busmon (repeat_mark f.control) f)

-- The octets are this frame.
abbrev pub IsFrame : List ℕ → Telegram → Type 0
IsFrame octets t = (f : Fields) × IsCase t.code octets f t

-- An octet is below 256.
abbrev pub AreOctets : List ℕ → Type 0
AreOctets octets = (i : ℕ) → slice_index octets i < 256
