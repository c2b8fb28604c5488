-- Plumbing: what stands at which place of octets that are a frame, for the readers of its parts.
use Rattle.std.specs.Prelude.{◌≡◌, ℕ, ◌+◌, ◌-◌, ◌*◌, ◌/◌, ◌<◌, ◌≤◌, List, [], length, slice_index, slice_range, take, drop, Bool, false, ◌==◌, ◌&&◌, if◌then◌else◌, Option, Some, None, Result, MatchResult}
use Rattle.cemi_frames.specs.declared.frame.Code.{Code}
use Rattle.cemi_frames.specs.declared.frame.Code.TheVariants.{Req, Ind, Con, Busmon}
use Rattle.cemi_frames.specs.declared.frame.Frame.{Frame}
use Rattle.cemi_frames.specs.declared.frame.NotFrame.{NotFrame}
use Rattle.cemi_frames.specs.Fields.{Fields}
use Rattle.cemi_frames.specs.Frames.{Telegram, telegram, said_by, repeat_mark}
use Rattle.cemi_frames.specs.Faults.{body_place, body_of, misfit, is_standard}

abbrev pub word_at : List ℕ → ℕ → ℕ
word_at octets place = slice_index octets place * 256 + slice_index octets (place + 1)

abbrev pub long_fields : List ℕ → List ℕ → Fields
long_fields body content = record {
  rows = [];
  control = slice_index body 0;
  control2 = slice_index body 1;
  source = word_at body 2;
  destination = word_at body 4;
  content = content;
}

abbrev pub standard_fields : List ℕ → List ℕ → Fields
standard_fields raw content = record {
  rows = [];
  control = slice_index raw 0;
  control2 = slice_index raw 5 / 16 * 16;
  source = word_at raw 1;
  destination = word_at raw 3;
  content = content;
}

abbrev pub marked : Code → ℕ → Bool
marked Req control = false
marked Ind control = repeat_mark control
marked Con control = false
marked Busmon control = repeat_mark control

-- the frame of these octets
abbrev pub frame_from : Code → ℕ → ℕ → List ℕ → List ℕ → Telegram
frame_from code control control2 addresses content = said_by code (marked code control)
    (record {
      rows = [];
      control = control;
      control2 = control2;
      source = word_at addresses 0;
      destination = word_at addresses 2;
      content = content;
    })

-- the frame of a message of data
abbrev pub data_frame : Code → List ℕ → Telegram
data_frame code body = said_by code (marked code (slice_index body 0)) (long_fields body (drop 7 body))

abbrev pub standard_frame : List ℕ → Telegram
standard_frame raw =
    said_by Busmon (repeat_mark (slice_index raw 0)) (standard_fields raw (take (length raw - 7) (drop 6 raw)))

abbrev pub extended_frame : List ℕ → Telegram
extended_frame raw =
    said_by Busmon (repeat_mark (slice_index raw 0)) (long_fields raw (take (length raw - 8) (drop 7 raw)))

-- the frame of a raw frame
unfoldable pub raw_frame : List ℕ → Telegram
raw_frame raw = if is_standard (slice_index raw 0) then standard_frame raw else extended_frame raw

abbrev pub code_at : ℕ → Code
code_at octet = if octet == 0x2b then Busmon else if octet == 0x11 then Req else if octet == 0x29 then Ind else Con

abbrev pub body_frame : Code → List ℕ → Telegram
body_frame Req body = data_frame Req body
body_frame Ind body = data_frame Ind body
body_frame Con body = data_frame Con body
body_frame Busmon body = raw_frame body

-- the frame that the octets are, where they are one
unfoldable pub frame_at : List ℕ → Telegram
frame_at octets = body_frame (code_at (slice_index octets 0)) (body_of octets)

-- where its content begins
abbrev pub content_place : List ℕ → ℕ
content_place octets =
    body_place octets + (if slice_index octets 0 == 0x2b && is_standard (slice_index (body_of octets) 0) then 6 else 7)

-- The content is this part of the octets.
abbrev pub StandsAt : List ℕ → ℕ → List ℕ → Type 0
StandsAt octets place content = content ≡ slice_range octets place (place + length content)

-- A reader answers this frame where there is no fault, and else the fault.
abbrev pub Reads : Result Frame NotFrame → Option NotFrame → Telegram → Type 0
Reads result fault frame = MatchResult result (λ found. (fault ≡ None) × (telegram found ≡ frame)) (λ e. fault ≡ Some e)

-- the row at the front does not fit
abbrev pub IsMisfit : List ℕ → Type 0
IsMisfit info = (place : ℕ) → misfit (length info) place info ≡ Some place

-- The row at the front has this size, and the search goes on behind it.
pub record FitsRow (info : List ℕ) (size : ℕ) : Type 0 where
  pub not_empty : 0 < size
  pub within : size ≤ length info
  pub goes_on : (place : ℕ) → misfit (length info) place info
      ≡ misfit (length (drop size info)) (place + size) (drop size info)
