-- Statement: the parts of a secure telegram that its judgement reads.
use Rattle.std.specs.Prelude.{ℕ, ◌/◌, ◌%◌, ◌==◌, List, slice_index, drop, if◌then◌else◌, Bool, Option, Some, None}
use Rattle.knx_base.specs.declared.address.IndAddr.{IndAddr}
use Rattle.knx_base.specs.Number.{number_at}
use Rattle.cemi_frames.specs.Frames.{Telegram}
use Rattle.knx_ccm.specs.declared.head.Head.{Head}
use Rattle.plain_apdu.specs.declared.service.Service.{Service}
use Rattle.plain_apdu.specs.Apdu.{apci_of}
use Rattle.plain_apdu.specs.Service as services
use Rattle.secure_apdu.specs.Secure.{service_of}
use Rattle.secure_apdu.specs.Opening.{head_of}
use Rattle.secure_apdu.specs.Sync.{xor_number}
use Rattle.key_tables.specs.declared.types.Row.{Row}
use Rattle.key_tables.specs.declared.types.Channel.{Channel}
use Rattle.key_tables.specs.Rows.{channel_of}

abbrev pub is_group : Telegram → Bool
is_group telegram = telegram.control2 / 128 % 2 == 1

abbrev pub source_of : Telegram → IndAddr
source_of telegram = record { 0 = telegram.source }

-- ---- after the secure service

abbrev pub field_in : Telegram → ℕ
field_in telegram = slice_index telegram.content 2

abbrev pub has_tool_access : Telegram → Bool
has_tool_access telegram = field_in telegram / 128 == 1

-- 0 data, 2 a request of synchronisation, 3 its answer
abbrev pub sync_service : Telegram → ℕ
sync_service telegram = service_of (field_in telegram)

abbrev pub shown_in : Telegram → ℕ
shown_in telegram = number_at telegram.content 3

-- the secured APDU and its code
abbrev pub body_in : Telegram → List ℕ
body_in telegram = drop 9 telegram.content

abbrev pub with_challenge : Option (List ℕ) → ℕ → ℕ
with_challenge None shown = shown
with_challenge (Some challenge) shown = xor_number challenge shown

-- the number under which it was sealed: the one that it shows, and for an answer that one with the challenge added
abbrev pub number_in : Option (List ℕ) → Telegram → ℕ
number_in asked telegram =
    if sync_service telegram == 3 then with_challenge asked (shown_in telegram) else shown_in telegram

abbrev pub head_in : ℕ → Telegram → Head
head_in number telegram = head_of telegram number (field_in telegram)

-- ---- under the rows of an installation

unfoldable pub channel_in : List Row → Telegram → Option Channel
channel_in rows telegram =
    channel_of rows (is_group telegram) (has_tool_access telegram) (source_of telegram) telegram.destination

-- ---- services

-- the ten bits of the service of octets, of which there are two
abbrev pub bits_in : List ℕ → ℕ
bits_in octets = apci_of (slice_index octets 0) (slice_index octets 1)

abbrev pub service_in : List ℕ → Service
service_in octets = services.service_of (bits_in octets)
