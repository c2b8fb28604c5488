-- Statement: application PDUs: two octets with ten bits of a service, and the content.
use Rattle.std.specs.Prelude.{◌≡◌, ℕ, ◌+◌, ◌*◌, ◌/◌, ◌%◌, ◌<◌, ◌≤◌, List, [], ◌∷◌, length, Result, Ok, Err, nat_lt, if◌then◌else◌}
use Rattle.plain_apdu.specs.declared.service.Service.{Service}
use Rattle.plain_apdu.specs.declared.apdu.Apdu.{Apdu}
use Rattle.plain_apdu.specs.declared.apdu.BadApdu.{BadApdu}
use Rattle.plain_apdu.specs.declared.apdu.BadApdu.TheVariants.{Short, UpperBits}
use Rattle.plain_apdu.specs.Service.{service_of}

-- a PDU apart from where it lies in memory
pub record Inner : Type 0 where
  pub service : Service
  pub low : ℕ
  pub content : List ℕ

-- what ten bits and a content say: the service, and the low six bits as data
abbrev pub inner : ℕ → List ℕ → Inner
inner bits content = record { service = service_of bits; low = bits % 64; content = content }

-- the octets that spell it
abbrev pub apdu_of : ℕ → List ℕ → List ℕ
apdu_of bits content = (bits / 256) ∷ (bits % 256) ∷ content

-- the ten bits of a service: bits 1 and 0 of the first octet, and the second octet
abbrev pub apci_of : ℕ → ℕ → ℕ
apci_of first second = first % 4 * 256 + second

-- what the octets say, or why they say nothing
unfoldable pub inner_of : List ℕ → Result Inner BadApdu
inner_of [] = Err Short
inner_of (_ ∷ []) = Err Short
inner_of (first ∷ second ∷ content) =
    if nat_lt first 4 then Ok (inner (apci_of first second) content) else Err (UpperBits first)

abbrev pub shown : Result Apdu BadApdu → Result Inner BadApdu
shown (Ok apdu) = Ok (record { service = apdu.service; low = apdu.low; content = apdu.content.now })
shown (Err fault) = Err fault

-- A PDU is spelled by the octets; Short says that they are fewer than two, UpperBits which first
-- octet of at least four there is.
abbrev pub IsInner : List ℕ → Result Inner BadApdu → Type 0
IsInner octets (Ok found) =
    (bits : ℕ) × (content : List ℕ) × (bits < 1024) × (octets ≡ apdu_of bits content) × (found ≡ inner bits content)
IsInner octets (Err Short) = length octets < 2
IsInner octets (Err (UpperBits first)) = (4 ≤ first) × (2 ≤ length octets) × (rest : List ℕ) × (octets ≡ first ∷ rest)
