-- Statement: secure frames: the service 3f1 with a control field, a number, a secured APDU and a code, as
-- docs/RULES.md tells.
use Rattle.std.specs.Prelude.{◌≡◌, ℕ, ◌-◌, ◌/◌, ◌%◌, ◌==◌, ◌&&◌, ◌||◌, nat_lt, nat_le, Bool, true, false, if◌then◌else◌, List, [], ◌∷◌, length, slice_index, drop, find, Option, option_map}
use Rattle.knx_base.specs.Number.{number_at}
use Rattle.plain_apdu.specs.declared.tpci.Tpci.{Tpci}
use Rattle.plain_apdu.specs.declared.tpci.Tpci.TheVariants.{Data, Connected}
use Rattle.plain_apdu.specs.Tpci.{tpci_of}
use Rattle.plain_apdu.specs.Apdu.{apci_of}
use Rattle.secure_apdu.specs.declared.secure.BadSecure.{BadSecure}
use Rattle.secure_apdu.specs.declared.secure.BadSecure.TheVariants as bad

-- the kind carries data, with a connection or without
abbrev pub carries_data : Tpci → Bool
carries_data Data = true
carries_data (Connected _) = true
carries_data _ = false

-- the octets from the TPCI on have the secure service
abbrev pub has_secure_service : List ℕ → Bool
has_secure_service content =
    nat_le 2 (length content) && apci_of (slice_index content 0) (slice_index content 1) == 0x3f1

abbrev pub is_secure : List ℕ → Bool
is_secure content = carries_data (tpci_of (slice_index content 0)) && has_secure_service content

-- ---- the control field

abbrev pub algorithm_of : ℕ → ℕ
algorithm_of field = field / 16 % 8

abbrev pub service_of : ℕ → ℕ
service_of field = field % 8

abbrev pub is_broadcast : ℕ → Bool
is_broadcast field = field / 8 % 2 == 1

-- ---- what is wrong with a secure frame: tests, of which the first that applies is the fault

pub record Test : Type 0 where
  pub applies : Bool
  pub fault : BadSecure

abbrev pub test : Bool → BadSecure → Test
test applies fault = record { applies = applies; fault = fault }

abbrev pub is_unknown : ℕ → Bool
is_unknown service =
    if service == 0 then false else if service == 2 then false else if service == 3 then false else true

-- a request of synchronisation has six octets, an answer twelve
abbrev pub is_misfit : ℕ → ℕ → Bool
is_misfit service length = if service == 2 then (if length == 6 then false else true)
    else if service == 3 then (if length == 12 then false else true) else false

abbrev pub is_sync : ℕ → Bool
is_sync service = service == 2 || service == 3

-- by the control field, the number of octets of the secured APDU, and whether the destination is a group
abbrev pub field_tests : ℕ → ℕ → Bool → List Test
field_tests field length group =
    test (nat_lt 1 (algorithm_of field)) (bad.Algorithm (algorithm_of field))
    ∷ test (is_broadcast field) bad.Broadcast
    ∷ test (is_unknown (service_of field)) (bad.Service (service_of field))
    ∷ test (is_sync (service_of field) && (is_misfit (service_of field) length || algorithm_of field == 0 || group))
    (bad.Sync field length)
    ∷ []

-- two octets of the service, the control field, six of the number, and four of the code stand beside the secured APDU
abbrev pub secure_tests : List ℕ → Bool → List Test
secure_tests content group =
    test (nat_lt (length content - 2) 13) (bad.Short (length content - 2))
    ∷ field_tests (slice_index content 2) (length content - 13) group

abbrev pub first_fault : List Test → Option BadSecure
first_fault tests = option_map (λ found. found.fault) (find (λ each. each.applies) tests)

-- the first fault of a secure frame
unfoldable pub bad_secure : List ℕ → Bool → Option BadSecure
bad_secure content group = first_fault (secure_tests content group)

-- ---- the parts of one that has none

-- the octets have, after the two of the service, a control field, six octets of a number, and a secured APDU with its
-- code
pub record HasParts (content : List ℕ) (field shown : ℕ) (body : List ℕ) : Type 0 where
  pub field_is : field ≡ slice_index content 2
  pub shown_is : shown ≡ number_at content 3
  pub body_is : body ≡ drop 9 content
