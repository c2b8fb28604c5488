-- Statement: why octets are no frame: tests in the order in which the octets stand, each with its fault. The first
-- that applies is the fault.
use Rattle.std.specs.Prelude.{ℕ, zero, suc, ◌+◌, ◌-◌, ◌/◌, ◌%◌, List, [], ◌∷◌, ◌++◌, length, slice_index, take, drop, Bool, true, false, ◌==◌, nat_lt, ◌||◌, if◌then◌else◌, Option, Some, None, is_some, unwrap_or}
use Rattle.cemi_frames.specs.declared.frame.NotFrame.{NotFrame}
use Rattle.cemi_frames.specs.declared.frame.NotFrame.TheVariants as faults
use Rattle.cemi_frames.specs.Fields.{check_octet}

-- a fault, and whether it applies
pub record Refusal : Type 0 where
  pub applies : Bool
  pub fault : NotFrame

abbrev pub refuse : Bool → NotFrame → Refusal
refuse applies fault = record { applies = applies; fault = fault }

-- the first that applies
abbrev pub first_of : List Refusal → Option NotFrame
first_of [] = None
first_of (refusal ∷ refusals) = if refusal.applies then Some refusal.fault else first_of refusals

abbrev pub opposite : Bool → Bool
opposite true = false
opposite false = true

abbrev pub differ : ℕ → ℕ → Bool
differ a b = opposite (a == b)

-- ---- the message and its additional information

-- the place of the first row that does not fit, among as many rows as these and from this place on
unfoldable pub misfit : ℕ → ℕ → List ℕ → Option ℕ
misfit zero place info = None
misfit (suc rows) place [] = None
misfit (suc rows) place (kind ∷ []) = Some place
misfit (suc rows) place (kind ∷ size ∷ rest) =
    if nat_lt (length rest) size then Some place else misfit rows (place + 2 + size) (drop size rest)

-- where what the message carries begins
abbrev pub body_place : List ℕ → ℕ
body_place octets = 2 + slice_index octets 1

abbrev pub body_of : List ℕ → List ℕ
body_of octets = drop (body_place octets) octets

abbrev pub info_misfit : List ℕ → Option ℕ
info_misfit octets = misfit (slice_index octets 1) 2 (take (slice_index octets 1) (drop 2 octets))

abbrev pub is_data_code : ℕ → Bool
is_data_code code = code == 0x11 || code == 0x29 || code == 0x2e

abbrev pub is_code : ℕ → Bool
is_code code = is_data_code code || code == 0x2b

unfoldable pub head_tests : List ℕ → List Refusal
head_tests octets =
    refuse (length octets == 0) (faults.Short 0)
    ∷ refuse (opposite (is_code (slice_index octets 0))) (faults.Code (slice_index octets 0))
    ∷ refuse (length octets == 1) (faults.Short 1)
    ∷ refuse (nat_lt (length octets) (body_place octets)) (faults.Short (length octets))
    ∷ refuse (is_some (info_misfit octets)) (faults.Info (unwrap_or (info_misfit octets) 0))
    ∷ []

-- ---- what it carries, where whole is the number of all octets

-- a message of data
unfoldable pub data_tests : ℕ → List ℕ → List Refusal
data_tests whole body =
    refuse (nat_lt (length body) 7) (faults.Short whole)
    ∷ refuse (slice_index body 6 == 255) faults.Escape
    ∷ refuse (differ (length body - 7) (slice_index body 6 + 1))
    (faults.Length (slice_index body 6 + 1) (length body - 7))
    ∷ []

-- the last octet is the check octet of those before it
abbrev pub check_test : List ℕ → Refusal
check_test raw =
    let said = slice_index raw (length raw - 1) in
    let computed = check_octet (take (length raw - 1) raw) in
    refuse (differ said computed) (faults.Check said computed)

-- what stands after the header of a raw frame: this many octets of content, and the check octet
abbrev pub after_tests : List ℕ → List ℕ → ℕ → List Refusal
after_tests raw after size =
    refuse (differ (length after) (size + 1)) (faults.Length (size + 1) (length after))
    ∷ check_test raw
    ∷ []

-- the length is the low four bits of the sixth octet
unfoldable pub standard_tests : ℕ → List ℕ → List Refusal
standard_tests whole raw =
    refuse (nat_lt (length raw) 6) (faults.Short whole)
    ∷ refuse (differ (length raw - 6) (slice_index raw 5 % 16 + 2))
    (faults.Length (slice_index raw 5 % 16 + 2) (length raw - 6))
    ∷ check_test raw
    ∷ []

unfoldable pub extended_tests : ℕ → List ℕ → List Refusal
extended_tests whole raw =
    refuse (nat_lt (length raw) 7) (faults.Short whole)
    ∷ refuse (slice_index raw 6 == 255) faults.Escape
    ∷ refuse (differ (length raw - 7) (slice_index raw 6 + 2)) (faults.Length (slice_index raw 6 + 2) (length raw - 7))
    ∷ check_test raw
    ∷ []

-- the format, by bits 7 and 6 of the control octet
abbrev pub is_standard : ℕ → Bool
is_standard control = control / 64 == 2

abbrev pub is_extended : ℕ → Bool
is_extended control = control / 64 == 0

-- a raw frame
unfoldable pub raw_tests : ℕ → List ℕ → List Refusal
raw_tests whole raw =
    refuse (length raw == 0) (faults.Short whole)
    ∷ refuse (length raw == 1) (faults.Acknowledge (slice_index raw 0))
    ∷ refuse (opposite (is_standard (slice_index raw 0) || is_extended (slice_index raw 0)))
    (faults.Format (slice_index raw 0))
    ∷ (if is_standard (slice_index raw 0) then standard_tests whole raw else extended_tests whole raw)

abbrev pub body_tests : List ℕ → List Refusal
body_tests octets =
    if slice_index octets 0 == 0x2b then raw_tests (length octets) (body_of octets)
    else data_tests (length octets) (body_of octets)

-- the first refusal, if there is one
unfoldable pub frame_fault : List ℕ → Option NotFrame
frame_fault octets = first_of (head_tests octets ++ body_tests octets)
