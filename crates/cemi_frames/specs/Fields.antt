-- Statement: how frames are written: concatenations of fields. cEMI (KNX common external message interface) puts a
-- message code and additional information in front; TP1 (the twisted pair line) puts a check octet behind.
use Rattle.std.specs.Prelude.{ℕ, ◌+◌, ◌-◌, ◌/◌, ◌%◌, List, [], ◌∷◌, ◌++◌, length, fold, bit_xor}
use Rattle.std.specs.List.{flat_map}

-- a row of additional information
pub record InfoRow : Type 0 where
  pub kind : ℕ
  pub content : List ℕ

abbrev pub row_octets : InfoRow → List ℕ
row_octets row = row.kind ∷ length row.content ∷ row.content

-- the length of the additional information, and its rows
unfoldable pub info_octets : List InfoRow → List ℕ
info_octets rows = length (flat_map row_octets rows) ∷ flat_map row_octets rows

-- what a frame is written from
pub record Fields : Type 0 where
  pub rows : List InfoRow
  -- control 1 of cEMI, the control octet of TP1
  pub control : ℕ
  -- control 2 of cEMI, the extended control octet of TP1; in a standard TP1 frame without the length in its low bits
  pub control2 : ℕ
  pub source : ℕ
  pub destination : ℕ
  pub content : List ℕ

-- the high octet and the low octet
abbrev pub word : ℕ → List ℕ
word n = n / 256 ∷ n % 256 ∷ []

-- The length counts the octets after the first one of the content.
abbrev pub length_octet : Fields → ℕ
length_octet f = length f.content - 1

-- both control octets, addresses, length, content: what cEMI carries, and an extended TP1 frame without its check octet
unfoldable pub long_octets : Fields → List ℕ
long_octets f = f.control ∷ f.control2 ∷ (word f.source ++ word f.destination ++ length_octet f ∷ f.content)

-- a standard TP1 frame without its check octet: the length shares an octet with the address type and the hop count
unfoldable pub standard_octets : Fields → List ℕ
standard_octets f = f.control ∷ (word f.source ++ word f.destination ++ (f.control2 + length_octet f) ∷ f.content)

-- the complement of the exclusive or of all octets before it
unfoldable pub check_octet : List ℕ → ℕ
check_octet raw = 255 - fold bit_xor 0 raw

abbrev pub checked : List ℕ → List ℕ
checked raw = raw ++ check_octet raw ∷ []

-- a cEMI message: its code, additional information, and what that message carries
unfoldable pub message : ℕ → List InfoRow → List ℕ → List ℕ
message code rows body = code ∷ (info_octets rows ++ body)
