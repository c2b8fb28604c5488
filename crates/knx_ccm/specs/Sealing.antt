-- Statement: sealing of an APDU of KNX Data Secure: a code by CBC-MAC over its head and octets, and a counter stream
-- over both. Octet by octet this is the profile of docs/RULES.md.
use Rattle.std.specs.Prelude.{◌≡◌, ℕ, ◌+◌, ◌-◌, ◌/◌, ◌%◌, ◌==◌, bit_and, bit_or, Bool, if◌then◌else◌, List, [], ◌∷◌, ◌++◌, length, take, drop, replicate, nat_eq, Option, Some, None, Result, IfErr}
use Rattle.std.specs.Cmp.Lexicographic.{pointwise}
use Rattle.knx_base.specs.Number.{octets_of}
use Rattle.aes_modes.specs.Modes.{mac_of, with_stream}
use Rattle.knx_ccm.specs.declared.head.Head.{Head}

-- the two octets of a number below 2^16, the higher first
abbrev pub two_octets : ℕ → List ℕ
two_octets n = n / 256 % 256 ∷ n % 256 ∷ []

-- bits 6 to 4 of the control field: 0 for authentication alone, 1 for authentication and confidentiality
abbrev pub algorithm : Head → ℕ
algorithm head = head.field / 16 % 8

abbrev pub is_confidential : Head → Bool
is_confidential head = algorithm head == 1

-- the octets with which the code and the stream begin: nonce number, source, destination
abbrev pub nonce_of : Head → List ℕ
nonce_of head = octets_of head.number ++ two_octets head.source ++ two_octets head.destination

-- the block before all others under the code, with the length of what is encrypted; bits 6 to 4 of control 2, the hop
-- count, are left out
abbrev pub block_0 : Head → ℕ → List ℕ
block_0 head length = nonce_of head ++ 0 ∷ bit_and head.control2 0x8f ∷ bit_or head.tpci 0x03 ∷ 0xf1 ∷ 0 ∷ length ∷ []

-- the block that the stream counts up in its last octet
abbrev pub counter_0 : Head → List ℕ
counter_0 head = nonce_of head ++ 0 ∷ 0 ∷ 0 ∷ 0 ∷ 1 ∷ 0 ∷ []

-- how many octets of the APDU are encrypted
abbrev pub encrypted_length : Head → List ℕ → ℕ
encrypted_length head apdu = if is_confidential head then length apdu else 0

-- how many octets are under the code and not encrypted: the control field, and an APDU that stays readable
abbrev pub readable_length : Head → List ℕ → ℕ
readable_length head apdu = if is_confidential head then 1 else length apdu + 1

-- the code of an APDU
unfoldable pub code_of : List ℕ → Head → List ℕ → List ℕ
code_of key head apdu =
    take 4 (mac_of key (block_0 head (encrypted_length head apdu) ++ two_octets (readable_length head apdu)
    ++ head.field ∷ apdu))

-- the octets under the stream, where there is confidentiality
unfoldable pub ciphered : List ℕ → Head → List ℕ → List ℕ
ciphered key head octets = if is_confidential head then with_stream key (counter_0 head) octets else octets

-- how a code and an APDU stand on the wire: under one stream, which begins at the code, the APDU first
unfoldable pub wired : List ℕ → Head → List ℕ → List ℕ → List ℕ
wired key head code apdu = let line = ciphered key head (code ++ apdu) in drop 4 line ++ take 4 line

-- what stands on the wire for an APDU
unfoldable pub sealed : List ℕ → Head → List ℕ → List ℕ
sealed key head apdu = wired key head (code_of key head apdu) apdu

-- the APDU seals to these octets
abbrev pub Opens : List ℕ → Head → List ℕ → List ℕ → Type 0
Opens key head body apdu = sealed key head apdu ≡ body

-- the code that stands on the wire and the code of the APDU that stands with it
pub record AreCodes (key : List ℕ) (head : Head) (body said computed : List ℕ) : Type 0 where
  pub apdu : List ℕ
  pub on_the_wire : wired key head said apdu ≡ body
  pub of_the_apdu : code_of key head apdu ≡ computed

-- Behind the place of the APDU nothing is written, and zeros are in its place where none seals.
pub record WritesOnly {T E : Type 0} (place : ℕ) (result : Result T E) (old new : List ℕ) : Type 0 where
  pub zeros : IfErr result (λ _. take place new ≡ replicate place 0)
  pub rest : drop place new ≡ drop place old

-- ---- what is on the wire

-- the code and the APDU after it, without the stream
unfoldable pub line_of : List ℕ → Head → List ℕ → List ℕ
line_of key head body = ciphered key head (drop (length body - 4) body ++ take (length body - 4) body)

abbrev pub said_code : List ℕ → Head → List ℕ → List ℕ
said_code key head body = take 4 (line_of key head body)

abbrev pub said_apdu : List ℕ → Head → List ℕ → List ℕ
said_apdu key head body = drop 4 (line_of key head body)

-- the code of the APDU that is on the wire
abbrev pub computed_code : List ℕ → Head → List ℕ → List ℕ
computed_code key head body = code_of key head (said_apdu key head body)

-- the APDU that seals to the body, if one does: no other than the one on the wire can
abbrev pub opened : List ℕ → Head → List ℕ → Option (List ℕ)
opened key head body =
    if pointwise nat_eq (sealed key head (said_apdu key head body)) body then Some (said_apdu key head body) else None
