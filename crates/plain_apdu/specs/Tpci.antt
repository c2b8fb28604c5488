-- Statement: what an octet of transport control says (the transport layer of ISO/IEC 14543-3-1).
use Rattle.std.specs.Prelude.{◌≡◌, ℕ, ◌+◌, ◌*◌, ◌/◌, ◌%◌, ◌<◌, ◌==◌, ◌&&◌, if◌then◌else◌}
use Rattle.plain_apdu.specs.declared.tpci.Tpci.{Tpci}
use Rattle.plain_apdu.specs.declared.tpci.Tpci.TheVariants.{Data, Connected, Connect, Disconnect, Ack, Nak, Other}

-- bits 5 to 2
abbrev pub number_of : ℕ → ℕ
number_of octet = octet / 4 % 16

-- The table of kinds: by bits 7 to 2, by bits 7 and 6, by the whole octet, by bits 7, 6, 1 and 0.
unfoldable pub tpci_of : ℕ → Tpci
tpci_of octet =
    if octet / 4 == 0 then Data
    else if octet / 64 == 1 then Connected (number_of octet)
    else if octet == 0x80 then Connect
    else if octet == 0x81 then Disconnect
    else if octet / 64 == 3 && octet % 4 == 2 then Ack (number_of octet)
    else if octet / 64 == 3 && octet % 4 == 3 then Nak (number_of octet)
    else Other octet

-- The octet is 64 times the upper two bits, four times the number, and the lower two bits.
pub record HasFields (octet upper number lower : ℕ) : Type 0 where
  pub number_bound : number < 16
  pub lower_bound : lower < 4
  pub octet_is : octet ≡ 64 * upper + 4 * number + lower

-- a kind that is named, and an octet that spells it
abbrev pub Spells : ℕ → Tpci → Type 0
Spells octet Data = octet < 4
Spells octet (Connected number) = (lower : ℕ) × HasFields octet 1 number lower
Spells octet Connect = octet ≡ 0x80
Spells octet Disconnect = octet ≡ 0x81
Spells octet (Ack number) = HasFields octet 3 number 2
Spells octet (Nak number) = HasFields octet 3 number 3
Spells octet (Other _) = ⊥

-- The octet spells this kind, or it spells none and the kind shows it.
abbrev pub HasKind : Tpci → ℕ → Type 0
HasKind (Other shown) octet = (shown ≡ octet) × ((kind : Tpci) → Spells octet kind → ⊥)
HasKind kind octet = Spells octet kind
