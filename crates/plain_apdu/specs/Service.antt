-- Statement: the services of the application layer (ISO/IEC 14543-3-1), as far as this profile names them.
use Rattle.std.specs.Prelude.{ℕ, List, [], ◌∷◌, Option, Some, None, nat_le, ◌&&◌, find, codes}
use Rattle.plain_apdu.specs.declared.service.Service.{Service}
use Rattle.plain_apdu.specs.declared.service.Service.TheVariants.{GroupValueRead, GroupValueResponse, GroupValueWrite, MemoryRead, MemoryResponse, MemoryWrite, DeviceDescriptorRead, DeviceDescriptorResponse, Restart, RestartOther, PropertyValueRead, PropertyValueResponse, PropertyValueWrite, Secure, Unknown}

-- the codes from first to last name the service
pub record Row : Type 0 where
  pub first : ℕ
  pub last : ℕ
  pub service : Service

abbrev pub from : ℕ → ℕ → Service → Row
from first last service = record { first = first; last = last; service = service }

abbrev pub table : List Row
table =
    from 0x000 0x03f GroupValueRead
    ∷ from 0x040 0x07f GroupValueResponse
    ∷ from 0x080 0x0bf GroupValueWrite
    ∷ from 0x200 0x23f MemoryRead
    ∷ from 0x240 0x27f MemoryResponse
    ∷ from 0x280 0x2bf MemoryWrite
    ∷ from 0x300 0x33f DeviceDescriptorRead
    ∷ from 0x340 0x37f DeviceDescriptorResponse
    ∷ from 0x380 0x380 Restart
    ∷ from 0x381 0x39f RestartOther
    ∷ from 0x3d5 0x3d5 PropertyValueRead
    ∷ from 0x3d6 0x3d6 PropertyValueResponse
    ∷ from 0x3d7 0x3d7 PropertyValueWrite
    ∷ from 0x3f1 0x3f1 Secure
    ∷ []

-- the service of a row that was found, or the code itself
abbrev pub named : ℕ → Option Row → Service
named bits (Some row) = row.service
named bits None = Unknown bits

-- the service that ten bits name
unfoldable pub service_of : ℕ → Service
service_of bits = named bits (find (λ row. nat_le row.first bits && nat_le bits row.last) table)

-- the name as reports print it
unfoldable pub name_of : Service → List ℕ
name_of GroupValueRead = codes "GroupValue_Read"
name_of GroupValueResponse = codes "GroupValue_Response"
name_of GroupValueWrite = codes "GroupValue_Write"
name_of MemoryRead = codes "Memory_Read"
name_of MemoryResponse = codes "Memory_Response"
name_of MemoryWrite = codes "Memory_Write"
name_of DeviceDescriptorRead = codes "DeviceDescriptor_Read"
name_of DeviceDescriptorResponse = codes "DeviceDescriptor_Response"
name_of Restart = codes "Restart"
name_of RestartOther = codes "Restart_Other"
name_of PropertyValueRead = codes "PropertyValue_Read"
name_of PropertyValueResponse = codes "PropertyValue_Response"
name_of PropertyValueWrite = codes "PropertyValue_Write"
name_of Secure = codes "Secure"
name_of (Unknown _) = codes "Unknown"
