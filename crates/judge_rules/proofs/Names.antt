-- How long the names of services are.
use Rattle.std.proofs.Common.{◌≤◌, length, lit≤}
use Rattle.plain_apdu.specs.declared.service.Service.{Service}
use Rattle.plain_apdu.specs.declared.service.Service.TheVariants.{GroupValueRead, GroupValueResponse, GroupValueWrite, MemoryRead, MemoryResponse, MemoryWrite, DeviceDescriptorRead, DeviceDescriptorResponse, Restart, RestartOther, PropertyValueRead, PropertyValueResponse, PropertyValueWrite, Secure, Unknown}
use Rattle.plain_apdu.specs.Service.{name_of}

pub length-name_of : (service : Service) → length (name_of service) ≤ 30
unfolding name_of
length-name_of GroupValueRead = lit≤ tt
length-name_of GroupValueResponse = lit≤ tt
length-name_of GroupValueWrite = lit≤ tt
length-name_of MemoryRead = lit≤ tt
length-name_of MemoryResponse = lit≤ tt
length-name_of MemoryWrite = lit≤ tt
length-name_of DeviceDescriptorRead = lit≤ tt
length-name_of DeviceDescriptorResponse = lit≤ tt
length-name_of Restart = lit≤ tt
length-name_of RestartOther = lit≤ tt
length-name_of PropertyValueRead = lit≤ tt
length-name_of PropertyValueResponse = lit≤ tt
length-name_of PropertyValueWrite = lit≤ tt
length-name_of Secure = lit≤ tt
length-name_of (Unknown _) = lit≤ tt
