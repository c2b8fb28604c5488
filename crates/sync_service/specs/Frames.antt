-- Statement: the two telegrams of a synchronisation: what each is sealed under, and what it carries.
use Rattle.std.specs.Prelude.{ℕ, List, ◌++◌, false}
use Rattle.knx_base.specs.declared.address.IndAddr.{IndAddr}
use Rattle.knx_base.specs.Number.{octets_of}
use Rattle.secure_apdu.specs.declared.sealing.SendHead.{SendHead}
use Rattle.secure_apdu.specs.SealedFrame.{sealed_frame}
use Rattle.secure_apdu.specs.Sync.{xor_number}

-- from a device to a device: the control field, the nonce number, and the number that the frame shows
abbrev pub device_head : IndAddr → IndAddr → ℕ → ℕ → ℕ → SendHead
device_head source destination field number shown =
    record {
      source = source;
      destination = destination.0;
      group = false;
      number = number;
      shown = shown;
      field = field;
    }

-- ---- the request, with tool access and encrypted

abbrev pub ask_field : ℕ
ask_field = 0x92

abbrev pub ask_head : IndAddr → IndAddr → ℕ → SendHead
ask_head source destination number = device_head source destination ask_field number number

-- It carries the challenge.
abbrev pub ask_frame : List ℕ → IndAddr → IndAddr → ℕ → List ℕ → List ℕ
ask_frame key source destination number challenge = sealed_frame key (ask_head source destination number) challenge

-- ---- its answer, with tool access and encrypted

abbrev pub answer_field : ℕ
answer_field = 0x93

-- It shows the challenge XOR its number.
abbrev pub answer_head : IndAddr → IndAddr → ℕ → List ℕ → SendHead
answer_head source destination number challenge =
    device_head source destination answer_field number (xor_number challenge number)

-- It carries its number, and the one that was kept of the requester.
abbrev pub answer_payload : ℕ → ℕ → List ℕ
answer_payload number kept = octets_of number ++ octets_of kept

abbrev pub answer_frame : List ℕ → IndAddr → IndAddr → ℕ → List ℕ → ℕ → List ℕ
answer_frame key source destination number challenge kept =
    sealed_frame key (answer_head source destination number challenge) (answer_payload number kept)
