-- Statement: what a node seals, by its kind. Each call says its frame in the definitions of its transition; this ties
-- them to the code.
use Rattle.std.specs.Prelude.{ℕ, ◌/◌, ◌%◌, ◌≤◌, List, length}
use Rattle.knx_base.specs.declared.address.IndAddr.{IndAddr}
use Rattle.secure_apdu.specs.SealedFrame.{sealed_frame}
use Rattle.sync_service.specs.Frames.{ask_frame, answer_frame}
use Rattle.node_core.specs.declared.message.Message.{Message}
use Rattle.node_core.specs.declared.message.Message.TheVariants.{Data, Ask, Answer}
use Rattle.node_core.specs.Sending.{data_head}

abbrev pub message_frame : IndAddr → Message → List ℕ → ℕ → List ℕ
message_frame source (Data destination group field apdu) key number =
    sealed_frame key (data_head source destination group field number) apdu.now
message_frame source (Ask to challenge) key number = ask_frame key source to number challenge
message_frame source (Answer to challenge kept) key number = answer_frame key source to number challenge kept

-- of data the algorithm is 0 or 1, and there are 2 to 242 octets
abbrev pub IsSendable : Message → Type 0
IsSendable (Data _ _ field apdu) = (field / 16 % 8 ≤ 1) × (2 ≤ length apdu.now) × (length apdu.now ≤ 242)
IsSendable _ = Unit {0}
