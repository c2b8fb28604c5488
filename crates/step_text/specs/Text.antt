-- Statement: the texts of a run, as a report prints them.
use Rattle.std.specs.Prelude.{ℕ, List, [], ◌∷◌, ◌++◌, codes, Bool, true, false, Option, Some, None}
use Rattle.std.specs.List.{zip, flat_map, enumerate_from}
use Rattle.std.specs.Fmt.{decimal}
use Rattle.hex.specs.Hex.{encode_lower}
use Rattle.knx_base.specs.Address.{individual_text}
use Rattle.plain_apdu.specs.Service.{name_of}
use Rattle.plain_apdu.specs.declared.service.Service.TheVariants.{GroupValueRead, GroupValueResponse, GroupValueWrite}
use Rattle.key_tables.specs.declared.types.Lane.{Lane}
use Rattle.key_tables.specs.declared.types.Lane.TheVariants as lane
use Rattle.judge_rules.specs.Text.{verdict_text}
use Rattle.group_objects.specs.Value.{ObjectValue}
use Rattle.node_core.specs.declared.outcome.Act.{Act}
use Rattle.node_core.specs.declared.outcome.Act.TheVariants as act
use Rattle.step_text.specs.declared.outcome.StepOutcome.{StepOutcome}
use Rattle.step_text.specs.declared.outcome.StepOutcome.TheVariants as outcome
use Rattle.step_text.specs.declared.end.NodeEnd.{NodeEnd}
use Rattle.step_text.specs.declared.summary.Tally.{Tally}

-- ---- parts

-- a lane, as a mark line of a script names it
abbrev pub lane_text : Lane → List ℕ
lane_text (lane.Run sender) = codes "run:" ++ individual_text sender.0
lane_text (lane.Tool device sender) = codes "tool:" ++ individual_text device.0 ++ 58 ∷ [] ++ individual_text sender.0

abbrev pub reply_text : Option ℕ → List ℕ
reply_text (Some telegram) = codes " reply " ++ decimal telegram
reply_text None = codes " reply none"

abbrev pub object_text : ℕ → ObjectValue → List ℕ
object_text object value = codes " object " ++ decimal object ++ codes " value " ++ encode_lower value.octets

-- what a node did, with the telegram that answers a read
abbrev pub act_text : Act → Option ℕ → List ℕ
act_text (act.Write object value) reply = name_of GroupValueWrite ++ object_text object value
act_text (act.Response object value) reply = name_of GroupValueResponse ++ object_text object value
act_text (act.Read object number) reply =
    name_of GroupValueRead ++ codes " object " ++ decimal object ++ reply_text reply
act_text (act.Tool service) reply = name_of service

-- an injected telegram was sealed under no number of a node
abbrev pub air_text : ℕ → Option ℕ → List ℕ
air_text telegram (Some number) = codes "air " ++ decimal telegram ++ codes " number " ++ decimal number
air_text telegram None = codes "air " ++ decimal telegram

abbrev pub acted_text : ℕ → Lane → Act → Option ℕ → List ℕ
acted_text number lane act reply =
    (codes "acted number " ++ decimal number) ++ (codes " lane " ++ lane_text lane) ++ 32 ∷ [] ++ act_text act reply

abbrev pub synced_text : ℕ → ℕ → ℕ → List ℕ
synced_text number kept next =
    (codes "synced number " ++ decimal number) ++ (codes " kept " ++ decimal kept ++ codes " next " ++ decimal next)

-- ---- the line of a step

-- what came of the event, but for the marks with which a node was switched on
abbrev pub said_text : StepOutcome → List ℕ
said_text outcome.Off = codes "off"
said_text outcome.NoObject = codes "no-object"
said_text outcome.Size = codes "size"
said_text outcome.Set = codes "set"
said_text outcome.Flag = codes "flag"
said_text outcome.NoKey = codes "no-key"
said_text outcome.Exhausted = codes "exhausted"
said_text outcome.Cut = codes "cut"
said_text outcome.Fault = codes "fault"
said_text (outcome.Air telegram number) = air_text telegram number
said_text outcome.Gone = codes "gone"
said_text outcome.Lost = codes "lost"
said_text (outcome.Refused verdict) = verdict_text verdict []
said_text outcome.Ignored = codes "ignored"
said_text (outcome.Acted number lane act reply) = acted_text number lane act reply
said_text (outcome.Answered challenge reply) = codes "answered challenge " ++ encode_lower challenge ++ reply_text reply
said_text (outcome.Synced number kept next) = synced_text number kept next
said_text outcome.Down = codes "down"
said_text outcome.Running = codes "running"
said_text (outcome.On next marks) = codes "on next " ++ decimal next
said_text outcome.Armed = codes "armed"

abbrev pub mark_text : Lane × ℕ → List ℕ
mark_text (lane, mark) = 32 ∷ [] ++ lane_text lane ++ 61 ∷ [] ++ decimal mark

-- each lane with its mark
abbrev pub marks_text : List Lane → List ℕ → List ℕ
marks_text lanes marks = flat_map mark_text (zip lanes marks)

-- the marks with which a node was switched on
abbrev pub restored_text : List Lane → StepOutcome → List ℕ
restored_text lanes (outcome.On next marks) = marks_text lanes marks
restored_text lanes _ = []

-- the step of this number, counted from 1, at a node with these lanes
abbrev pub step_text : ℕ → List Lane → StepOutcome → List ℕ
step_text number lanes outcome =
    (decimal number ++ 32 ∷ [] ++ said_text outcome) ++ restored_text lanes outcome ++ 10 ∷ []

-- ---- the end

abbrev pub state_text : Bool → List ℕ
state_text true = codes "running"
state_text false = codes "off"

-- how long the journal of a node is, and what its memory has reserved
abbrev pub node_text : NodeEnd → List ℕ
node_text node =
    codes "node " ++ node.name ++ 32 ∷ [] ++ state_text node.running ++ codes " journal " ++ decimal node.journal
    ++ codes " reserved " ++ decimal node.reserved ++ 10 ∷ []

-- the value that an object holds
abbrev pub value_text : ℕ × ObjectValue → List ℕ
value_text (object, value) = codes "object " ++ decimal object ++ 32 ∷ [] ++ encode_lower value.octets ++ 10 ∷ []

-- the number that the memory keeps of a lane
abbrev pub kept_text : Lane × ℕ → List ℕ
kept_text (lane, kept) = codes "lane " ++ lane_text lane ++ codes " kept " ++ decimal kept ++ 10 ∷ []

-- the octets of a memory
abbrev pub image_text : List ℕ → List ℕ
image_text octets = codes "image " ++ encode_lower octets ++ 10 ∷ []

abbrev pub total_text : ℕ → ℕ → List ℕ
total_text events telegrams = codes "events " ++ decimal events ++ codes " telegrams " ++ decimal telegrams ++ 10 ∷ []

-- the lines of all objects, and of all lanes
abbrev pub values_text : List ObjectValue → List ℕ
values_text values = flat_map value_text (enumerate_from 0 values)

abbrev pub all_kept_text : List Lane → List ℕ → List ℕ
all_kept_text lanes marks = flat_map kept_text (zip lanes marks)

-- ---- the summary of a run that was made

-- which script was made, and with how many events
abbrev pub made_text : ℕ → ℕ → List ℕ
made_text number count = codes "make " ++ decimal number ++ 32 ∷ [] ++ decimal count ++ 10 ∷ []

-- a word, and how often it came
abbrev pub counted_text : List ℕ → ℕ → List ℕ
counted_text word count = word ++ 32 ∷ [] ++ decimal count ++ 10 ∷ []

abbrev pub tally_text : Tally → List ℕ
tally_text tally =
    counted_text (codes "telegrams") tally.telegrams ++ counted_text (codes "acted") tally.acted
    ++ counted_text (codes "answered") tally.answered ++ counted_text (codes "synced") tally.synced
    ++ counted_text (codes "refused") tally.refused ++ counted_text (codes "ignored") tally.ignored
    ++ counted_text (codes "gone") tally.gone ++ counted_text (codes "off") tally.off
    ++ counted_text (codes "cut") tally.cut

-- a node: how long its journal is, and what its memory has reserved
abbrev pub summary_node_text : List ℕ → ℕ → ℕ → List ℕ
summary_node_text name journal reserved =
    codes "node " ++ name ++ codes " journal " ++ decimal journal ++ codes " reserved " ++ decimal reserved ++ 10 ∷ []
