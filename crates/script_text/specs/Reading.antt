-- Statement: how a line of a script is read by its words, after what the lines before it say. What is refused first
-- is first here: the number of words, the order of kinds, and the words from left to right.
use Rattle.std.specs.Prelude.{◌≡◌, ℕ, ◌-◌, ◌^◌, ◌&&◌, nat_lt, if◌then◌else◌, Bool, true, false, List, [], ◌∷◌, length, find, position, codes, Option, Some, None, Result, Ok, Err}
use Rattle.std.specs.Option.{ok_or}
use Rattle.knx_base.specs.declared.cause.Cause.{Cause}
use Rattle.knx_base.specs.declared.cause.Cause.TheVariants as cause
use Rattle.text_lines.specs.Lines.{line_of}
use Rattle.key_tables.specs.declared.types.Lane.{Lane}
use Rattle.key_tables.specs.declared.types.Row.{Row}
use Rattle.key_tables.specs.Lanes.{has_lane, is_any}
use Rattle.key_tables.specs.Text.{is_word, two_words, three_words, row_of, group_named, device_named}
use Rattle.script_text.specs.Parts.{same_name}
use Rattle.script_text.specs.Script.{last_object, last_write}
use Rattle.script_text.specs.Said.{Before, is_start, stage_rank, lanes_at, crowded, standing, fault_at}
use Rattle.script_text.specs.Words.{number_named, octets_named, octet_named, address_named, name_named, lane_named, flags_named, size_named, value_sized, value_named, service_named}
use Rattle.script_text.specs.declared.event.Event.{Event}
use Rattle.script_text.specs.declared.event.Event.TheVariants as event
use Rattle.script_text.specs.declared.fault.Refusal.{Refusal}
use Rattle.script_text.specs.declared.fault.Refusal.TheVariants as refusal
use Rattle.script_text.specs.declared.fault.ScriptFault.{ScriptFault}
use Rattle.script_text.specs.declared.said.NodeLine.{NodeLine}
use Rattle.script_text.specs.declared.said.Said.{Said}
use Rattle.script_text.specs.declared.said.Said.TheVariants as said
use Rattle.script_text.specs.declared.said.Stage.{Stage}
use Rattle.script_text.specs.declared.said.Stage.TheVariants.{Rows, Nodes, Marks}

-- what follows where this is right
infixl 10 ◌>>=◌
abbrev pub ◌>>=◌ : {A B E : Type 0} → Result A E → (A → Result B E) → Result B E
Ok x >>= f = f x
Err why >>= f = Err why

abbrev pub caused : {A : Type 0} → Result A Cause → Result A Refusal
caused (Ok x) = Ok x
caused (Err why) = Err (refusal.Cause why)

-- ---- words, by their number

abbrev pub one_word : List (List ℕ) → Result (List ℕ) Cause
one_word (first ∷ []) = Ok first
one_word _ = Err cause.Words

-- two words, and the three after them
abbrev pub five_words : List (List ℕ) → Result ((List ℕ × List ℕ) × List ℕ × List ℕ × List ℕ) Cause
five_words (first ∷ second ∷ third ∷ fourth ∷ fifth ∷ []) = Ok ((first, second), third, fourth, fifth)
five_words _ = Err cause.Words

-- ---- what a line is read after

-- no line of a later stage came
abbrev pub in_order : Before → Stage → Result (Unit {0}) Refusal
in_order before stage =
    if nat_lt (stage_rank stage) (stage_rank before.stage) then Err refusal.Order else Ok tt

abbrev pub not_crowded : Option NodeLine → Result (Unit {0}) Refusal
not_crowded None = Ok tt
not_crowded (Some node) = Err (refusal.Lanes node.line)

-- no node has too many lanes
abbrev pub settled_by : Before → Result (Unit {0}) Refusal
settled_by before = not_crowded (crowded before)

-- the node of a name, and its place
abbrev pub node_named : Before → List ℕ → Result NodeLine Cause
node_named before text = ok_or (find (λ node. same_name text node.name) before.nodes) cause.Name

abbrev pub place_named : Before → List ℕ → Result ℕ Cause
place_named before text = ok_or (position (λ node. same_name text node.name) before.nodes) cause.Name

-- ---- the head, and rows

abbrev pub head_said : List (List ℕ) → Result Said Refusal
head_said (kind ∷ version ∷ []) =
    if is_word (codes "knx-script") kind && is_word (codes "1") version then Ok said.Head
    else Err (refusal.Cause cause.Words)
head_said _ = Err (refusal.Cause cause.Words)

abbrev pub head_again : List (List ℕ) → Result Said Refusal
head_again words = do
  version ← caused (one_word words)
  Err refusal.Order

-- the row names its sender
abbrev pub named : Row → Result Said Refusal
named row = if is_any row then Err (refusal.Cause cause.Any) else Ok (said.Row row)

-- where the sender before it is any, a bad role comes too late
abbrev pub role_after : Bool → Result Row Cause → Result Row Cause
role_after true (Err cause.Role) = Err cause.Any
role_after any row = row

-- the row that a tables file has from these words
abbrev pub row_said : Before → Bool → List (List ℕ) → Result Said Refusal
row_said before any words = do
  reached ← in_order before Rows
  row ← caused (role_after any (row_of words))
  named row

-- `CHANNEL SENDER ROLE`
abbrev pub role_said : Before → List ℕ → List (List ℕ) → Result Said Refusal
role_said before kind words = do
  three ← caused (three_words words)
  row_said before (is_word (codes "any") three.1) (kind ∷ words)

-- `GROUP KEY LEVEL`
abbrev pub group_said : Before → List ℕ → List (List ℕ) → Result Said Refusal
group_said before kind words = do
  three ← caused (three_words words)
  row_said before false (kind ∷ words)

-- `DEVICE KEY`
abbrev pub tool_said : Before → List ℕ → List (List ℕ) → Result Said Refusal
tool_said before kind words = do
  two ← caused (two_words words)
  row_said before false (kind ∷ words)

-- ---- nodes, objects and marks

-- `NAME ADDRESS NEXT`
abbrev pub node_said : Before → ℕ → List (List ℕ) → Result Said Refusal
node_said before number words = do
  three ← caused (three_words words)
  reached ← in_order before Nodes
  name ← caused (name_named three.0)
  address ← caused (address_named three.1)
  next ← caused (number_named 1 (2 ^ 48 - 1) three.2)
  Ok (said.Node (record { line = number; name = name; address = address; next = next }))

-- `NAME GROUP FLAGS SIZE VALUE`
abbrev pub object_said : Before → List (List ℕ) → Result Said Refusal
object_said before words = do
  five ← caused (five_words words)
  reached ← in_order before Nodes
  node ← caused (node_named before five.0.0)
  group ← caused (group_named five.0.1)
  flags ← caused (flags_named five.1)
  size ← caused (size_named five.2)
  value ← caused (value_sized size five.3)
  Ok (said.Object (record { node = node.address; row = record { group = group; flags = flags; value = value } }))

-- a lane of the node
abbrev pub lane_of_node : Before → NodeLine → List ℕ → Result Lane Cause
lane_of_node before node text = Rattle.key_tables.specs.Text.◌>>=◌ (lane_named text)
    (λ lane. if has_lane (lanes_at before node) lane then Ok lane else Err cause.Lane)

-- `NAME LANE NUMBER`
abbrev pub mark_said : Before → Result (Unit {0}) Refusal → List (List ℕ) → Result Said Refusal
mark_said before settled words = do
  three ← caused (three_words words)
  reached ← in_order before Marks
  few ← settled
  node ← caused (node_named before three.0)
  lane ← caused (lane_of_node before node three.1)
  number ← caused (number_named 0 (2 ^ 48 - 1) three.2)
  Ok (said.Mark (record { node = node.address; lane = lane; number = number }))

-- ---- events

-- three words, where no node has too many lanes
abbrev pub three_settled : Result (Unit {0}) Refusal → List (List ℕ) → Result (List ℕ × List ℕ × List ℕ) Refusal
three_settled settled words = do
  three ← caused (three_words words)
  few ← settled
  Ok three

abbrev pub one_settled : Result (Unit {0}) Refusal → List (List ℕ) → Result (List ℕ) Refusal
one_settled settled words = do
  one ← caused (one_word words)
  few ← settled
  Ok one

-- `NAME OBJECT VALUE`
abbrev pub set_said : Before → Result (Unit {0}) Refusal → List (List ℕ) → Result Event Refusal
set_said before settled words = do
  three ← three_settled settled words
  node ← caused (place_named before three.0)
  object ← caused (number_named 0 last_object three.1)
  value ← caused (value_named three.2)
  Ok (event.Set node object value)

-- `NAME OBJECT SERVICE`
abbrev pub send_said : Before → Result (Unit {0}) Refusal → List (List ℕ) → Result Event Refusal
send_said before settled words = do
  three ← three_settled settled words
  node ← caused (place_named before three.0)
  object ← caused (number_named 0 last_object three.1)
  service ← caused (service_named three.2)
  Ok (event.Send node object service)

-- `NAME ADDRESS APDU`
abbrev pub tool_send_said : Before → Result (Unit {0}) Refusal → List (List ℕ) → Result Event Refusal
tool_send_said before settled words = do
  three ← three_settled settled words
  node ← caused (place_named before three.0)
  to ← caused (device_named three.1)
  apdu ← caused (octets_named 2 16 three.2)
  Ok (event.ToolSend node to apdu)

-- `NAME ADDRESS CHALLENGE`
abbrev pub ask_said : Before → Result (Unit {0}) Refusal → List (List ℕ) → Result Event Refusal
ask_said before settled words = do
  three ← three_settled settled words
  node ← caused (place_named before three.0)
  to ← caused (device_named three.1)
  challenge ← caused (octets_named 6 6 three.2)
  Ok (event.Ask node to challenge)

-- `TELEGRAM NAME`
abbrev pub deliver_said : Before → Result (Unit {0}) Refusal → List (List ℕ) → Result Event Refusal
deliver_said before settled words = do
  two ← caused (two_words words)
  few ← settled
  telegram ← caused (number_named 1 (2 ^ 32 - 1) two.0)
  node ← caused (place_named before two.1)
  Ok (event.Deliver telegram node)

-- `TELEGRAM`
abbrev pub lose_said : Result (Unit {0}) Refusal → List (List ℕ) → Result Event Refusal
lose_said settled words = do
  one ← one_settled settled words
  telegram ← caused (number_named 1 (2 ^ 32 - 1) one)
  Ok (event.Lose telegram)

-- `FRAME`
abbrev pub inject_said : Result (Unit {0}) Refusal → List (List ℕ) → Result Event Refusal
inject_said settled words = do
  one ← one_settled settled words
  octets ← caused (octets_named 1 265 one)
  Ok (event.Inject octets)

-- `NAME`
abbrev pub off_said : Before → Result (Unit {0}) Refusal → List (List ℕ) → Result Event Refusal
off_said before settled words = do
  one ← one_settled settled words
  node ← caused (place_named before one)
  Ok (event.Off node)

abbrev pub on_said : Before → Result (Unit {0}) Refusal → List (List ℕ) → Result Event Refusal
on_said before settled words = do
  one ← one_settled settled words
  node ← caused (place_named before one)
  Ok (event.On node)

-- `NAME WRITE TORN`
abbrev pub cut_said : Before → Result (Unit {0}) Refusal → List (List ℕ) → Result Event Refusal
cut_said before settled words = do
  three ← three_settled settled words
  node ← caused (place_named before three.0)
  write ← caused (number_named 1 last_write three.1)
  torn ← caused (octet_named three.2)
  Ok (event.Cut node write torn)

abbrev pub fault_said : Before → Result (Unit {0}) Refusal → List (List ℕ) → Result Event Refusal
fault_said before settled words = do
  three ← three_settled settled words
  node ← caused (place_named before three.0)
  write ← caused (number_named 1 last_write three.1)
  torn ← caused (octet_named three.2)
  Ok (event.Fault node write torn)

-- an event of this kind
abbrev pub event_said : Before → Result (Unit {0}) Refusal → List ℕ → List (List ℕ) → Result Event Refusal
event_said before settled kind words =
    if is_word (codes "set") kind then set_said before settled words
    else if is_word (codes "send") kind then send_said before settled words
    else if is_word (codes "tool-send") kind then tool_send_said before settled words
    else if is_word (codes "ask") kind then ask_said before settled words
    else if is_word (codes "deliver") kind then deliver_said before settled words
    else if is_word (codes "lose") kind then lose_said settled words
    else if is_word (codes "inject") kind then inject_said settled words
    else if is_word (codes "off") kind then off_said before settled words
    else if is_word (codes "on") kind then on_said before settled words
    else if is_word (codes "cut") kind then cut_said before settled words
    else if is_word (codes "fault") kind then fault_said before settled words
    else Err (refusal.Cause cause.Words)

-- a mark or an event, before whose words no node may have too many lanes
abbrev pub late_said : Before → Result (Unit {0}) Refusal → List ℕ → List (List ℕ) → Result Said Refusal
late_said before settled kind words =
    if is_word (codes "mark") kind then mark_said before settled words
    else do
      event ← event_said before settled kind words
      Ok (said.Event event)

-- ---- a line

-- what the words of the line of this number say after the head
unfoldable pub kind_said : Before → ℕ → List ℕ → List (List ℕ) → Result Said Refusal
kind_said before number kind words =
    if is_word (codes "knx-script") kind then head_again words
    else if is_word (codes "group") kind then group_said before kind words
    else if is_word (codes "tool") kind then tool_said before kind words
    else if is_word (codes "role") kind then role_said before kind words
    else if is_word (codes "node") kind then node_said before number words
    else if is_word (codes "object") kind then object_said before words
    else late_said before (settled_by before) kind words

abbrev pub after_head : Before → ℕ → List (List ℕ) → Result Said Refusal
after_head before number [] = Err (refusal.Cause cause.Words)
after_head before number (kind ∷ words) = kind_said before number kind words

abbrev pub words_said : Before → ℕ → List (List ℕ) → Result Said Refusal
words_said before number words =
    if is_start before.stage then head_said words else after_head before number words

abbrev pub stands : Option Refusal → Said → Result (Option Said) Refusal
stands None said = Ok (Some said)
stands (Some why) said = Err why

-- nothing, or what it says and may say here
abbrev pub said_in : Before → ℕ → Option (List (List ℕ)) → Result (Option Said) Refusal
said_in before number None = Ok None
said_in before number (Some words) = do
  said ← words_said before number words
  stands (standing before said) said

-- what a line of this number says, or why it is refused
unfoldable pub line_said : Before → ℕ → List ℕ → Result (Option Said) Refusal
line_said before number line = do
  words ← caused (line_of line)
  said_in before number words

abbrev pub at_line : {A : Type 0} → ℕ → Result A Refusal → Result A ScriptFault
at_line number (Ok x) = Ok x
at_line number (Err why) = Err (fault_at number why)
