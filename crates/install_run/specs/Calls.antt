-- What an event asks of a node that runs, if its memory lets it. This is statement.
use Rattle.std.specs.Prelude.{ℕ, List, length, Option, Some, None}
use Rattle.node_core.specs.Receiving.{receive_transition}
use Rattle.node_core.specs.Sending.{send_transition, tool_transition, ask_transition, set_transition}
use Rattle.node_core.specs.Standing.{ConfigState, Standing}
use Rattle.node_core.specs.Transition.{Transition, quiet, told_as}
use Rattle.script_text.specs.declared.event.Event.{Event}
use Rattle.script_text.specs.declared.event.Event.TheVariants as event
use Rattle.step_text.specs.declared.outcome.StepOutcome.{StepOutcome}
use Rattle.step_text.specs.declared.outcome.StepOutcome.TheVariants as outcome
use Rattle.install_run.specs.Turn.{set_told, send_told, receive_told}
use Rattle.install_run.specs.Machine.{TelegramAt, telegram_in, heard}

-- of octets that come to it, unless the telegram is gone
abbrev pub deliver_call : ℕ → ConfigState → Standing → Option (List ℕ) → Transition StepOutcome
deliver_call count c s None = quiet s outcome.Gone
deliver_call count c s (Some octets) = told_as (receive_told count) (receive_transition c s octets)

-- of each event, while these telegrams are on the air
abbrev pub call_of : Event → List TelegramAt → ConfigState → Standing → Transition StepOutcome
call_of (event.Set node object value) air c s = told_as set_told (set_transition s object value)
call_of (event.Send node object service) air c s =
    told_as (send_told (length air)) (send_transition c s object service)
call_of (event.ToolSend node to apdu) air c s = told_as (send_told (length air)) (tool_transition c s to apdu)
call_of (event.Ask node to challenge) air c s = told_as (send_told (length air)) (ask_transition c s to challenge)
call_of (event.Deliver telegram node) air c s =
    deliver_call (length air) c s (heard (telegram_in air telegram))
call_of (event.Lose telegram) air c s = quiet s outcome.Lost
call_of (event.Inject octets) air c s = quiet s outcome.Armed
call_of (event.Off node) air c s = quiet s outcome.Down
call_of (event.On node) air c s = quiet s outcome.Running
call_of (event.Cut node write torn) air c s = quiet s outcome.Armed
call_of (event.Fault node write torn) air c s = quiet s outcome.Armed
