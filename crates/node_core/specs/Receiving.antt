-- Statement: what a node does with what it receives.
use Rattle.std.specs.Prelude.{ℕ, ◌+◌, ◌==◌, if◌then◌else◌, List, [], ◌∷◌, slice_get, max, Option, Some, None, option_map, Result, Ok, Err}
use Rattle.knx_base.specs.declared.address.IndAddr.{IndAddr}
use Rattle.knx_base.specs.declared.address.GroupAddr.{GroupAddr}
use Rattle.cemi_frames.specs.Frames.{Telegram}
use Rattle.cemi_frames.specs.Faults.{frame_fault}
use Rattle.cemi_frames.specs.Reading.{frame_at}
use Rattle.cemi_frames.specs.declared.frame.NotFrame.{NotFrame}
use Rattle.plain_apdu.specs.declared.object.BadObject.{BadObject}
use Rattle.plain_apdu.specs.declared.service.Service.{Service}
use Rattle.key_tables.specs.declared.types.Lane.{Lane}
use Rattle.key_tables.specs.declared.types.Lane.TheVariants as lanes
use Rattle.judge_rules.specs.declared.verdict.Verdict.{Verdict}
use Rattle.judge_rules.specs.declared.verdict.Verdict.TheVariants as verdict
use Rattle.judge_rules.specs.Parts.{is_group, source_of}
use Rattle.judge_rules.specs.Checks.{Kept, lane_in, verdict_of, kept_by, opened_by}
use Rattle.seq_store.specs.Runs.{Raise, Mark}
use Rattle.group_objects.specs.declared.row.ObjectRow.{ObjectRow}
use Rattle.group_objects.specs.declared.row.Effect.{Effect}
use Rattle.group_objects.specs.declared.row.Effect.TheVariants as effect
use Rattle.group_objects.specs.declared.service.SendService.TheVariants as service
use Rattle.group_objects.specs.Value.{ObjectValue}
use Rattle.group_objects.specs.Apdus.{service_apdu}
use Rattle.group_objects.specs.Effects.{accepted}
use Rattle.group_objects.specs.Objects.{place_of}
use Rattle.sync_service.specs.Frames.{answer_frame}
use Rattle.sync_service.specs.Open.{asked_of}
use Rattle.node_core.specs.declared.fault.SendFault.{SendFault}
use Rattle.node_core.specs.declared.outcome.Act.TheVariants as act
use Rattle.node_core.specs.declared.outcome.Outcome.{Outcome}
use Rattle.node_core.specs.declared.outcome.Outcome.TheVariants as outcome
use Rattle.node_core.specs.declared.outcome.Addressee.{Addressee}
use Rattle.node_core.specs.declared.outcome.Addressee.TheVariants.{Device, Object}
use Rattle.node_core.specs.Standing.{ConfigState, Standing, raised, with_value, place_in, mark_at}
use Rattle.node_core.specs.Transition.{Transition, quiet, told_as, behind}
use Rattle.node_core.specs.Sending.{group_transition, on_channel, device_channel}

-- ---- whom it is for

-- the node itself, or one of its objects by the group
abbrev pub addressee : ConfigState → Telegram → Option Addressee
addressee c t =
    if is_group t then option_map Object (place_of (record { 0 = t.destination }) c.objects)
    else if t.destination == c.address.0 then Some Device else None

-- ---- what is kept of it

-- the raises that stand before all else that a telegram does
abbrev pub kept_raises : Option ℕ → Kept → List Raise
kept_raises (Some place) (Some kept) = Mark place kept.1 ∷ []
kept_raises _ _ = []

-- ---- what it asks for

abbrev pub number_sent : Result ℕ SendFault → Option ℕ
number_sent (Ok number) = Some number
number_sent (Err _) = None

-- an object is read: its value is sent to its group
abbrev pub reply_transition : ConfigState → Standing → ℕ → Lane → ℕ → GroupAddr → Option ObjectValue
    → Transition Outcome
reply_transition c s number lane object group (Some value) =
    told_as (λ sent. outcome.Acted number lane (act.Read object (number_sent sent)))
    (group_transition c s group (service_apdu service.Response value))
reply_transition c s number lane object group None = quiet s outcome.Ignored

abbrev pub effect_transition : ConfigState → Standing → ℕ → Lane → ℕ → ObjectRow → Result Effect BadObject
    → Transition Outcome
effect_transition c s number lane object row (Err bad) = quiet s (outcome.Refused (verdict.Object bad))
effect_transition c s number lane object row (Ok effect.Read) =
    reply_transition c s number lane object row.group (slice_get s.values object)
effect_transition c s number lane object row (Ok (effect.Write value)) =
    quiet (with_value object value s) (outcome.Acted number lane (act.Write object value))
effect_transition c s number lane object row (Ok (effect.Response value)) =
    quiet (with_value object value s) (outcome.Acted number lane (act.Response object value))

abbrev pub row_transition : ConfigState → Standing → ℕ → Lane → ℕ → List ℕ → Option ObjectRow → Transition Outcome
row_transition c s number lane object apdu (Some row) = effect_transition c s number lane object row (accepted row apdu)
row_transition c s number lane object apdu None = quiet s outcome.Ignored

-- an accepted telegram
abbrev pub act_transition : ConfigState → Standing → Addressee → Lane → ℕ → Service → List ℕ → Transition Outcome
act_transition c s Device lane number service apdu = quiet s (outcome.Acted number lane (act.Tool service))
act_transition c s (Object object) lane number service apdu =
    row_transition c s number lane object apdu (slice_get c.objects object)

-- the greater of the requester's marks, for groups and on this lane
abbrev pub mark_told : ConfigState → Standing → IndAddr → Lane → ℕ
mark_told c s requester lane =
    max (mark_at s.numbers.marks (place_in c (lanes.Run requester))) (mark_at s.numbers.marks (place_in c lane))

abbrev pub told_answer : List ℕ → Transition (Result ℕ SendFault) → Transition Outcome
told_answer challenge t = told_as (λ sent. outcome.Answered challenge (number_sent sent)) t

-- the answer to a request, which tells a number that was kept
abbrev pub answer_transition : ConfigState → Standing → IndAddr → List ℕ → ℕ → Transition (Result ℕ SendFault)
answer_transition c s to challenge kept =
    on_channel c s (device_channel c to) (λ key number. answer_frame key c.address to number challenge kept)

-- an answer: numbers go on above the one that was kept
abbrev pub synced_transition : Standing → ℕ → ℕ → Transition Outcome
synced_transition s number kept =
    quiet (record s { next = max s.next (kept + 1); pending = None })
    (outcome.Synced number kept (max s.next (kept + 1)))

abbrev pub verdict_transition : ConfigState → Standing → IndAddr → Addressee → Lane → List ℕ → Verdict
    → Transition Outcome
verdict_transition c s source to lane apdu (verdict.Accepted number service) =
    act_transition c s to lane number service apdu
verdict_transition c s source to lane apdu (verdict.SyncAsk number challenge) =
    told_answer challenge (answer_transition c s source challenge (mark_told c s source lane))
verdict_transition c s source to lane apdu (verdict.SyncAnswer number kept) = synced_transition s number kept
verdict_transition c s source to lane apdu refused = quiet s (outcome.Refused refused)

-- ---- all of it

-- The mark is raised, and then it acts.
abbrev pub lane_transition : ConfigState → Standing → Addressee → Telegram → Lane → Transition Outcome
lane_transition c s to t lane =
    let place = place_in c lane in
    let mark = mark_at s.numbers.marks place in
    let asked = asked_of s.pending (source_of t) in
    let raises = kept_raises place (kept_by c.rows mark asked t) in
    behind raises
    (verdict_transition c (raised raises s) (source_of t) to lane
    (opened_by c.rows asked t) (verdict_of c.rows mark asked t))

-- A telegram that has no lane fails a check before one that reads a mark.
abbrev pub telegram_transition : ConfigState → Standing → Telegram → Addressee → Option Lane → Transition Outcome
telegram_transition c s t to None =
    quiet s (outcome.Refused (verdict_of c.rows 0 (asked_of s.pending (source_of t)) t))
telegram_transition c s t to (Some lane) = lane_transition c s to t lane

abbrev pub addressed_transition : ConfigState → Standing → Telegram → Option Addressee → Transition Outcome
addressed_transition c s t None = quiet s outcome.Ignored
addressed_transition c s t (Some to) = telegram_transition c s t to (lane_in c.rows t)

abbrev pub frame_transition : ConfigState → Standing → Option NotFrame → Telegram → Transition Outcome
frame_transition c s (Some fault) t = quiet s (outcome.Refused (verdict.NotFrame fault))
frame_transition c s None t = addressed_transition c s t (addressee c t)

abbrev pub receive_transition : ConfigState → Standing → List ℕ → Transition Outcome
receive_transition c s octets = frame_transition c s (frame_fault octets) (frame_at octets)
