-- The numbers that a transition leaves are those that its raises leave: by its cases.
use Rattle.std.proofs.Common.{◌≡◌, ℕ, ◌++◌, List, [], ◌∷◌, Bool, true, false, Option, Some, None, Result, Ok, Err, refl, sym, ◌∙◌}
use Rattle.std.specs.Prelude.{◌^◌, ◌==◌, slice_get, if◌then◌else◌}
use Rattle.knx_base.specs.declared.address.IndAddr.{IndAddr}
use Rattle.knx_base.specs.declared.address.GroupAddr.{GroupAddr}
use Rattle.cemi_frames.specs.Frames.{Telegram}
use Rattle.cemi_frames.specs.Faults.{frame_fault}
use Rattle.cemi_frames.specs.Reading.{frame_at}
use Rattle.cemi_frames.specs.declared.frame.NotFrame.{NotFrame}
use Rattle.plain_apdu.specs.declared.object.BadObject.{BadObject}
use Rattle.plain_apdu.specs.declared.service.Service.{Service}
use Rattle.key_tables.specs.declared.types.Channel.{Channel}
use Rattle.key_tables.specs.declared.types.Channel.TheVariants as channel
use Rattle.key_tables.specs.declared.types.Lane.{Lane}
use Rattle.key_tables.specs.Rows.{key_of}
use Rattle.judge_rules.specs.declared.verdict.Verdict.{Verdict}
use Rattle.judge_rules.specs.declared.verdict.Verdict.TheVariants as verdict
use Rattle.judge_rules.specs.Parts.{source_of}
use Rattle.judge_rules.specs.Checks.{lane_in, verdict_of, kept_by, opened_by}
use Rattle.secure_apdu.specs.SealedFrame.{sealed_frame}
use Rattle.seq_store.specs.Runs.{Numbers, Raise, after_raise, after_raises}
use Rattle.group_objects.specs.declared.row.ObjectRow.{ObjectRow}
use Rattle.group_objects.specs.declared.row.Effect.{Effect}
use Rattle.group_objects.specs.declared.row.Effect.TheVariants as effect
use Rattle.group_objects.specs.declared.service.SendService.{SendService}
use Rattle.group_objects.specs.declared.service.SendService.TheVariants as service
use Rattle.group_objects.specs.Value.{ObjectValue}
use Rattle.group_objects.specs.Apdus.{service_apdu}
use Rattle.group_objects.specs.Effects.{accepted}
use Rattle.sync_service.specs.Frames.{ask_frame, answer_frame}
use Rattle.sync_service.specs.Open.{asked_of}
use Rattle.sync_service.specs.declared.pending.OpenChallenge.{OpenChallenge}
use Rattle.node_core.specs.declared.fault.SendFault.{SendFault}
use Rattle.node_core.specs.declared.fault.SendFault.TheVariants as fault
use Rattle.node_core.specs.declared.outcome.Addressee.{Addressee}
use Rattle.node_core.specs.declared.outcome.Addressee.TheVariants.{Device, Object}
use Rattle.node_core.specs.Standing.{ConfigState, Standing, raised, place_in, mark_at}
use Rattle.node_core.specs.Transition.{quiet}
use Rattle.node_core.specs.Sending.{sealing, drawing, under_key, on_channel, data_head, group_field, tool_field, group_transition, object_transition, device_channel, send_transition, tool_transition, with_pending, ask_transition}
use Rattle.node_core.specs.Receiving.{addressee, kept_raises, reply_transition, effect_transition, row_transition, act_transition, mark_told, answer_transition, verdict_transition, lane_transition, telegram_transition, addressed_transition, frame_transition, receive_transition}
use Rattle.node_core.specs.Laws.{LeavesRaised}

-- ---- drawing

drawing_by : (none_left : Bool) (frame : ℕ → List ℕ) (s : Standing)
    → LeavesRaised (if none_left then quiet s (Err fault.Exhausted) else sealing frame s) s
drawing_by true frame s = refl
drawing_by false frame s = refl

under_key_raised : (key : Option (List ℕ)) (frame : List ℕ → ℕ → List ℕ) (s : Standing)
    → LeavesRaised (under_key key frame s) s
under_key_raised None frame s = refl
under_key_raised (Some key) frame s = drawing_by (s.next == 2 ^ 48) (frame key) s

on_channel_raised : (c : ConfigState) (s : Standing) (channel : Option Channel) (frame : List ℕ → ℕ → List ℕ)
    → LeavesRaised (on_channel c s channel frame) s
on_channel_raised c s None frame = refl
on_channel_raised c s (Some channel) frame = under_key_raised (key_of c.rows channel) frame s

-- ---- sending

group_raised : (c : ConfigState) (s : Standing) (group : GroupAddr) (apdu : List ℕ)
    → LeavesRaised (group_transition c s group apdu) s
group_raised c s group apdu =
    on_channel_raised c s (Some (channel.Group group))
    (λ key number. sealed_frame key (data_head c.address group.0 true (group_field c group) number) apdu)

flag_raised : (transmits : Bool) (c : ConfigState) (s : Standing) (group : GroupAddr) (apdu : List ℕ)
    → LeavesRaised (if transmits then group_transition c s group apdu else quiet s (Err fault.Flag)) s
flag_raised true c s group apdu = group_raised c s group apdu
flag_raised false c s group apdu = refl

object_raised : (c : ConfigState) (s : Standing) (row : Option ObjectRow) (value : Option ObjectValue)
    (service : SendService)
    → LeavesRaised (object_transition c s row value service) s
object_raised c s (Some row) (Some value) service =
    flag_raised row.flags.transmits c s row.group (service_apdu service value)
object_raised c s (Some row) None service = refl
object_raised c s None value service = refl

pub send_raised : (c : ConfigState) (s : Standing) (object : ℕ) (service : SendService)
    → LeavesRaised (send_transition c s object service) s
send_raised c s object service = object_raised c s (slice_get c.objects object) (slice_get s.values object) service

pub tool_raised : (c : ConfigState) (s : Standing) (to : IndAddr) (apdu : List ℕ)
    → LeavesRaised (tool_transition c s to apdu) s
tool_raised c s to apdu =
    on_channel_raised c s (device_channel c to) (λ key number. sealed_frame key
    (data_head c.address to.0 false tool_field number) apdu)

pending_numbers : (sent : Result ℕ SendFault) (challenge : OpenChallenge) (s : Standing)
    → (with_pending sent challenge s).numbers ≡ s.numbers
pending_numbers (Ok _) challenge s = refl
pending_numbers (Err _) challenge s = refl

pub ask_raised : (c : ConfigState) (s : Standing) (to : IndAddr) (challenge : List ℕ)
    → LeavesRaised (ask_transition c s to challenge) s
ask_raised c s to challenge =
    let frame : List ℕ → ℕ → List ℕ = λ key number. ask_frame key c.address to number challenge in
    let asked = on_channel c s (device_channel c to) frame in
    pending_numbers asked.outcome (record { peer = to; challenge = challenge }) asked.after
    ∙ on_channel_raised c s (device_channel c to) frame

-- ---- receiving

reply_raised : (c : ConfigState) (s : Standing) (number : ℕ) (lane : Lane) (object : ℕ) (group : GroupAddr)
    (value : Option ObjectValue)
    → LeavesRaised (reply_transition c s number lane object group value) s
reply_raised c s number lane object group (Some value) = group_raised c s group (service_apdu service.Response value)
reply_raised c s number lane object group None = refl

effect_raised : (c : ConfigState) (s : Standing) (number : ℕ) (lane : Lane) (object : ℕ) (row : ObjectRow)
    (effect : Result Effect BadObject)
    → LeavesRaised (effect_transition c s number lane object row effect) s
effect_raised c s number lane object row (Err bad) = refl
effect_raised c s number lane object row (Ok effect.Read) =
    reply_raised c s number lane object row.group (slice_get s.values object)
effect_raised c s number lane object row (Ok (effect.Write value)) = refl
effect_raised c s number lane object row (Ok (effect.Response value)) = refl

row_raised : (c : ConfigState) (s : Standing) (number : ℕ) (lane : Lane) (object : ℕ) (apdu : List ℕ)
    (row : Option ObjectRow)
    → LeavesRaised (row_transition c s number lane object apdu row) s
row_raised c s number lane object apdu (Some row) = effect_raised c s number lane object row (accepted row apdu)
row_raised c s number lane object apdu None = refl

act_raised : (c : ConfigState) (s : Standing) (to : Addressee) (lane : Lane) (number : ℕ) (service : Service)
    (apdu : List ℕ)
    → LeavesRaised (act_transition c s to lane number service apdu) s
act_raised c s Device lane number service apdu = refl
act_raised c s (Object object) lane number service apdu =
    row_raised c s number lane object apdu (slice_get c.objects object)

answer_raised : (c : ConfigState) (s : Standing) (to : IndAddr) (challenge : List ℕ) (kept : ℕ)
    → LeavesRaised (answer_transition c s to challenge kept) s
answer_raised c s to challenge kept =
    on_channel_raised c s (device_channel c to) (λ key number. answer_frame key c.address to number challenge kept)

verdict_raised : (c : ConfigState) (s : Standing) (source : IndAddr) (to : Addressee) (lane : Lane) (apdu : List ℕ)
    (said : Verdict)
    → LeavesRaised (verdict_transition c s source to lane apdu said) s
verdict_raised c s source to lane apdu (verdict.Accepted number service) = act_raised c s to lane number service apdu
verdict_raised c s source to lane apdu (verdict.SyncAsk number challenge) =
    answer_raised c s source challenge (mark_told c s source lane)
verdict_raised c s source to lane apdu (verdict.SyncAnswer number kept) = refl
verdict_raised c s source to lane apdu (verdict.NotFrame _) = refl
verdict_raised c s source to lane apdu (verdict.Control _) = refl
verdict_raised c s source to lane apdu (verdict.Plain _) = refl
verdict_raised c s source to lane apdu (verdict.BadSecure _) = refl
verdict_raised c s source to lane apdu verdict.NoKey = refl
verdict_raised c s source to lane apdu verdict.NoPending = refl
verdict_raised c s source to lane apdu (verdict.BadCode _) = refl
verdict_raised c s source to lane apdu (verdict.BadPayload _ _) = refl
verdict_raised c s source to lane apdu verdict.Sender = refl
verdict_raised c s source to lane apdu (verdict.Stale _ _) = refl
verdict_raised c s source to lane apdu verdict.Level = refl
verdict_raised c s source to lane apdu (verdict.Role _ _) = refl
verdict_raised c s source to lane apdu (verdict.Service _) = refl
verdict_raised c s source to lane apdu (verdict.Object _) = refl

after_append : (xs ys : List Raise) (n : Numbers) → after_raises (xs ++ ys) n ≡ after_raises ys (after_raises xs n)
after_append [] ys n = refl
after_append (x ∷ xs) ys n = after_append xs ys (after_raise x n)

lane_raised : (c : ConfigState) (s : Standing) (to : Addressee) (t : Telegram) (lane : Lane)
    → LeavesRaised (lane_transition c s to t lane) s
lane_raised c s to t lane =
    let mark = mark_at s.numbers.marks (place_in c lane) in
    let asked = asked_of s.pending (source_of t) in
    let raises = kept_raises (place_in c lane) (kept_by c.rows mark asked t) in
    let apdu = opened_by c.rows asked t in
    let said = verdict_of c.rows mark asked t in
    verdict_raised c (raised raises s) (source_of t) to lane apdu said
    ∙ sym (after_append raises (verdict_transition c (raised raises s) (source_of t) to lane apdu said).raises
    s.numbers)

telegram_raised : (c : ConfigState) (s : Standing) (t : Telegram) (to : Addressee) (lane : Option Lane)
    → LeavesRaised (telegram_transition c s t to lane) s
telegram_raised c s t to None = refl
telegram_raised c s t to (Some lane) = lane_raised c s to t lane

addressed_raised : (c : ConfigState) (s : Standing) (t : Telegram) (to : Option Addressee)
    → LeavesRaised (addressed_transition c s t to) s
addressed_raised c s t None = refl
addressed_raised c s t (Some to) = telegram_raised c s t to (lane_in c.rows t)

frame_raised : (c : ConfigState) (s : Standing) (fault : Option NotFrame) (t : Telegram)
    → LeavesRaised (frame_transition c s fault t) s
frame_raised c s (Some fault) t = refl
frame_raised c s None t = addressed_raised c s t (addressee c t)

pub receive_raised : (c : ConfigState) (s : Standing) (octets : List ℕ) → LeavesRaised (receive_transition c s octets) s
receive_raised c s octets = frame_raised c s (frame_fault octets) (frame_at octets)
