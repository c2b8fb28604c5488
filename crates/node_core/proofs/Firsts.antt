-- What is acted on is above the mark of its lane, and that mark is raised first.
use Rattle.std.proofs.Common.{◌≡◌, ℕ, ◌<◌, ◌++◌, List, [], ◌∷◌, Bool, true, false, Option, Some, None, Result, Ok, Err, refl, sym, ap, subst, ◌∙◌}
use Rattle.std.specs.Prelude.{◌==◌, nat_lt, slice_get, if◌then◌else◌}
use Rattle.std.specs.Option.{is_some}
use Rattle.std.proofs.lemmas.Bool.{eqb-true, ltb-true}
use Rattle.knx_base.specs.declared.address.IndAddr.{IndAddr}
use Rattle.knx_base.specs.declared.address.GroupAddr.{GroupAddr}
use Rattle.cemi_frames.specs.Frames.{Telegram}
use Rattle.cemi_frames.specs.Faults.{frame_fault}
use Rattle.cemi_frames.specs.Reading.{frame_at}
use Rattle.cemi_frames.specs.declared.frame.NotFrame.{NotFrame}
use Rattle.plain_apdu.specs.declared.object.BadObject.{BadObject}
use Rattle.plain_apdu.specs.declared.service.Service.{Service}
use Rattle.key_tables.specs.declared.types.Channel.{Channel}
use Rattle.key_tables.specs.declared.types.Lane.{Lane}
use Rattle.key_tables.specs.declared.types.Row.{Row}
use Rattle.key_tables.specs.Rows.{lane_of}
use Rattle.key_tables.specs.Lanes.{same_lane, SendersHaveLanes}
use Rattle.judge_rules.specs.declared.verdict.Verdict.{Verdict}
use Rattle.judge_rules.specs.declared.verdict.Verdict.TheVariants as verdict
use Rattle.judge_rules.specs.Parts.{source_of, sync_service, number_in, channel_in, service_in}
use Rattle.judge_rules.specs.Checks.{Kept, first_failing, entry_checks, check_stale, data_checks, apdu_in, key_on, on_channel, lane_in, verdict_of, kept_of, kept_on, kept_by, opened_by, is_good}
use Rattle.secure_apdu.specs.Sync.{sync_values}
use Rattle.group_objects.specs.declared.row.ObjectRow.{ObjectRow}
use Rattle.group_objects.specs.declared.row.Effect.{Effect}
use Rattle.group_objects.specs.declared.row.Effect.TheVariants as effect
use Rattle.group_objects.specs.Value.{ObjectValue}
use Rattle.group_objects.specs.Effects.{accepted}
use Rattle.sync_service.specs.Open.{asked_of}
use Rattle.node_core.specs.declared.outcome.Act.{Act}
use Rattle.node_core.specs.declared.outcome.Addressee.{Addressee}
use Rattle.node_core.specs.declared.outcome.Addressee.TheVariants.{Device, Object}
use Rattle.node_core.specs.declared.outcome.Outcome.{Outcome}
use Rattle.node_core.specs.declared.outcome.Outcome.TheVariants as outcome
use Rattle.node_core.specs.Standing.{ConfigState, Standing, raised, place_in, mark_at}
use Rattle.node_core.specs.Receiving.{addressee, kept_raises, reply_transition, effect_transition, row_transition, act_transition, verdict_transition, lane_transition, telegram_transition, addressed_transition, frame_transition}
use Rattle.node_core.specs.Config.{configured, groups_of}
use Rattle.node_core.specs.Laws.{KeepsOnLanes, IsRaisedFirst, RaisesBeforeActing}
use Rattle.node_core.proofs.Entitled.{passes, good_is_entitled}
use Rattle.node_core.proofs.Keeping.{keeps_on_lanes}
use Rattle.node_core.proofs.Starting.{there_where}

-- ---- number and lane of what is acted on are those of the telegram

-- what is acted on, if anything
abbrev acted_part : Outcome → Option (ℕ × Lane)
acted_part (outcome.Acted number lane _) = Some (number, lane)
acted_part _ = None

abbrev value_or : {A : Type 0} → A → Option A → A
value_or other None = other
value_or other (Some value) = value

some_same : {A : Type 0} (x y : A) → Some x ≡ Some y → x ≡ y
some_same x y is = ap (value_or x) is

abbrev Is : ℕ → Lane → Outcome → Type 0
Is number lane told = (part : ℕ × Lane) → acted_part told ≡ Some part → part ≡ (number, lane)

it_is : (number : ℕ) (lane : Lane) (part : ℕ × Lane) → Some (number, lane) ≡ Some part → part ≡ (number, lane)
it_is number lane part is = sym (some_same (number, lane) part is)

reply_acts : (c : ConfigState) (s : Standing) (number : ℕ) (lane : Lane) (object : ℕ) (group : GroupAddr)
    (value : Option ObjectValue)
    → Is number lane (reply_transition c s number lane object group value).outcome
reply_acts c s number lane object group (Some value) part is = it_is number lane part is
reply_acts c s number lane object group None part is = absurd cc

effect_acts : (c : ConfigState) (s : Standing) (number : ℕ) (lane : Lane) (object : ℕ) (row : ObjectRow)
    (effect : Result Effect BadObject)
    → Is number lane (effect_transition c s number lane object row effect).outcome
effect_acts c s number lane object row (Err bad) part is = absurd cc
effect_acts c s number lane object row (Ok effect.Read) part is =
    reply_acts c s number lane object row.group (slice_get s.values object) part is
effect_acts c s number lane object row (Ok (effect.Write value)) part is = it_is number lane part is
effect_acts c s number lane object row (Ok (effect.Response value)) part is = it_is number lane part is

row_acts : (c : ConfigState) (s : Standing) (number : ℕ) (lane : Lane) (object : ℕ) (apdu : List ℕ)
    (row : Option ObjectRow)
    → Is number lane (row_transition c s number lane object apdu row).outcome
row_acts c s number lane object apdu (Some row) part is =
    effect_acts c s number lane object row (accepted row apdu) part is
row_acts c s number lane object apdu None part is = absurd cc

act_acts : (c : ConfigState) (s : Standing) (to : Addressee) (lane : Lane) (number : ℕ) (service : Service)
    (apdu : List ℕ)
    → Is number lane (act_transition c s to lane number service apdu).outcome
act_acts c s Device lane number service apdu part is = it_is number lane part is
act_acts c s (Object object) lane number service apdu part is =
    row_acts c s number lane object apdu (slice_get c.objects object) part is

-- Only an accepted telegram is acted on.
record IsAccepted (said : Verdict) (lane : Lane) (part : ℕ × Lane) : Type 0 where
  service : Service
  said_is : said ≡ verdict.Accepted part.0 service
  lane_is : lane ≡ part.1

verdict_acts : (c : ConfigState) (s : Standing) (source : IndAddr) (to : Addressee) (lane : Lane) (apdu : List ℕ)
    (said : Verdict)
    (part : ℕ × Lane) → acted_part (verdict_transition c s source to lane apdu said).outcome ≡ Some part
    → IsAccepted said lane part
verdict_acts c s source to lane apdu (verdict.Accepted number service) part is =
    let same = act_acts c s to lane number service apdu part is in
    record {
      service = service;
      said_is = ap (λ (p : ℕ × Lane). verdict.Accepted p.0 service) (sym same);
      lane_is = ap (λ (p : ℕ × Lane). p.1) (sym same);
    }
verdict_acts c s source to lane apdu (verdict.SyncAsk _ _) part is = absurd cc
verdict_acts c s source to lane apdu (verdict.SyncAnswer _ _) part is = absurd cc
verdict_acts c s source to lane apdu (verdict.NotFrame _) part is = absurd cc
verdict_acts c s source to lane apdu (verdict.Control _) part is = absurd cc
verdict_acts c s source to lane apdu (verdict.Plain _) part is = absurd cc
verdict_acts c s source to lane apdu (verdict.BadSecure _) part is = absurd cc
verdict_acts c s source to lane apdu verdict.NoKey part is = absurd cc
verdict_acts c s source to lane apdu verdict.NoPending part is = absurd cc
verdict_acts c s source to lane apdu (verdict.BadCode _) part is = absurd cc
verdict_acts c s source to lane apdu (verdict.BadPayload _ _) part is = absurd cc
verdict_acts c s source to lane apdu verdict.Sender part is = absurd cc
verdict_acts c s source to lane apdu (verdict.Stale _ _) part is = absurd cc
verdict_acts c s source to lane apdu verdict.Level part is = absurd cc
verdict_acts c s source to lane apdu (verdict.Role _ _) part is = absurd cc
verdict_acts c s source to lane apdu (verdict.Service _) part is = absurd cc
verdict_acts c s source to lane apdu (verdict.Object _) part is = absurd cc

-- ---- an accepted telegram is kept

abbrev number_or : ℕ → Verdict → ℕ
number_or other (verdict.Accepted number _) = number
number_or other _ = other

data_by : (is_data is_request : Bool) (number n kept : ℕ) (service service' : Service) (challenge : List ℕ)
    → (if is_data then verdict.Accepted number service
    else if is_request then verdict.SyncAsk number challenge else verdict.SyncAnswer number kept)
    ≡ verdict.Accepted n service'
    → (is_data ≡ true) × (number ≡ n)
data_by true is_request number n kept service service' challenge is = (refl, ap (number_or number) is)
data_by false true number n kept service service' challenge is = absurd cc
data_by false false number n kept service service' challenge is = absurd cc

first_passes : (first : Option Verdict) (rest : List (Option Verdict)) → first_failing (first ∷ rest) ≡ None
    → first ≡ None
first_passes None rest is = refl
first_passes (Some failed) rest is = absurd cc

above_by : (above : Bool) (failed : Verdict) → (if above then None else Some failed) ≡ None → above ≡ true
above_by true failed is = refl
above_by false failed is = absurd cc

last_by : (is_data : Bool) (checks : List (Option Verdict)) → is_data ≡ true
    → first_failing (if is_data then checks else []) ≡ None
    → first_failing checks ≡ None
last_by true checks is passed = passed
last_by false checks is passed = absurd cc

-- what is kept where no check up to the code fails
kept_where : (entry : Option Verdict) (found : Option Channel) (of : Channel → Kept) (c : Channel) → entry ≡ None
    → found ≡ Some c
    → (if is_some entry then None else on_channel None found of) ≡ of c
kept_where entry found of c passed is =
    ap (λ e. if is_some e then None else on_channel None found of) passed ∙ ap (λ f. on_channel None f of) is

record IsKeptAbove (rows : List Row) (mark : ℕ) (asked : Option (List ℕ)) (t : Telegram) (lane : Lane)
    (number : ℕ) : Type 0 where
  kept : kept_by rows mark asked t ≡ Some (lane, number)
  above : mark < number

is_kept_above : (rows : List Row) (mark number : ℕ) (asked : Option (List ℕ)) (t : Telegram) (service : Service)
    (lane : Lane)
    → verdict_of rows mark asked t ≡ verdict.Accepted number service → lane_in rows t ≡ Some lane
    → IsKeptAbove rows mark asked t lane number
unfolding kept_by
is_kept_above rows mark number asked t service lane said lane_is =
    let p = passes rows mark asked t (ap is_good said) in
    let n = number_in asked t in
    let c = p.channel in
    let apdu = apdu_in (key_on rows c) n t in
    let of_data = data_by (sync_service t == 0) (sync_service t == 2) n number (sync_values apdu).1 (service_in apdu)
    service apdu (sym p.verdict_is ∙ said) in
    let checks = data_checks rows mark n c t apdu in
    let passed = last_by (sync_service t == 0) checks of_data.0 p.last in
    let above = above_by (nat_lt mark n) (verdict.Stale mark n) (first_passes (check_stale mark n) _ passed) in
    let entitled = good_is_entitled rows mark asked t (ap is_good said) in
    let same_channel = some_same c entitled.channel (sym p.channel_is ∙ entitled.channel_is) in
    let is_lane = ap (λ c. lane_of c (source_of t)) same_channel
    ∙ some_same (lane_of entitled.channel (source_of t)) lane (sym entitled.lane_is ∙ lane_is) in
    let no_request : (sync_service t == 2) ≡ false = ap (λ k. k == 2) (eqb-true (sync_service t) 0 of_data.0) in
    record {
      kept = kept_where (first_failing (entry_checks rows asked t)) (channel_in rows t) (λ c. kept_on rows mark n c t) c
          p.entered p.channel_is
          ∙ ap (λ f. if is_some f then None else kept_of mark n c t) p.coded
          ∙ ap (λ b. if b then None else if nat_lt mark n then Some (lane_of c (source_of t), n) else None) no_request
          ∙ ap (λ b. if b then Some (lane_of c (source_of t), n) else None) above
          ∙ ap (λ l. Some (l, n)) is_lane ∙ ap (λ m. Some (lane, m)) of_data.1;
      above = subst (λ m. mark < m) of_data.1 (ltb-true mark n above);
    }

-- ---- so its mark is raised first

some_place : (found : Option ℕ) → is_some found ≡ true → (place : ℕ) × (found ≡ Some place)
some_place (Some place) is = (place, refl)
some_place None is = absurd cc

lane_first : (c : ConfigState) (s : Standing) (to : Addressee) (t : Telegram) (lane its : Lane) (number : ℕ) (act : Act)
    → KeepsOnLanes c
    → addressee c t ≡ Some to → lane_in c.rows t ≡ Some lane
    → (lane_transition c s to t lane).outcome ≡ outcome.Acted number its act
    → IsRaisedFirst c s (lane_transition c s to t lane) its number
lane_first c s to t lane its number act keeps is_for is_lane acted =
    let place = place_in c lane in
    let mark = mark_at s.numbers.marks place in
    let asked = asked_of s.pending (source_of t) in
    let raises = kept_raises place (kept_by c.rows mark asked t) in
    let apdu = opened_by c.rows asked t in
    let said = verdict_of c.rows mark asked t in
    let rest = (verdict_transition c (raised raises s) (source_of t) to lane apdu said).raises in
    let part = verdict_acts c (raised raises s) (source_of t) to lane apdu said (number, its) (ap acted_part acted) in
    let kept = is_kept_above c.rows mark number asked t part.service lane part.said_is is_lane in
    let on = keeps t mark asked (lane, number) (ap is_some is_for) kept.kept in
    let found = some_place place (there_where (same_lane lane) c.lanes ∙ on) in
    subst (λ l. IsRaisedFirst c s (lane_transition c s to t lane) l number) part.lane_is (record {
      place = found.0;
      place_is = found.1;
      above = subst (λ m. m < number) (ap (mark_at s.numbers.marks) found.1) kept.above;
      others = rest;
      raises_are = ap (λ k. kept_raises place k ++ rest) kept.kept
          ∙ ap (λ p. kept_raises p (Some (lane, number)) ++ rest) found.1;
    })

telegram_first : (c : ConfigState) (s : Standing) (t : Telegram) (to : Addressee) (lane : Option Lane) (its : Lane)
    (number : ℕ) (act : Act)
    → KeepsOnLanes c → addressee c t ≡ Some to → lane_in c.rows t ≡ lane
    → (telegram_transition c s t to lane).outcome ≡ outcome.Acted number its act
    → IsRaisedFirst c s (telegram_transition c s t to lane) its number
telegram_first c s t to None its number act keeps is_for is_lane acted = absurd cc
telegram_first c s t to (Some lane) its number act keeps is_for is_lane acted =
    lane_first c s to t lane its number act keeps is_for is_lane acted

addressed_first : (c : ConfigState) (s : Standing) (t : Telegram) (to : Option Addressee) (its : Lane) (number : ℕ)
    (act : Act)
    → KeepsOnLanes c → addressee c t ≡ to → (addressed_transition c s t to).outcome ≡ outcome.Acted number its act
    → IsRaisedFirst c s (addressed_transition c s t to) its number
addressed_first c s t None its number act keeps is_for acted = absurd cc
addressed_first c s t (Some to) its number act keeps is_for acted =
    telegram_first c s t to (lane_in c.rows t) its number act keeps is_for refl acted

frame_first : (c : ConfigState) (s : Standing) (t : Telegram) (fault : Option NotFrame) (its : Lane) (number : ℕ)
    (act : Act)
    → KeepsOnLanes c → (frame_transition c s fault t).outcome ≡ outcome.Acted number its act
    → IsRaisedFirst c s (frame_transition c s fault t) its number
frame_first c s t (Some fault) its number act keeps acted = absurd cc
frame_first c s t None its number act keeps acted =
    addressed_first c s t (addressee c t) its number act keeps refl acted

raises_before_acting : (c : ConfigState) → KeepsOnLanes c → RaisesBeforeActing c
raises_before_acting c keeps s octets number its act acted =
    frame_first c s (frame_at octets) (frame_fault octets) its number act keeps acted

pub raises_first : (address : IndAddr) (rows : List Row) (objects : List ObjectRow)
    → SendersHaveLanes rows address (groups_of objects)
    → RaisesBeforeActing (configured address rows objects)
raises_first address rows objects senders =
    raises_before_acting (configured address rows objects) (keeps_on_lanes address rows objects senders)
