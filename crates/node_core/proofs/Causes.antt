-- What an outcome tells has its cause: by the cases of a transition.
use Rattle.std.proofs.Common.{◌≡◌, ℕ, ◌<◌, List, [], ◌∷◌, length, Bool, true, false, Option, Some, None, Result, Ok, Err, refl, sym, ap, subst, ◌∙◌, get_or, arith}
use Rattle.std.specs.Prelude.{◌↔◌, ◌^◌, ◌==◌, slice_get, position, if◌then◌else◌, IfSome}
use Rattle.std.specs.Option.{is_some, option_map, option_or}
use Rattle.std.proofs.lemmas.Bool.{eqb-true, eq-eqb, false≢true}
use Rattle.std.proofs.lemmas.Option.{none-some, slice_get-get_or, slice_get_within}
use Rattle.std.proofs.lemmas.List.Quantifiers.{position-Some}
use Rattle.knx_base.specs.declared.address.IndAddr.{IndAddr}
use Rattle.knx_base.specs.declared.address.GroupAddr.{GroupAddr}
use Rattle.cemi_frames.specs.Frames.{Telegram}
use Rattle.cemi_frames.specs.Faults.{frame_fault}
use Rattle.cemi_frames.specs.Reading.{frame_at}
use Rattle.cemi_frames.specs.declared.frame.NotFrame.{NotFrame}
use Rattle.nvm_model.specs.declared.fault.NvmFault.{NvmFault}
use Rattle.plain_apdu.specs.declared.object.BadObject.{BadObject}
use Rattle.plain_apdu.specs.declared.service.Service.{Service}
use Rattle.key_tables.specs.declared.types.Channel.{Channel}
use Rattle.key_tables.specs.declared.types.Channel.TheVariants as channel
use Rattle.key_tables.specs.declared.types.Lane.{Lane}
use Rattle.key_tables.specs.declared.types.Row.{Row}
use Rattle.key_tables.specs.Rows.{key_of, where_keyed, keyed, channel_of}
use Rattle.judge_rules.specs.declared.verdict.Verdict.{Verdict}
use Rattle.judge_rules.specs.declared.verdict.Verdict.TheVariants as verdict
use Rattle.judge_rules.specs.Parts.{is_group, has_tool_access, source_of, channel_in}
use Rattle.judge_rules.specs.Checks.{lane_in, verdict_of, kept_by, opened_by, is_good, is_ask, IsEntitled}
use Rattle.group_objects.specs.declared.row.ObjectRow.{ObjectRow}
use Rattle.group_objects.specs.declared.row.Effect.{Effect}
use Rattle.group_objects.specs.declared.row.Effect.TheVariants as effect
use Rattle.group_objects.specs.declared.service.SendService.TheVariants as service
use Rattle.group_objects.specs.Value.{ObjectValue}
use Rattle.group_objects.specs.Apdus.{service_apdu}
use Rattle.group_objects.specs.Effects.{accepted}
use Rattle.group_objects.specs.Objects.{is_of, place_of}
use Rattle.secure_apdu.specs.SealedFrame.{sealed_frame}
use Rattle.sync_service.specs.Frames.{answer_frame}
use Rattle.sync_service.specs.Open.{asked_of}
use Rattle.node_core.specs.declared.fault.SendFault.TheVariants as fault
use Rattle.node_core.specs.declared.outcome.Addressee.{Addressee}
use Rattle.node_core.specs.declared.outcome.Addressee.TheVariants.{Device, Object}
use Rattle.node_core.specs.declared.outcome.Outcome.{Outcome}
use Rattle.node_core.specs.declared.outcome.Outcome.TheVariants as outcome
use Rattle.node_core.specs.Standing.{ConfigState, Standing, raised, place_in, mark_at}
use Rattle.node_core.specs.Transition.{quiet}
use Rattle.node_core.specs.Sending.{sealing, under_key, on_channel, data_head, group_field, device_channel}
use Rattle.node_core.specs.Receiving.{addressee, kept_raises, number_sent, reply_transition, effect_transition, row_transition, act_transition, mark_told, verdict_transition, lane_transition, telegram_transition, addressed_transition, frame_transition, receive_transition}
use Rattle.node_core.specs.Laws.{IsForOthers, refusal_in, reply_in, HasItsCause}
use Rattle.node_core.specs.Node.{NodeState, receive_stop, Does}
use Rattle.node_core.proofs.Entitled.{good_is_entitled, ask_is_good, is_no_group}

-- ---- a reply has a number, unless all are drawn

drawn_where : (all : Bool) (frame : ℕ → List ℕ) (s : Standing) → (s.next == 2 ^ 48) ≡ all
    → (number_sent (if all then quiet s (Err fault.Exhausted) else sealing frame s).outcome ≡ None) ↔ (s.next ≡ 2 ^ 48)
drawn_where true frame s is = (λ none. eqb-true s.next (2 ^ 48) is, λ last. refl)
drawn_where false frame s is =
    (λ none. absurd cc, λ last. elim (false≢true (sym is ∙ eq-eqb s.next (2 ^ 48) last)) [ ])

keyed_where : (key : Option (List ℕ)) (frame : List ℕ → ℕ → List ℕ) (s : Standing) → is_some key ≡ true
    → (number_sent (under_key key frame s).outcome ≡ None) ↔ (s.next ≡ 2 ^ 48)
keyed_where None frame s is = absurd cc
keyed_where (Some key) frame s is = drawn_where (s.next == 2 ^ 48) (frame key) s refl

sent_where : (c : ConfigState) (s : Standing) (found : Option Channel) (channel : Channel) (frame : List ℕ → ℕ → List ℕ)
    → found ≡ Some channel → is_some (key_of c.rows channel) ≡ true
    → (number_sent (on_channel c s found frame).outcome ≡ None) ↔ (s.next ≡ 2 ^ 48)
sent_where c s found channel frame is has_key =
    subst (λ f. (number_sent (on_channel c s f frame).outcome ≡ None) ↔ (s.next ≡ 2 ^ 48)) (sym is)
    (keyed_where (key_of c.rows channel) frame s has_key)

-- ---- keys

keyed_has : (rows : List Row) (c found : Channel) (key : Option (List ℕ)) → where_keyed c key ≡ Some found
    → is_some key ≡ true
keyed_has rows c found None is = absurd cc
keyed_has rows c found (Some key) is = refl

-- the group of a telegram on a channel has a key
group_keyed : (rows : List Row) (group tool : Bool) (source : IndAddr) (destination : ℕ) (c : Channel) → group ≡ true
    → channel_of rows group tool source destination ≡ Some c
    → is_some (key_of rows (channel.Group (record { 0 = destination }))) ≡ true
unfolding channel_of
group_keyed rows true true source destination c is found = absurd cc
group_keyed rows true false source destination c is found =
    keyed_has rows (channel.Group (record { 0 = destination })) c
    (key_of rows (channel.Group (record { 0 = destination }))) found
group_keyed rows false tool source destination c is found = absurd cc

-- Of two devices each channel that one has is one that a telegram back may have.
back : (rows : List Row) (a b c : Channel) (of_a of_b : Option (List ℕ)) → key_of rows a ≡ of_a → key_of rows b ≡ of_b
    → option_or (where_keyed a of_a) (where_keyed b of_b) ≡ Some c
    → (d : Channel) × (option_or (where_keyed b of_b) (where_keyed a of_a) ≡ Some d) × (is_some (key_of rows d) ≡ true)
back rows a b c of_a (Some key) is_a is_b found = (b, refl, ap is_some is_b)
back rows a b c (Some key) None is_a is_b found = (a, refl, ap is_some is_a)
back rows a b c None None is_a is_b found = absurd cc

device_keyed : (rows : List Row) (node source : IndAddr) (group tool : Bool) (destination : ℕ) (c : Channel)
    → group ≡ false
    → destination ≡ node.0 → channel_of rows group tool source destination ≡ Some c
    → (d : Channel) × (channel_of rows false true node source.0 ≡ Some d) × (is_some (key_of rows d) ≡ true)
unfolding channel_of
device_keyed rows node source true tool destination c is_device is found = absurd cc
device_keyed rows node source false false destination c is_device is found = absurd cc
device_keyed rows node source false true destination c is_device is found =
    let to_node = subst (λ d. option_or (keyed rows (channel.Tool (record { 0 = d })))
    (keyed rows (channel.Tool source)) ≡ Some c) is found in
    back rows (channel.Tool node) (channel.Tool source) c (key_of rows (channel.Tool node))
    (key_of rows (channel.Tool source)) refl refl to_node

-- ---- objects

found_at : {A : Type 0} (p : A → Bool) (xs : List A) (place : ℕ) → position p xs ≡ Some place
    → (x : A) × (slice_get xs place ≡ Some x) × (p x ≡ true)
found_at p [] place is = absurd cc
found_at p (x ∷ xs) place is =
    let at = position-Some p (x ∷ xs) place x is in
    (get_or (x ∷ xs) place x, slice_get-get_or (x ∷ xs) place x at.0, at.1)

there : {A : Type 0} (xs : List A) (place : ℕ) → place < length xs → (x : A) × (slice_get xs place ≡ Some x)
there [] place inside = absurd (omega (arith, inside))
there (x ∷ xs) place inside = (get_or (x ∷ xs) place x, slice_get-get_or (x ∷ xs) place x inside)

abbrev place_or : ℕ → Option Addressee → ℕ
place_or other (Some (Object place)) = place
place_or other _ = other

to_object : (group own : Bool) (found : Option ℕ) (place : ℕ)
    → (if group then option_map Object found else if own then Some Device else None) ≡ Some (Object place)
    → (group ≡ true) × (found ≡ Some place)
to_object true own (Some found) place is = (refl, ap (λ to. Some (place_or found to)) is)
to_object true own None place is = absurd cc
to_object false true found place is = absurd cc
to_object false false found place is = absurd cc

to_device : (group own : Bool) (found : Option ℕ)
    → (if group then option_map Object found else if own then Some Device else None) ≡ Some Device
    → (group ≡ false) × (own ≡ true)
to_device true own (Some found) is = absurd cc
to_device true own None is = absurd cc
to_device false true found is = (refl, refl)
to_device false false found is = absurd cc

-- ---- what is told of a telegram for the node

abbrev is_ignored : Outcome → Bool
is_ignored outcome.Ignored = true
is_ignored _ = false

record Told (next : ℕ) (told : Outcome) : Type 0 where
  taken : is_ignored told ≡ false
  refused : IfSome (refusal_in told) (λ verdict. is_good verdict ≡ false)
  reply : IfSome (reply_in told) (λ reply. (reply ≡ None) ↔ (next ≡ 2 ^ 48))

-- there is such an object, its value, and a key for its group
record IsReadable (c : ConfigState) (s : Standing) (object : ℕ) : Type 0 where
  row : ObjectRow
  row_is : slice_get c.objects object ≡ Some row
  value : ObjectValue
  value_is : slice_get s.values object ≡ Some value

abbrev IsKeyed : ConfigState → ℕ → Type 0
IsKeyed c object =
    (row : ObjectRow) → slice_get c.objects object ≡ Some row → is_some (key_of c.rows (channel.Group row.group)) ≡ true

-- there is a key for a telegram to this device
record IsAnswerable (c : ConfigState) (to : IndAddr) : Type 0 where
  channel : Channel
  channel_is : device_channel c to ≡ Some channel
  has_key : is_some (key_of c.rows channel) ≡ true

reply_told : (c : ConfigState) (s : Standing) (number : ℕ) (lane : Lane) (object : ℕ) (group : GroupAddr)
    (value : ObjectValue)
    → is_some (key_of c.rows (channel.Group group)) ≡ true
    → Told s.next (reply_transition c s number lane object group (Some value)).outcome
reply_told c s number lane object group value has_key = record {
  taken = refl;
  refused = tt;
  reply = sent_where c s (Some (channel.Group group)) (channel.Group group)
      (λ key number. sealed_frame key (data_head c.address group.0 true (group_field c group) number)
      (service_apdu service.Response value)) refl has_key;
}

effect_told : (c : ConfigState) (s : Standing) (number : ℕ) (lane : Lane) (object : ℕ) (row : ObjectRow)
    (value : ObjectValue)
    → slice_get s.values object ≡ Some value → is_some (key_of c.rows (channel.Group row.group)) ≡ true
    → (effect : Result Effect BadObject) → Told s.next (effect_transition c s number lane object row effect).outcome
effect_told c s number lane object row value value_is has_key (Err bad) =
    record { taken = refl; refused = refl; reply = tt }
effect_told c s number lane object row value value_is has_key (Ok effect.Read) =
    subst (λ v. Told s.next (reply_transition c s number lane object row.group v).outcome) (sym value_is)
    (reply_told c s number lane object row.group value has_key)
effect_told c s number lane object row value value_is has_key (Ok (effect.Write _)) =
    record { taken = refl; refused = tt; reply = tt }
effect_told c s number lane object row value value_is has_key (Ok (effect.Response _)) =
    record { taken = refl; refused = tt; reply = tt }

object_told : (c : ConfigState) (s : Standing) (number : ℕ) (lane : Lane) (object : ℕ) (apdu : List ℕ)
    → IsReadable c s object → IsKeyed c object
    → Told s.next (row_transition c s number lane object apdu (slice_get c.objects object)).outcome
object_told c s number lane object apdu readable has_keys =
    subst (λ r. Told s.next (row_transition c s number lane object apdu r).outcome) (sym readable.row_is)
    (effect_told c s number lane object readable.row readable.value readable.value_is
    (has_keys readable.row readable.row_is)
    (accepted readable.row apdu))

act_told : (c : ConfigState) (s : Standing) (to : Addressee) (lane : Lane) (number : ℕ) (service : Service)
    (apdu : List ℕ)
    → ((object : ℕ) → to ≡ Object object → IsReadable c s object × IsKeyed c object)
    → Told s.next (act_transition c s to lane number service apdu).outcome
act_told c s Device lane number service apdu of_object = record { taken = refl; refused = tt; reply = tt }
act_told c s (Object object) lane number service apdu of_object =
    object_told c s number lane object apdu (of_object object refl).0 (of_object object refl).1

answer_told : (c : ConfigState) (s : Standing) (source : IndAddr) (lane : Lane) (number : ℕ) (challenge : List ℕ)
    (to : Addressee)
    (apdu : List ℕ) → IsAnswerable c source
    → Told s.next (verdict_transition c s source to lane apdu (verdict.SyncAsk number challenge)).outcome
answer_told c s source lane number challenge to apdu answerable = record {
  taken = refl;
  refused = tt;
  reply = sent_where c s (device_channel c source) answerable.channel
      (λ key number. answer_frame key c.address source number challenge (mark_told c s source lane))
      answerable.channel_is answerable.has_key;
}

verdict_told : (c : ConfigState) (s : Standing) (source : IndAddr) (to : Addressee) (lane : Lane) (apdu : List ℕ)
    (said : Verdict)
    → (is_good said ≡ true → (object : ℕ) → to ≡ Object object → IsReadable c s object × IsKeyed c object)
    → (is_ask said ≡ true → IsAnswerable c source)
    → Told s.next (verdict_transition c s source to lane apdu said).outcome
verdict_told c s source to lane apdu (verdict.Accepted number service) of_object answerable =
    act_told c s to lane number service apdu (of_object refl)
verdict_told c s source to lane apdu (verdict.SyncAsk number challenge) of_object answerable =
    answer_told c s source lane number challenge to apdu (answerable refl)
verdict_told c s source to lane apdu (verdict.SyncAnswer number kept) of_object answerable =
    record { taken = refl; refused = tt; reply = tt }
verdict_told c s source to lane apdu (verdict.NotFrame _) of_object answerable =
    record { taken = refl; refused = refl; reply = tt }
verdict_told c s source to lane apdu (verdict.Control _) of_object answerable =
    record { taken = refl; refused = refl; reply = tt }
verdict_told c s source to lane apdu (verdict.Plain _) of_object answerable =
    record { taken = refl; refused = refl; reply = tt }
verdict_told c s source to lane apdu (verdict.BadSecure _) of_object answerable =
    record { taken = refl; refused = refl; reply = tt }
verdict_told c s source to lane apdu verdict.NoKey of_object answerable =
    record { taken = refl; refused = refl; reply = tt }
verdict_told c s source to lane apdu verdict.NoPending of_object answerable =
    record { taken = refl; refused = refl; reply = tt }
verdict_told c s source to lane apdu (verdict.BadCode _) of_object answerable =
    record { taken = refl; refused = refl; reply = tt }
verdict_told c s source to lane apdu (verdict.BadPayload _ _) of_object answerable =
    record { taken = refl; refused = refl; reply = tt }
verdict_told c s source to lane apdu verdict.Sender of_object answerable =
    record { taken = refl; refused = refl; reply = tt }
verdict_told c s source to lane apdu (verdict.Stale _ _) of_object answerable =
    record { taken = refl; refused = refl; reply = tt }
verdict_told c s source to lane apdu verdict.Level of_object answerable =
    record { taken = refl; refused = refl; reply = tt }
verdict_told c s source to lane apdu (verdict.Role _ _) of_object answerable =
    record { taken = refl; refused = refl; reply = tt }
verdict_told c s source to lane apdu (verdict.Service _) of_object answerable =
    record { taken = refl; refused = refl; reply = tt }
verdict_told c s source to lane apdu (verdict.Object _) of_object answerable =
    record { taken = refl; refused = refl; reply = tt }

-- ---- of a telegram

-- the standing has a value for each object
abbrev pub HasValues : ConfigState → Standing → Type 0
HasValues c s = length s.values ≡ length c.objects

readable : (c : ConfigState) (s : Standing) (t : Telegram) (to : Addressee) (object : ℕ) → HasValues c s
    → addressee c t ≡ Some to
    → to ≡ Object object → IsReadable c s object
readable c s t to object has_values is_for is_object =
    let parts =
    to_object (is_group t) (t.destination == c.address.0) (place_of (record { 0 = t.destination }) c.objects) object
    (is_for ∙ ap Some is_object) in
    let row = found_at (is_of (record { 0 = t.destination })) c.objects object parts.1 in
    let inside = slice_get_within c.objects object row.0 row.1 in
    let value = there s.values object (subst (λ n. object < n) (sym has_values) inside) in
    record { row = row.0; row_is = row.1; value = value.0; value_is = value.1 }

abbrev row_or : ObjectRow → Option ObjectRow → ObjectRow
row_or other None = other
row_or other (Some row) = row

channel_parts : (rows : List Row) (t : Telegram) (c : Channel) → channel_in rows t ≡ Some c
    → channel_of rows (is_group t) (has_tool_access t) (source_of t) t.destination ≡ Some c
unfolding channel_in
channel_parts rows t c is = is

group_has_key : (c : ConfigState) (t : Telegram) (to : Addressee) (object : ℕ) → addressee c t ≡ Some to
    → to ≡ Object object
    → IsEntitled c.rows t → IsKeyed c object
group_has_key c t to object is_for is_object entitled row row_is =
    let group : GroupAddr = record { 0 = t.destination } in
    let parts = to_object (is_group t) (t.destination == c.address.0) (place_of group c.objects) object
    (is_for ∙ ap Some is_object) in
    let found = found_at (is_of group) c.objects object parts.1 in
    let same = ap (row_or row) (sym found.1 ∙ row_is) in
    let is_its =
    eqb-true row.group.0 t.destination (ap (λ (r : ObjectRow). r.group.0 == t.destination) (sym same) ∙ found.2) in
    subst (λ n. is_some (key_of c.rows (channel.Group (record { 0 = n }))) ≡ true) (sym is_its)
    (group_keyed c.rows (is_group t) (has_tool_access t) (source_of t) t.destination entitled.channel parts.0
    (channel_parts c.rows t entitled.channel entitled.channel_is))

-- A request is for the node itself.
answerable : (c : ConfigState) (t : Telegram) (to : Addressee) → addressee c t ≡ Some to → is_group t ≡ false
    → IsEntitled c.rows t
    → IsAnswerable c (source_of t)
answerable c t (Object object) is_for no_group entitled =
    let parts = to_object (is_group t) (t.destination == c.address.0)
    (place_of (record { 0 = t.destination }) c.objects) object is_for in
    elim (false≢true (sym no_group ∙ parts.0)) [ ]
answerable c t Device is_for no_group entitled =
    let parts = to_device (is_group t) (t.destination == c.address.0)
    (place_of (record { 0 = t.destination }) c.objects) is_for in
    let found = device_keyed c.rows c.address (source_of t) (is_group t) (has_tool_access t) t.destination
    entitled.channel parts.0
    (eqb-true t.destination c.address.0 parts.1) (channel_parts c.rows t entitled.channel entitled.channel_is) in
    record { channel = found.0; channel_is = found.1; has_key = found.2 }

lane_told : (c : ConfigState) (s : Standing) (to : Addressee) (t : Telegram) (lane : Lane) → HasValues c s
    → addressee c t ≡ Some to
    → Told s.next (lane_transition c s to t lane).outcome
lane_told c s to t lane has_values is_for =
    let mark = mark_at s.numbers.marks (place_in c lane) in
    let asked = asked_of s.pending (source_of t) in
    let raises = kept_raises (place_in c lane) (kept_by c.rows mark asked t) in
    let said = verdict_of c.rows mark asked t in
    verdict_told c (raised raises s) (source_of t) to lane (opened_by c.rows asked t) said
    (λ good object is_object. (
      readable c (raised raises s) t to object has_values is_for is_object,
      group_has_key c t to object is_for is_object (good_is_entitled c.rows mark asked t good),
    ))
    (λ is_request. answerable c t to is_for (is_no_group c.rows mark asked t is_request)
    (good_is_entitled c.rows mark asked t (ask_is_good said is_request)))

bad_told : (next : ℕ) (said : Verdict) (good : Bool) → is_good said ≡ good → (is_good said ≡ true → ⊥)
    → Told next (outcome.Refused said)
bad_told next said true is never = elim (never is) [ ]
bad_told next said false is never = record { taken = refl; refused = is; reply = tt }

telegram_told : (c : ConfigState) (s : Standing) (t : Telegram) (to : Addressee) (lane : Option Lane) → HasValues c s
    → addressee c t ≡ Some to → lane_in c.rows t ≡ lane → Told s.next (telegram_transition c s t to lane).outcome
telegram_told c s t to None has_values is_for is_lane =
    let asked = asked_of s.pending (source_of t) in
    let said = verdict_of c.rows 0 asked t in
    bad_told s.next said (is_good said) refl
    (λ good. none-some _ (sym is_lane ∙ (good_is_entitled c.rows 0 asked t good).lane_is))
telegram_told c s t to (Some lane) has_values is_for is_lane = lane_told c s to t lane has_values is_for

-- ---- of octets

taken_cause : (c : ConfigState) (next : ℕ) (octets : List ℕ) (told : Outcome) → Told next told
    → (IsForOthers c octets → ⊥)
    → HasItsCause c next octets told
taken_cause c next octets told is not_others = record {
  ignored =
      (λ ignored. elim (false≢true (sym is.taken ∙ ap is_ignored ignored)) [ ], λ others. elim (not_others others) [ ]);
  refused = is.refused;
  reply = is.reply;
}

addressed_cause : (c : ConfigState) (s : Standing) (octets : List ℕ) (to : Option Addressee) → HasValues c s
    → frame_fault octets ≡ None → addressee c (frame_at octets) ≡ to
    → HasItsCause c s.next octets (addressed_transition c s (frame_at octets) to).outcome
addressed_cause c s octets None has_values is_frame is_for =
    record { ignored = (λ _. (is_frame, is_for), λ _. refl); refused = tt; reply = tt }
addressed_cause c s octets (Some to) has_values is_frame is_for =
    taken_cause c s.next octets (telegram_transition c s (frame_at octets) to
    (lane_in c.rows (frame_at octets))).outcome
    (telegram_told c s (frame_at octets) to (lane_in c.rows (frame_at octets)) has_values is_for refl)
    (λ others. none-some to (sym others.1 ∙ is_for))

frame_cause : (c : ConfigState) (s : Standing) (octets : List ℕ) (fault : Option NotFrame) → HasValues c s
    → frame_fault octets ≡ fault
    → HasItsCause c s.next octets (frame_transition c s fault (frame_at octets)).outcome
frame_cause c s octets (Some fault) has_values is =
    taken_cause c s.next octets (outcome.Refused (verdict.NotFrame fault))
    (record { taken = refl; refused = refl; reply = tt })
    (λ others. none-some fault (sym others.0 ∙ is))
frame_cause c s octets None has_values is =
    addressed_cause c s octets (addressee c (frame_at octets)) has_values is refl

pub transition_has_cause : (c : ConfigState) (s : Standing) (octets : List ℕ) → HasValues c s
    → HasItsCause c s.next octets (receive_transition c s octets).outcome
transition_has_cause c s octets has_values = frame_cause c s octets (frame_fault octets) has_values refl

-- ---- of what a call answers

frame_raises : (c : ConfigState) (s : Standing) (octets : List ℕ) (fault : Option NotFrame) (to : Option Addressee)
    → frame_fault octets ≡ fault → addressee c (frame_at octets) ≡ to → fault ≡ None → to ≡ None
    → (receive_transition c s octets).raises ≡ []
frame_raises c s octets fault to is_fault is_to no_fault nobody =
    ap (λ f. (frame_transition c s f (frame_at octets)).raises) (is_fault ∙ no_fault)
    ∙ ap (λ to. (addressed_transition c s (frame_at octets) to).raises) (is_to ∙ nobody)

abbrev stopped_or : NvmFault → Option NvmFault → Outcome
stopped_or other None = outcome.Stopped other
stopped_or other (Some stop) = outcome.Stopped stop

stopped_by : (told : Outcome) (stop : NvmFault) → receive_stop told ≡ Some stop → told ≡ outcome.Stopped stop
stopped_by outcome.Ignored stop is = absurd cc
stopped_by (outcome.Refused _) stop is = absurd cc
stopped_by (outcome.Acted _ _ _) stop is = absurd cc
stopped_by (outcome.Answered _ _) stop is = absurd cc
stopped_by (outcome.Synced _ _ _) stop is = absurd cc
stopped_by (outcome.Stopped other) stop is = ap (stopped_or other) is

stop_cause : {M : Type 0} (c : ConfigState) (s : Standing) (octets : List ℕ) (result : Outcome) (stop : Option NvmFault)
    {old new : NodeState M}
    {out out' : List ℕ} → HasValues c s → receive_stop result ≡ stop
    → Does (receive_transition c s octets) (receive_stop result) result old new out out'
    → HasItsCause c s.next octets result
stop_cause c s octets result None has_values is does =
    subst (HasItsCause c s.next octets) (sym (does.done is).outcome_is) (transition_has_cause c s octets has_values)
stop_cause c s octets result (Some stop) has_values is does =
    let raising = (does.stopped (λ none. none-some stop (sym none ∙ is))).was_raising in
    subst (HasItsCause c s.next octets) (sym (stopped_by result stop is))
    (taken_cause c s.next octets (outcome.Stopped stop) (record { taken = refl; refused = tt; reply = tt })
    (λ others. raising (frame_raises c s octets (frame_fault octets) (addressee c (frame_at octets)) refl refl others.0
    others.1)))

pub outcome_has_cause : {M : Type 0} {old new : NodeState M} {out out' : List ℕ} (c : ConfigState) (s : Standing)
    (octets : List ℕ) (result : Outcome)
    → HasValues c s → Does (receive_transition c s octets) (receive_stop result) result old new out out'
    → HasItsCause c s.next octets result
outcome_has_cause c s octets result has_values does =
    stop_cause c s octets result (receive_stop result) has_values refl does
