-- What a call of a node makes of its numbers, told by its outcome: by the cases of its transition.
use Rattle.std.proofs.Common.{◌≡◌, ◌≢◌, ℕ, ◌+◌, ◌<◌, ◌≤◌, List, [], ◌∷◌, ◌++◌, length, nat_lt, Bool, true, false, Option, Some, None, Result, Ok, Err, refl, sym, ap, subst, ◌∙◌, arith}
use Rattle.std.specs.Prelude.{◌^◌, ◌-◌, ◌==◌, ◌&&◌, nat_le, min, slice_get, slice_index, if◌then◌else◌, IfSome}
use Rattle.std.proofs.lemmas.Bool.Decides.{nat_tests}
use Rattle.std.proofs.lemmas.Bool.{eq-eqb, false≢true}
use Rattle.knx_base.specs.declared.address.IndAddr.{IndAddr}
use Rattle.knx_base.specs.declared.address.GroupAddr.{GroupAddr}
use Rattle.cemi_frames.specs.Frames.{Telegram}
use Rattle.cemi_frames.specs.Faults.{frame_fault}
use Rattle.cemi_frames.specs.Reading.{frame_at}
use Rattle.cemi_frames.specs.declared.frame.NotFrame.{NotFrame}
use Rattle.plain_apdu.specs.declared.object.BadObject.{BadObject}
use Rattle.plain_apdu.specs.declared.service.Service.{Service}
use Rattle.key_tables.specs.declared.types.Channel.{Channel}
use Rattle.key_tables.specs.declared.types.Channel.TheVariants as channel
use Rattle.key_tables.specs.declared.types.Lane.{Lane}
use Rattle.key_tables.specs.Rows.{key_of}
use Rattle.judge_rules.specs.declared.verdict.Verdict.{Verdict}
use Rattle.judge_rules.specs.declared.verdict.Verdict.TheVariants as verdict
use Rattle.judge_rules.specs.Parts.{source_of}
use Rattle.judge_rules.specs.Checks.{Kept, lane_in, verdict_of, kept_by, opened_by}
use Rattle.judge_rules.proofs.Keeping.{keeps_above}
use Rattle.nvm_model.specs.declared.fault.NvmFault.{NvmFault}
use Rattle.nvm_model.specs.declared.fault.NvmFault.TheVariants as nvm
use Rattle.secure_apdu.specs.SealedFrame.{sealed_frame}
use Rattle.seq_store.specs.Draws.{reservation_for}
use Rattle.seq_store.specs.Runs.{Numbers, Raise, Reserve, Mark, after_raises, draw_raises}
use Rattle.group_objects.specs.declared.row.ObjectRow.{ObjectRow}
use Rattle.group_objects.specs.declared.row.Effect.{Effect}
use Rattle.group_objects.specs.declared.row.Effect.TheVariants as effect
use Rattle.group_objects.specs.declared.service.SendService.{SendService}
use Rattle.group_objects.specs.declared.service.SendService.TheVariants as service
use Rattle.group_objects.specs.declared.objects.SetFault.{SetFault}
use Rattle.group_objects.specs.declared.objects.SetFault.TheVariants as refused
use Rattle.group_objects.specs.Value.{ObjectValue}
use Rattle.group_objects.specs.Apdus.{service_apdu}
use Rattle.group_objects.specs.Effects.{accepted}
use Rattle.group_objects.specs.Objects.{set_refusal}
use Rattle.sync_service.specs.Frames.{ask_frame, answer_frame}
use Rattle.sync_service.specs.Open.{asked_of}
use Rattle.sync_service.specs.declared.pending.OpenChallenge.{OpenChallenge}
use Rattle.node_core.specs.declared.fault.SendFault.{SendFault}
use Rattle.node_core.specs.declared.fault.SendFault.TheVariants as fault
use Rattle.node_core.specs.declared.outcome.Act.{Act}
use Rattle.node_core.specs.declared.outcome.Act.TheVariants as act
use Rattle.node_core.specs.declared.outcome.Addressee.{Addressee}
use Rattle.node_core.specs.declared.outcome.Addressee.TheVariants.{Device, Object}
use Rattle.node_core.specs.declared.outcome.Outcome.TheVariants as received
use Rattle.node_core.specs.Standing.{ConfigState, Standing, raised, with_value, place_in, mark_at}
use Rattle.node_core.specs.Transition.{Transition, quiet}
use Rattle.node_core.specs.Sending.{sealing, under_key, on_channel, data_head, group_field, tool_field, group_transition, object_transition, device_channel, with_pending, ask_transition, set_unless}
use Rattle.node_core.specs.Receiving.{addressee, kept_raises, number_sent, reply_transition, effect_transition, row_transition, act_transition, mark_told, synced_transition, verdict_transition, lane_transition, telegram_transition, addressed_transition, frame_transition}
use Rattle.script_text.specs.declared.event.Event.{Event}
use Rattle.script_text.specs.declared.event.Event.TheVariants as event
use Rattle.step_text.specs.declared.outcome.StepOutcome.{StepOutcome}
use Rattle.step_text.specs.declared.outcome.StepOutcome.TheVariants as outcome
use Rattle.install_run.specs.Turn.{set_told, send_told, receive_told}
use Rattle.install_run.specs.Machine.{TelegramAt, has_telegram, telegram_in, heard}
use Rattle.install_run.specs.Calls.{deliver_call, call_of}
use Rattle.install_run.specs.Holding.{heard_raises, raises_of}
use Rattle.install_run.specs.Histories.{NoneFalls, next_after, reserved_after, number_said}
use Rattle.install_run.proofs.Climbing.{IsUp, Climbs, NumbersUp, up_raise, climbs_append, after_append}

-- ---- what an outcome tells

-- no number was drawn, and none is told
pub record IsSilent (said : StepOutcome) : Type 0 where
  pub sends : has_telegram said ≡ false
  pub next : (next : ℕ) → next_after next said ≡ next
  pub reserved : (reserved next : ℕ) → reserved_after reserved next said ≡ reserved
  pub says : number_said said ≡ None

-- What a call makes of the numbers of a node with this standing, by its outcome.
pub record Draws (said : StepOutcome) (raises : List Raise) (new s : Standing) : Type 0 where
  pub next : new.next ≡ next_after s.next said
  pub reserved : new.numbers.reserved ≡ reserved_after s.numbers.reserved s.next said
  pub left : has_telegram said ≡ true → s.next < 2 ^ 48
  pub next_up : s.next ≤ new.next
  pub reserved_up : s.numbers.reserved ≤ new.numbers.reserved
  pub marks_up : NoneFalls s.numbers.marks new.numbers.marks
  pub climbs : Climbs raises s.numbers
  pub numbers : new.numbers ≡ after_raises raises s.numbers
  pub says : IfSome (number_said said) (λ number. number ≡ s.next)

pub none_said : (said : Option ℕ) (next : ℕ) → said ≡ None → IfSome said (λ number. number ≡ next)
none_said None next is = tt
none_said (Some number) next is = absurd cc

pub silent_draws : (said : StepOutcome) (s : Standing) → IsSilent said → Draws said [] s s
silent_draws said s silent = record {
  next = sym (silent.next s.next);
  reserved = sym (silent.reserved s.numbers.reserved s.next);
  left = λ is. elim (false≢true (sym silent.sends ∙ is)) [ ];
  next_up = omega arith;
  reserved_up = omega arith;
  marks_up = λ lane. omega arith;
  climbs = tt;
  numbers = refl;
  says = none_said (number_said said) s.next silent.says;
}

-- how the result of a call that draws is told
record TellsDraw (told : Result ℕ SendFault → StepOutcome) : Type 0 where
  sends : (number : ℕ) → has_telegram (told (Ok number)) ≡ true
  next : (number next : ℕ) → next_after next (told (Ok number)) ≡ next + 1
  reserved : (number reserved next : ℕ) → reserved_after reserved next (told (Ok number))
      ≡ reservation_for reserved next
  says : (number : ℕ) → IfSome (number_said (told (Ok number))) (λ said. said ≡ number)
  silent : (f : SendFault) → IsSilent (told (Err f))

-- ---- a draw

pub record IsDraw (raises : List Raise) (n : Numbers) (next : ℕ) : Type 0 where
  pub reserved : (after_raises raises n).reserved ≡ reservation_for n.reserved next
  pub marks : (after_raises raises n).marks ≡ n.marks
  pub climbs : Climbs raises n

reserved_where : (reserved_before : Bool) (last next : ℕ) → nat_le next last ≡ reserved_before → next < 2 ^ 48
    → (last ≤ (if reserved_before then last else min (next + 63) (2 ^ 48 - 1)))
    × (next ≤ (if reserved_before then last else min (next + 63) (2 ^ 48 - 1)))
reserved_where true last next is fits = (omega arith, grind (arith, nat_tests, is))
reserved_where false last next is fits =
    let above : last < next = grind (arith, nat_tests, is) in
    (omega (arith, above, fits), omega (arith, fits))

pub reservation_up : (last next : ℕ) → next < 2 ^ 48 → (last ≤ reservation_for last next)
    × (next ≤ reservation_for last next)
reservation_up last next fits = reserved_where (nat_le next last) last next refl fits

draw_where : (above fits : Bool) (n : Numbers) (next : ℕ) → nat_lt n.reserved next ≡ above
    → nat_lt next (2 ^ 48) ≡ fits → next < 2 ^ 48
    → IsDraw (if above && fits then Reserve (reservation_for n.reserved next) ∷ [] else []) n next
draw_where true true n next is_above is_fit left = record {
  reserved = refl;
  marks = refl;
  climbs = ((reservation_up n.reserved next left).0, tt);
}
draw_where true false n next is_above is_fit left = absurd (grind (arith, nat_tests, is_fit, left))
draw_where false fits n next is_above is_fit left =
    let within : nat_le next n.reserved ≡ true = grind (arith, nat_tests, is_above) in
    record {
      reserved = sym (ap (λ b. if b then n.reserved else min (next + 63) (2 ^ 48 - 1)) within);
      marks = refl;
      climbs = tt;
    }

draw_is : (n : Numbers) (next : ℕ) → next < 2 ^ 48 → IsDraw (draw_raises n.reserved next) n next
draw_is n next left = draw_where (nat_lt n.reserved next) (nat_lt next (2 ^ 48)) n next refl refl left

falls_not : (old new : List ℕ) → new ≡ old → NoneFalls old new
falls_not old new is = subst (NoneFalls old) (sym is) (λ lane. omega arith)

sealing_draws : (told : Result ℕ SendFault → StepOutcome) (frame : ℕ → List ℕ) (s : Standing) → TellsDraw told
    → s.next < 2 ^ 48
    → Draws (told (sealing frame s).outcome) (sealing frame s).raises (sealing frame s).after s
sealing_draws told frame s tells left =
    let d : IsDraw (draw_raises s.numbers.reserved s.next) s.numbers s.next = draw_is s.numbers s.next left in
    let up = (reservation_up s.numbers.reserved s.next left).0 in
    record {
      next = sym (tells.next s.next s.next);
      reserved = d.reserved ∙ sym (tells.reserved s.next s.numbers.reserved s.next);
      left = λ is. left;
      next_up = omega arith;
      reserved_up = let e = d.reserved in omega (arith, e, up);
      marks_up = falls_not s.numbers.marks (sealing frame s).after.numbers.marks d.marks;
      climbs = d.climbs;
      numbers = refl;
      says = tells.says s.next;
    }

drawing_draws : (none_left : Bool) (told : Result ℕ SendFault → StepOutcome) (frame : ℕ → List ℕ) (s : Standing)
    → TellsDraw told → (s.next == 2 ^ 48) ≡ none_left → s.next ≤ 2 ^ 48
    → (let t : Transition (Result ℕ SendFault) = if none_left then quiet s (Err fault.Exhausted) else sealing frame s in
    Draws (told t.outcome) t.raises t.after s)
drawing_draws true told frame s tells is fits =
    silent_draws (told (Err fault.Exhausted)) s (tells.silent fault.Exhausted)
drawing_draws false told frame s tells is fits =
    let other : s.next ≢ 2 ^ 48 = λ last. elim (false≢true (sym is ∙ eq-eqb s.next (2 ^ 48) last)) [ ] in
    sealing_draws told frame s tells (omega (arith, other, fits))

key_draws : (key : Option (List ℕ)) (told : Result ℕ SendFault → StepOutcome) (frame : List ℕ → ℕ → List ℕ)
    (s : Standing) → TellsDraw told → s.next ≤ 2 ^ 48
    → (let t = under_key key frame s in Draws (told t.outcome) t.raises t.after s)
key_draws None told frame s tells fits = silent_draws (told (Err fault.NoKey)) s (tells.silent fault.NoKey)
key_draws (Some key) told frame s tells fits = drawing_draws (s.next == 2 ^ 48) told (frame key) s tells refl fits

channel_draws : (told : Result ℕ SendFault → StepOutcome) (c : ConfigState) (s : Standing) (found : Option Channel)
    (frame : List ℕ → ℕ → List ℕ) → TellsDraw told → s.next ≤ 2 ^ 48
    → (let t = on_channel c s found frame in Draws (told t.outcome) t.raises t.after s)
channel_draws told c s None frame tells fits = silent_draws (told (Err fault.NoKey)) s (tells.silent fault.NoKey)
channel_draws told c s (Some found) frame tells fits = key_draws (key_of c.rows found) told frame s tells fits

group_draws : (told : Result ℕ SendFault → StepOutcome) (c : ConfigState) (s : Standing) (group : GroupAddr)
    (apdu : List ℕ) → TellsDraw told → s.next ≤ 2 ^ 48
    → (let t = group_transition c s group apdu in Draws (told t.outcome) t.raises t.after s)
group_draws told c s group apdu tells fits =
    channel_draws told c s (Some (channel.Group group))
    (λ key number. sealed_frame key (data_head c.address group.0 true (group_field c group) number) apdu) tells fits

-- ---- sending

stop_silent : (count : ℕ) (stopped : NvmFault) → IsSilent (send_told count (Err (fault.Memory stopped)))
stop_silent count nvm.Cut = record { sends = refl; next = λ next. refl; reserved = λ r n. refl; says = refl }
stop_silent count nvm.Failed = record { sends = refl; next = λ next. refl; reserved = λ r n. refl; says = refl }

send_silent : (count : ℕ) (f : SendFault) → IsSilent (send_told count (Err f))
send_silent count fault.NoObject = record { sends = refl; next = λ next. refl; reserved = λ r n. refl; says = refl }
send_silent count fault.Flag = record { sends = refl; next = λ next. refl; reserved = λ r n. refl; says = refl }
send_silent count fault.NoKey = record { sends = refl; next = λ next. refl; reserved = λ r n. refl; says = refl }
send_silent count fault.Exhausted = record { sends = refl; next = λ next. refl; reserved = λ r n. refl; says = refl }
send_silent count (fault.Memory stopped) = stop_silent count stopped

send_tells : (count : ℕ) → TellsDraw (send_told count)
send_tells count = record {
  sends = λ number. refl;
  next = λ number next. refl;
  reserved = λ number reserved next. refl;
  says = λ number. refl;
  silent = send_silent count;
}

flag_draws : (transmits : Bool) (count : ℕ) (c : ConfigState) (s : Standing) (group : GroupAddr) (apdu : List ℕ)
    → s.next ≤ 2 ^ 48
    → (let t : Transition (Result ℕ SendFault) =
    if transmits then group_transition c s group apdu else quiet s (Err fault.Flag) in
    Draws (send_told count t.outcome) t.raises t.after s)
flag_draws true count c s group apdu fits = group_draws (send_told count) c s group apdu (send_tells count) fits
flag_draws false count c s group apdu fits =
    silent_draws (send_told count (Err fault.Flag)) s (send_silent count fault.Flag)

object_draws : (count : ℕ) (c : ConfigState) (s : Standing) (row : Option ObjectRow) (value : Option ObjectValue)
    (service : SendService) → s.next ≤ 2 ^ 48
    → (let t = object_transition c s row value service in Draws (send_told count t.outcome) t.raises t.after s)
object_draws count c s (Some row) (Some value) service fits =
    flag_draws row.flags.transmits count c s row.group (service_apdu service value) fits
object_draws count c s (Some row) None service fits =
    silent_draws (send_told count (Err fault.NoObject)) s (send_silent count fault.NoObject)
object_draws count c s None value service fits =
    silent_draws (send_told count (Err fault.NoObject)) s (send_silent count fault.NoObject)

pending_draws : (sent : Result ℕ SendFault) (challenge : OpenChallenge) (said : StepOutcome) (raises : List Raise)
    (new s : Standing) → Draws said raises new s → Draws said raises (with_pending sent challenge new) s
pending_draws (Ok _) challenge said raises new s d = record {
  next = d.next;
  reserved = d.reserved;
  left = d.left;
  next_up = d.next_up;
  reserved_up = d.reserved_up;
  marks_up = d.marks_up;
  climbs = d.climbs;
  numbers = d.numbers;
  says = d.says;
}
pending_draws (Err _) challenge said raises new s d = d

ask_draws : (count : ℕ) (c : ConfigState) (s : Standing) (to : IndAddr) (challenge : List ℕ) → s.next ≤ 2 ^ 48
    → (let t = ask_transition c s to challenge in Draws (send_told count t.outcome) t.raises t.after s)
ask_draws count c s to challenge fits =
    let frame : List ℕ → ℕ → List ℕ = λ key number. ask_frame key c.address to number challenge in
    let asked = on_channel c s (device_channel c to) frame in
    pending_draws asked.outcome (record { peer = to; challenge = challenge }) (send_told count asked.outcome)
    asked.raises asked.after s
    (channel_draws (send_told count) c s (device_channel c to) frame (send_tells count) fits)

set_draws : (refusal : Option SetFault) (s : Standing) (object : ℕ) (value : ObjectValue)
    → (let t = set_unless refusal s (with_value object value s) in Draws (set_told t.outcome) t.raises t.after s)
set_draws None s object value =
    let d =
    silent_draws outcome.Set s (record { sends = refl; next = λ n. refl; reserved = λ r n. refl; says = refl }) in
    record {
      next = d.next;
      reserved = d.reserved;
      left = d.left;
      next_up = d.next_up;
      reserved_up = d.reserved_up;
      marks_up = d.marks_up;
      climbs = tt;
      numbers = refl;
      says = tt;
    }
set_draws (Some refused.NoObject) s object value =
    silent_draws outcome.NoObject s (record { sends = refl; next = λ n. refl; reserved = λ r n. refl; says = refl })
set_draws (Some refused.Size) s object value =
    silent_draws outcome.Size s (record { sends = refl; next = λ n. refl; reserved = λ r n. refl; says = refl })

-- ---- receiving

-- the raise of a mark that comes first
record KeptUp (raises : List Raise) (n : Numbers) : Type 0 where
  reserved : (after_raises raises n).reserved ≡ n.reserved
  up : NumbersUp n (after_raises raises n)
  climbs : Climbs raises n

none_up : (n : Numbers) → KeptUp [] n
none_up n = record {
  reserved = refl;
  up = record { reserved = omega arith; marks = λ lane. omega arith };
  climbs = tt;
}

kept_up : (place : Option ℕ) (kept : Kept) (n : Numbers) → IfSome kept (λ k. mark_at n.marks place < k.1)
    → KeptUp (kept_raises place kept) n
kept_up (Some place) (Some kept) n above =
    let over : slice_index n.marks place < kept.1 = above in
    let up : IsUp (Mark place kept.1) n = omega (arith, over) in
    record {
      reserved = refl;
      up = up_raise (Mark place kept.1) n up;
      climbs = (up, tt);
    }
kept_up (Some place) None n above = none_up n
kept_up None kept n above = none_up n

behind_draws : (first rest : List Raise) (said : StepOutcome) (new s : Standing) → KeptUp first s.numbers
    → Draws said rest new (raised first s) → Draws said (first ++ rest) new s
behind_draws first rest said new s kept d = record {
  next = d.next;
  reserved = d.reserved ∙ ap (λ r. reserved_after r s.next said) kept.reserved;
  left = d.left;
  next_up = d.next_up;
  reserved_up = let up = d.reserved_up in let same = kept.reserved in omega (arith, up, same);
  marks_up = λ lane. let low = kept.up.marks lane in let high = d.marks_up lane in omega (arith, low, high);
  climbs = climbs_append first rest s.numbers kept.climbs d.climbs;
  numbers = d.numbers ∙ sym (after_append first rest s.numbers);
  says = d.says;
}

module _ (count : ℕ) where
  refused_draws : (s : Standing) (said : Verdict)
      → Draws (receive_told count (received.Refused said)) [] s s
  refused_draws s said = silent_draws (outcome.Refused said) s
      (record { sends = refl; next = λ n. refl; reserved = λ r n. refl; says = refl })

  ignored_draws : (s : Standing) → Draws (receive_told count received.Ignored) [] s s
  ignored_draws s = silent_draws outcome.Ignored s
      (record { sends = refl; next = λ n. refl; reserved = λ r n. refl; says = refl })

  reply_tells : (number : ℕ) (lane : Lane) (object : ℕ)
      → TellsDraw (λ sent. receive_told count (received.Acted number lane (act.Read object (number_sent sent))))
  reply_tells number lane object = record {
    sends = λ number. refl;
    next = λ number next. refl;
    reserved = λ number reserved next. refl;
    says = λ number. tt;
    silent = λ f. record { sends = refl; next = λ n. refl; reserved = λ r n. refl; says = refl };
  }

  answer_tells : (challenge : List ℕ)
      → TellsDraw (λ sent. receive_told count (received.Answered challenge (number_sent sent)))
  answer_tells challenge = record {
    sends = λ number. refl;
    next = λ number next. refl;
    reserved = λ number reserved next. refl;
    says = λ number. tt;
    silent = λ f. record { sends = refl; next = λ n. refl; reserved = λ r n. refl; says = refl };
  }

  reply_draws : (c : ConfigState) (s : Standing) (number : ℕ) (lane : Lane) (object : ℕ) (group : GroupAddr)
      (value : Option ObjectValue) → s.next ≤ 2 ^ 48
      → (let t = reply_transition c s number lane object group value in
      Draws (receive_told count t.outcome) t.raises t.after s)
  reply_draws c s number lane object group (Some value) fits =
      group_draws (λ sent. receive_told count (received.Acted number lane (act.Read object (number_sent sent)))) c s
      group (service_apdu service.Response value) (reply_tells number lane object) fits
  reply_draws c s number lane object group None fits = ignored_draws s

  -- an act without a reply
  acted_draws : (s : Standing) (number : ℕ) (lane : Lane) (does : Act)
      → receive_told count (received.Acted number lane does) ≡ outcome.Acted number lane does None
      → Draws (receive_told count (received.Acted number lane does)) [] s s
  acted_draws s number lane does is = subst (λ said. Draws said [] s s) (sym is)
      (silent_draws (outcome.Acted number lane does None) s
      (record { sends = refl; next = λ n. refl; reserved = λ r n. refl; says = refl }))

  valued : (said : StepOutcome) (s : Standing) (object : ℕ) (value : ObjectValue) → Draws said [] s s
      → Draws said [] (with_value object value s) s
  valued said s object value d = record {
    next = d.next;
    reserved = d.reserved;
    left = d.left;
    next_up = d.next_up;
    reserved_up = d.reserved_up;
    marks_up = d.marks_up;
    climbs = d.climbs;
    numbers = d.numbers;
    says = d.says;
  }

  effect_draws : (c : ConfigState) (s : Standing) (number : ℕ) (lane : Lane) (object : ℕ) (row : ObjectRow)
      (does : Result Effect BadObject) → s.next ≤ 2 ^ 48
      → (let t = effect_transition c s number lane object row does in
      Draws (receive_told count t.outcome) t.raises t.after s)
  effect_draws c s number lane object row (Err bad) fits = refused_draws s (verdict.Object bad)
  effect_draws c s number lane object row (Ok effect.Read) fits =
      reply_draws c s number lane object row.group (slice_get s.values object) fits
  effect_draws c s number lane object row (Ok (effect.Write value)) fits =
      valued (outcome.Acted number lane (act.Write object value) None) s object value
      (acted_draws s number lane (act.Write object value) refl)
  effect_draws c s number lane object row (Ok (effect.Response value)) fits =
      valued (outcome.Acted number lane (act.Response object value) None) s object value
      (acted_draws s number lane (act.Response object value) refl)

  row_draws : (c : ConfigState) (s : Standing) (number : ℕ) (lane : Lane) (object : ℕ) (apdu : List ℕ)
      (row : Option ObjectRow) → s.next ≤ 2 ^ 48
      → (let t = row_transition c s number lane object apdu row in
      Draws (receive_told count t.outcome) t.raises t.after s)
  row_draws c s number lane object apdu (Some row) fits =
      effect_draws c s number lane object row (accepted row apdu) fits
  row_draws c s number lane object apdu None fits = ignored_draws s

  act_draws : (c : ConfigState) (s : Standing) (to : Addressee) (lane : Lane) (number : ℕ) (service : Service)
      (apdu : List ℕ) → s.next ≤ 2 ^ 48
      → (let t = act_transition c s to lane number service apdu in
      Draws (receive_told count t.outcome) t.raises t.after s)
  act_draws c s Device lane number service apdu fits = acted_draws s number lane (act.Tool service) refl
  act_draws c s (Object object) lane number service apdu fits =
      row_draws c s number lane object apdu (slice_get c.objects object) fits

  synced_draws : (s : Standing) (number kept : ℕ)
      → (let t = synced_transition s number kept in Draws (receive_told count t.outcome) t.raises t.after s)
  synced_draws s number kept = record {
    next = refl;
    reserved = refl;
    left = λ is. absurd cc;
    next_up = omega arith;
    reserved_up = omega arith;
    marks_up = λ lane. omega arith;
    climbs = tt;
    numbers = refl;
    says = tt;
  }

  verdict_draws : (c : ConfigState) (s : Standing) (source : IndAddr) (to : Addressee) (lane : Lane) (apdu : List ℕ)
      (said : Verdict) → s.next ≤ 2 ^ 48
      → (let t = verdict_transition c s source to lane apdu said in
      Draws (receive_told count t.outcome) t.raises t.after s)
  verdict_draws c s source to lane apdu (verdict.Accepted number service) fits =
      act_draws c s to lane number service apdu fits
  verdict_draws c s source to lane apdu (verdict.SyncAsk number challenge) fits =
      channel_draws (λ sent. receive_told count (received.Answered challenge (number_sent sent))) c s
      (device_channel c source)
      (λ key number. answer_frame key c.address source number challenge (mark_told c s source lane))
      (answer_tells challenge) fits
  verdict_draws c s source to lane apdu (verdict.SyncAnswer number kept) fits = synced_draws s number kept
  verdict_draws c s source to lane apdu (verdict.NotFrame f) fits = refused_draws s (verdict.NotFrame f)
  verdict_draws c s source to lane apdu (verdict.Control o) fits = refused_draws s (verdict.Control o)
  verdict_draws c s source to lane apdu (verdict.Plain p) fits = refused_draws s (verdict.Plain p)
  verdict_draws c s source to lane apdu (verdict.BadSecure b) fits = refused_draws s (verdict.BadSecure b)
  verdict_draws c s source to lane apdu verdict.NoKey fits = refused_draws s verdict.NoKey
  verdict_draws c s source to lane apdu verdict.NoPending fits = refused_draws s verdict.NoPending
  verdict_draws c s source to lane apdu (verdict.BadCode b) fits = refused_draws s (verdict.BadCode b)
  verdict_draws c s source to lane apdu (verdict.BadPayload a b) fits = refused_draws s (verdict.BadPayload a b)
  verdict_draws c s source to lane apdu verdict.Sender fits = refused_draws s verdict.Sender
  verdict_draws c s source to lane apdu (verdict.Stale a b) fits = refused_draws s (verdict.Stale a b)
  verdict_draws c s source to lane apdu verdict.Level fits = refused_draws s verdict.Level
  verdict_draws c s source to lane apdu (verdict.Role a b) fits = refused_draws s (verdict.Role a b)
  verdict_draws c s source to lane apdu (verdict.Service b) fits = refused_draws s (verdict.Service b)
  verdict_draws c s source to lane apdu (verdict.Object b) fits = refused_draws s (verdict.Object b)

  lane_draws : (c : ConfigState) (s : Standing) (to : Addressee) (t : Telegram) (lane : Lane) → s.next ≤ 2 ^ 48
      → (let r = lane_transition c s to t lane in Draws (receive_told count r.outcome) r.raises r.after s)
  lane_draws c s to t lane fits =
      let place = place_in c lane in
      let mark = mark_at s.numbers.marks place in
      let asked = asked_of s.pending (source_of t) in
      let kept = kept_by c.rows mark asked t in
      let raises = kept_raises place kept in
      let r = verdict_transition c (raised raises s) (source_of t) to lane (opened_by c.rows asked t)
      (verdict_of c.rows mark asked t) in
      behind_draws raises r.raises (receive_told count r.outcome) r.after s
      (kept_up place kept s.numbers (keeps_above c.rows mark asked t kept refl))
      (verdict_draws c (raised raises s) (source_of t) to lane (opened_by c.rows asked t)
      (verdict_of c.rows mark asked t) fits)

  telegram_draws : (c : ConfigState) (s : Standing) (t : Telegram) (to : Addressee) (lane : Option Lane)
      → s.next ≤ 2 ^ 48
      → (let r = telegram_transition c s t to lane in Draws (receive_told count r.outcome) r.raises r.after s)
  telegram_draws c s t to None fits = refused_draws s (verdict_of c.rows 0 (asked_of s.pending (source_of t)) t)
  telegram_draws c s t to (Some lane) fits = lane_draws c s to t lane fits

  addressed_draws : (c : ConfigState) (s : Standing) (t : Telegram) (to : Option Addressee) → s.next ≤ 2 ^ 48
      → (let r = addressed_transition c s t to in Draws (receive_told count r.outcome) r.raises r.after s)
  addressed_draws c s t None fits = ignored_draws s
  addressed_draws c s t (Some to) fits = telegram_draws c s t to (lane_in c.rows t) fits

  frame_draws : (c : ConfigState) (s : Standing) (f : Option NotFrame) (t : Telegram) → s.next ≤ 2 ^ 48
      → (let r = frame_transition c s f t in Draws (receive_told count r.outcome) r.raises r.after s)
  frame_draws c s (Some f) t fits = refused_draws s (verdict.NotFrame f)
  frame_draws c s None t fits = addressed_draws c s t (addressee c t) fits

  deliver_draws : (c : ConfigState) (s : Standing) (octets : Option (List ℕ)) → s.next ≤ 2 ^ 48
      → (let t = deliver_call count c s octets in Draws t.outcome t.raises t.after s)
  deliver_draws c s None fits = silent_draws outcome.Gone s
      (record { sends = refl; next = λ n. refl; reserved = λ r n. refl; says = refl })
  deliver_draws c s (Some octets) fits = frame_draws c s (frame_fault octets) (frame_at octets) fits

-- ---- each event

quiet_draws : (said : StepOutcome) (s : Standing) → has_telegram said ≡ false
    → ((next : ℕ) → next_after next said ≡ next)
    → ((reserved next : ℕ) → reserved_after reserved next said ≡ reserved) → number_said said ≡ None
    → Draws said [] s s
quiet_draws said s sends next reserved says =
    silent_draws said s (record { sends = sends; next = next; reserved = reserved; says = says })

pub call_draws : (e : Event) (air : List TelegramAt) (c : ConfigState) (s : Standing) → s.next ≤ 2 ^ 48
    → (let t = call_of e air c s in Draws t.outcome t.raises t.after s)
call_draws (event.Set node object value) air c s fits =
    set_draws (set_refusal (slice_get s.values object) value) s object value
call_draws (event.Send node object service) air c s fits =
    object_draws (length air) c s (slice_get c.objects object) (slice_get s.values object) service fits
call_draws (event.ToolSend node to apdu) air c s fits =
    channel_draws (send_told (length air)) c s (device_channel c to)
    (λ key number. sealed_frame key (data_head c.address to.0 false tool_field number) apdu) (send_tells (length air))
    fits
call_draws (event.Ask node to challenge) air c s fits = ask_draws (length air) c s to challenge fits
call_draws (event.Deliver telegram node) air c s fits =
    deliver_draws (length air) c s (heard (telegram_in air telegram)) fits
call_draws (event.Lose telegram) air c s fits =
    quiet_draws outcome.Lost s refl (λ n. refl) (λ r n. refl) refl
call_draws (event.Inject octets) air c s fits =
    quiet_draws outcome.Armed s refl (λ n. refl) (λ r n. refl) refl
call_draws (event.Off node) air c s fits = quiet_draws outcome.Down s refl (λ n. refl) (λ r n. refl) refl
call_draws (event.On node) air c s fits = quiet_draws outcome.Running s refl (λ n. refl) (λ r n. refl) refl
call_draws (event.Cut node write torn) air c s fits =
    quiet_draws outcome.Armed s refl (λ n. refl) (λ r n. refl) refl
call_draws (event.Fault node write torn) air c s fits =
    quiet_draws outcome.Armed s refl (λ n. refl) (λ r n. refl) refl

-- ---- the raises of each event

set_raises : (refusal : Option SetFault) (s new : Standing) → (set_unless refusal s new).raises ≡ []
set_raises None s new = refl
set_raises (Some f) s new = refl

deliver_raises : (count : ℕ) (c : ConfigState) (s : Standing) (octets : Option (List ℕ))
    → (deliver_call count c s octets).raises ≡ heard_raises c s octets
deliver_raises count c s None = refl
deliver_raises count c s (Some octets) = refl

pub same_raises : (e : Event) (air : List TelegramAt) (c : ConfigState) (s : Standing)
    → (call_of e air c s).raises ≡ raises_of e air c s
same_raises (event.Set node object value) air c s =
    set_raises (set_refusal (slice_get s.values object) value) s (with_value object value s)
same_raises (event.Send node object service) air c s = refl
same_raises (event.ToolSend node to apdu) air c s = refl
same_raises (event.Ask node to challenge) air c s = refl
same_raises (event.Deliver telegram node) air c s =
    deliver_raises (length air) c s (heard (telegram_in air telegram))
same_raises (event.Lose telegram) air c s = refl
same_raises (event.Inject octets) air c s = refl
same_raises (event.Off node) air c s = refl
same_raises (event.On node) air c s = refl
same_raises (event.Cut node write torn) air c s = refl
same_raises (event.Fault node write torn) air c s = refl
