-- What a node acts on passed every check: by the cases of its transition.
use Rattle.std.proofs.Common.{◌≡◌, ℕ, List, length, Option, Some, None, Result, Ok, Err, refl, ap, subst}
use Rattle.std.specs.Prelude.{slice_get}
use Rattle.knx_base.specs.declared.address.IndAddr.{IndAddr}
use Rattle.knx_base.specs.declared.address.GroupAddr.{GroupAddr}
use Rattle.cemi_frames.specs.Faults.{frame_fault}
use Rattle.cemi_frames.specs.Frames.{Telegram}
use Rattle.cemi_frames.specs.Reading.{frame_at}
use Rattle.cemi_frames.specs.declared.frame.NotFrame.{NotFrame}
use Rattle.plain_apdu.specs.declared.object.BadObject.{BadObject}
use Rattle.plain_apdu.specs.declared.service.Service.{Service}
use Rattle.key_tables.specs.declared.types.Lane.{Lane}
use Rattle.judge_rules.specs.declared.verdict.Verdict.{Verdict}
use Rattle.judge_rules.specs.declared.verdict.Verdict.TheVariants as verdict
use Rattle.judge_rules.specs.Checks.{lane_in, verdict_of, kept_by, opened_by}
use Rattle.judge_rules.specs.Parts.{source_of}
use Rattle.nvm_model.specs.Plan.{Struck}
use Rattle.nvm_model.specs.declared.fault.NvmFault.{NvmFault}
use Rattle.nvm_model.specs.declared.fault.NvmFault.TheVariants as nvm
use Rattle.group_objects.specs.declared.row.ObjectRow.{ObjectRow}
use Rattle.group_objects.specs.declared.row.Effect.{Effect}
use Rattle.group_objects.specs.declared.row.Effect.TheVariants as effect
use Rattle.group_objects.specs.Value.{ObjectValue}
use Rattle.group_objects.specs.Effects.{accepted}
use Rattle.sync_service.specs.Open.{asked_of}
use Rattle.node_core.specs.declared.outcome.Addressee.{Addressee}
use Rattle.node_core.specs.declared.outcome.Addressee.TheVariants.{Device, Object}
use Rattle.node_core.specs.declared.outcome.Outcome.{Outcome}
use Rattle.node_core.specs.Receiving.{addressee, kept_raises, reply_transition, effect_transition, row_transition, act_transition, verdict_transition, lane_transition, telegram_transition, addressed_transition, frame_transition, receive_transition}
use Rattle.node_core.specs.Standing.{ConfigState, Standing, raised, place_in, mark_at}
use Rattle.node_core.specs.Transition.{Transition}
use Rattle.install_run.specs.Turn.{NodeAt, struck_by, turn_by, receive_told, receive_turn}
use Rattle.install_run.specs.Journals.{acted_in}
use Rattle.install_run.specs.Machine.{WorldAt, telegram_in, heard, node_in}
use Rattle.install_run.specs.Passing.{TakesApdu, Takes, PassesChecks}
use Rattle.install_run.specs.Verified.{WasVerified, ActsOnVerified}
use Rattle.install_run.proofs.Sounding.{some_same}

module _ (count : ℕ) where
  -- what is acted on of this number and lane is that
  abbrev Tells : ℕ → Lane → Outcome → Type 0
  Tells number lane o =
      (acted : ℕ × Lane) → acted_in (receive_told count o) ≡ Some acted → (number, lane) ≡ acted

  reply_tells : (c : ConfigState) (s : Standing) (number : ℕ) (lane : Lane) (object : ℕ) (group : GroupAddr)
      (value : Option ObjectValue) → Tells number lane (reply_transition c s number lane object group value).outcome
  reply_tells c s number lane object group (Some value) acted is = some_same (number, lane) acted is
  reply_tells c s number lane object group None acted is = absurd cc

  -- and what it is for takes its APDU
  record TellsTaken (taken : Type 0) (number : ℕ) (lane : Lane) (acted : ℕ × Lane) : Type 0 where
    is_taken : taken
    same : (number, lane) ≡ acted

  abbrev HasEffect : ObjectRow → List ℕ → Type 0
  HasEffect row apdu = (effect : Effect) × (accepted row apdu ≡ Ok effect)

  effect_tells : (c : ConfigState) (s : Standing) (number : ℕ) (lane : Lane) (object : ℕ) (apdu : List ℕ)
      (row : ObjectRow) (does : Result Effect BadObject) (acted : ℕ × Lane) → accepted row apdu ≡ does
      → acted_in (receive_told count (effect_transition c s number lane object row does).outcome) ≡ Some acted
      → TellsTaken (HasEffect row apdu) number lane acted
  effect_tells c s number lane object apdu row (Err bad) acted takes is = absurd cc
  effect_tells c s number lane object apdu row (Ok effect.Read) acted takes is = record {
    is_taken = (effect.Read, takes);
    same = reply_tells c s number lane object row.group (slice_get s.values object) acted is;
  }
  effect_tells c s number lane object apdu row (Ok (effect.Write value)) acted takes is = record {
    is_taken = (effect.Write value, takes);
    same = some_same (number, lane) acted is;
  }
  effect_tells c s number lane object apdu row (Ok (effect.Response value)) acted takes is = record {
    is_taken = (effect.Response value, takes);
    same = some_same (number, lane) acted is;
  }

  row_tells : (c : ConfigState) (s : Standing) (number : ℕ) (lane : Lane) (object : ℕ) (apdu : List ℕ)
      (row : Option ObjectRow) (acted : ℕ × Lane) → slice_get c.objects object ≡ row
      → acted_in (receive_told count (row_transition c s number lane object apdu row).outcome) ≡ Some acted
      → TellsTaken (TakesApdu c object apdu) number lane acted
  row_tells c s number lane object apdu (Some row) acted row_is is =
      let e = effect_tells c s number lane object apdu row (accepted row apdu) acted refl is in
      record {
        is_taken = record { row = row; row_is = row_is; effect = e.is_taken.0; takes = e.is_taken.1 };
        same = e.same;
      }
  row_tells c s number lane object apdu None acted row_is is = absurd cc

  act_tells : (c : ConfigState) (s : Standing) (to : Addressee) (lane : Lane) (number : ℕ) (service : Service)
      (apdu : List ℕ) (acted : ℕ × Lane)
      → acted_in (receive_told count (act_transition c s to lane number service apdu).outcome) ≡ Some acted
      → TellsTaken (Takes c to apdu) number lane acted
  act_tells c s Device lane number service apdu acted is =
      record { is_taken = tt; same = some_same (number, lane) acted is }
  act_tells c s (Object object) lane number service apdu acted is =
      row_tells c s number lane object apdu (slice_get c.objects object) acted refl is

  record IsAccepted (taken : Type 0) (said : Verdict) (lane : Lane) (acted : ℕ × Lane) : Type 0 where
    service : Service
    said_is : said ≡ verdict.Accepted acted.0 service
    lane_is : lane ≡ acted.1
    is_taken : taken

  verdict_tells : (c : ConfigState) (s : Standing) (source : IndAddr) (to : Addressee) (lane : Lane) (apdu : List ℕ)
      (said : Verdict) (acted : ℕ × Lane)
      → acted_in (receive_told count (verdict_transition c s source to lane apdu said).outcome) ≡ Some acted
      → IsAccepted (Takes c to apdu) said lane acted
  verdict_tells c s source to lane apdu (verdict.Accepted number service) acted is =
      let told = act_tells c s to lane number service apdu acted is in
      record {
        service = service;
        said_is = ap (λ (a : ℕ × Lane). verdict.Accepted a.0 service) told.same;
        lane_is = ap (λ (a : ℕ × Lane). a.1) told.same;
        is_taken = told.is_taken;
      }
  verdict_tells c s source to lane apdu said acted is = absurd cc

  lane_tells : (c : ConfigState) (s : Standing) (octets : List ℕ) (to : Addressee) (lane : Lane) (acted : ℕ × Lane)
      → frame_fault octets ≡ None → addressee c (frame_at octets) ≡ Some to
      → lane_in c.rows (frame_at octets) ≡ Some lane
      → acted_in (receive_told count (lane_transition c s to (frame_at octets) lane).outcome) ≡ Some acted
      → PassesChecks c s octets acted.0 acted.1
  lane_tells c s octets to lane acted is_frame is_for is_lane is =
      let t : Telegram = frame_at octets in
      let mark = mark_at s.numbers.marks (place_in c lane) in
      let asked = asked_of s.pending (source_of t) in
      let raises = kept_raises (place_in c lane) (kept_by c.rows mark asked t) in
      let a = verdict_tells c (raised raises s) (source_of t) to lane (opened_by c.rows asked t)
      (verdict_of c.rows mark asked t) acted is in
      subst (PassesChecks c s octets acted.0) a.lane_is (record {
        to = to;
        service = a.service;
        is_frame = is_frame;
        is_for = is_for;
        lane_is = is_lane;
        passes = a.said_is;
        taken = a.is_taken;
      })

  telegram_tells : (c : ConfigState) (s : Standing) (octets : List ℕ) (to : Addressee) (lane : Option Lane)
      (acted : ℕ × Lane) → frame_fault octets ≡ None → addressee c (frame_at octets) ≡ Some to
      → lane_in c.rows (frame_at octets) ≡ lane
      → acted_in (receive_told count (telegram_transition c s (frame_at octets) to lane).outcome) ≡ Some acted
      → PassesChecks c s octets acted.0 acted.1
  telegram_tells c s octets to None acted is_frame is_for is_lane is = absurd cc
  telegram_tells c s octets to (Some lane) acted is_frame is_for is_lane is =
      lane_tells c s octets to lane acted is_frame is_for is_lane is

  addressed_tells : (c : ConfigState) (s : Standing) (octets : List ℕ) (to : Option Addressee) (acted : ℕ × Lane)
      → frame_fault octets ≡ None → addressee c (frame_at octets) ≡ to
      → acted_in (receive_told count (addressed_transition c s (frame_at octets) to).outcome) ≡ Some acted
      → PassesChecks c s octets acted.0 acted.1
  addressed_tells c s octets None acted is_frame is_for is = absurd cc
  addressed_tells c s octets (Some to) acted is_frame is_for is =
      telegram_tells c s octets to (lane_in c.rows (frame_at octets)) acted is_frame is_for refl is

  frame_tells : (c : ConfigState) (s : Standing) (octets : List ℕ) (f : Option NotFrame) (acted : ℕ × Lane)
      → frame_fault octets ≡ f
      → acted_in (receive_told count (frame_transition c s f (frame_at octets)).outcome) ≡ Some acted
      → PassesChecks c s octets acted.0 acted.1
  frame_tells c s octets (Some f) acted is_frame is = absurd cc
  frame_tells c s octets None acted is_frame is =
      addressed_tells c s octets (addressee c (frame_at octets)) acted is_frame refl is

  turned_tells : (c : ConfigState) (s : Standing) (octets : List ℕ) (acted : ℕ × Lane) (answer : Option NvmFault)
      (struck : Struck) (n : NodeAt)
      → acted_in (turn_by answer struck (receive_transition c s octets) (receive_told count) n).outcome ≡ Some acted
      → PassesChecks c s octets acted.0 acted.1
  turned_tells c s octets acted None struck n is = frame_tells c s octets (frame_fault octets) acted refl is
  turned_tells c s octets acted (Some nvm.Cut) struck n is = absurd cc
  turned_tells c s octets acted (Some nvm.Failed) struck n is = absurd cc

verified_by : (w : WorldAt) (telegram node : ℕ) (acted : ℕ × Lane) (octets : Option (List ℕ))
    (standing : Option Standing) → heard (telegram_in w.air telegram) ≡ octets → (node_in w node).standing ≡ standing
    → acted_in (receive_turn (length w.air) octets (node_in w node) standing).outcome ≡ Some acted
    → WasVerified w telegram node acted
verified_by w telegram node acted octets None hears runs is = absurd cc
verified_by w telegram node acted None (Some s) hears runs is = absurd cc
verified_by w telegram node acted (Some octets) (Some s) hears runs is =
    let n : NodeAt = node_in w node in
    let t : Transition Outcome = receive_transition n.config s octets in
    record {
      standing = s;
      runs = runs;
      octets = octets;
      hears = hears;
      verified = turned_tells (length w.air) n.config s octets acted (struck_by t s n).answer (struck_by t s n) n is;
    }

pub acts_on_verified : (w : WorldAt) → ActsOnVerified w
acts_on_verified w telegram node acted is =
    verified_by w telegram node acted (heard (telegram_in w.air telegram)) (node_in w node).standing refl refl is
