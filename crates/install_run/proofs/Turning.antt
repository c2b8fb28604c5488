-- What a node makes of its event, in the words of the whole installation: one lemma for each event.
use Rattle.std.proofs.Common.{◌≡◌, ℕ, List, [], ◌++◌, Some, sym, ap, ◌∙◌}
use Rattle.std.specs.Prelude.{length, set, unwrap_or}
use Rattle.knx_base.specs.declared.address.IndAddr.{IndAddr}
use Rattle.group_objects.specs.declared.service.SendService.{SendService}
use Rattle.node_core.specs.Node.{handed}
use Rattle.node_core.specs.Sending.{send_transition, tool_transition, ask_transition}
use Rattle.script_text.specs.declared.event.Event.TheVariants as event
use Rattle.step_text.specs.declared.outcome.StepOutcome.{StepOutcome}
use Rattle.install_run.specs.Turn.{NodeAt, Turn, call_turn, send_told, receive_turn}
use Rattle.install_run.specs.Machine.{TelegramAt, WorldAt, has_telegram, telegrams_of, telegram_in, heard, node_in, at_node}
use Rattle.install_run.specs.Slot.{IsTaken}
use Rattle.install_run.specs.Taking.{IsTakenIn, IsTakenBy}

same_place : {a b : ℕ} → Some a ≡ Some b → a ≡ b
same_place is = ap (λ o. unwrap_or o 0) is

by_turn : (turn : List TelegramAt → NodeAt → Turn) (air : List TelegramAt) (node place : ℕ) (w : WorldAt)
    (old new : NodeAt) (said : StepOutcome) (out : List ℕ)
    → IsTaken (turn air old) said new out → Some node ≡ Some place → node_in w place ≡ old → w.air ≡ air
    → IsTakenIn (at_node node (turn w.air) w) w place said new out
by_turn turn air node place w old new said out taken here same_node same_air =
    let place_is : node ≡ place = same_place here in
    let node_is : node_in w node ≡ old = ap (λ d. node_in w d) place_is ∙ same_node in
    let turn_is : turn w.air (node_in w node) ≡ turn air old = (λ i. turn (same_air i) (node_is i)) in
    record {
      outcome_is = taken.outcome_is ∙ sym (ap (λ (t : Turn). t.outcome) turn_is);
      nodes_are =
          ap (λ (t : Turn). set w.nodes node t.node) turn_is ∙ (λ i. set w.nodes (place_is i) (sym taken.node_is i));
      air_is = ap (λ (t : Turn). w.air ++ telegrams_of (has_telegram t.outcome) (handed t.sent [])) turn_is
          ∙ (λ i. w.air ++ telegrams_of (has_telegram (sym taken.outcome_is i)) (sym taken.out_is i));
    }

-- ---- each event

pub send_in : (air : List TelegramAt) (node object : ℕ) (service : SendService) (old new : NodeAt) (said : StepOutcome)
    (out : List ℕ)
    → IsTaken (call_turn (λ s. send_transition old.config s object service) (send_told (length air)) old old.standing)
    said new out
    → IsTakenBy (event.Send node object service) air old said new out
send_in air node object service old new said out taken = record {
  in_each = λ w place. by_turn (λ air n. call_turn (λ s. send_transition n.config s object service)
      (send_told (length air)) n n.standing)
      air node place w old new said out taken;
}

pub tool_in : (air : List TelegramAt) (node : ℕ) (to : IndAddr) (apdu : List ℕ) (old new : NodeAt) (said : StepOutcome)
    (out : List ℕ)
    → IsTaken (call_turn (λ s. tool_transition old.config s to apdu) (send_told (length air)) old old.standing) said new
    out
    → IsTakenBy (event.ToolSend node to apdu) air old said new out
tool_in air node to apdu old new said out taken = record {
  in_each = λ w place. by_turn (λ air n. call_turn (λ s. tool_transition n.config s to apdu) (send_told (length air)) n
      n.standing)
      air node place w old new said out taken;
}

pub ask_in : (air : List TelegramAt) (node : ℕ) (to : IndAddr) (challenge : List ℕ) (old new : NodeAt)
    (said : StepOutcome) (out : List ℕ)
    → IsTaken (call_turn (λ s. ask_transition old.config s to challenge) (send_told (length air)) old old.standing) said
    new out
    → IsTakenBy (event.Ask node to challenge) air old said new out
ask_in air node to challenge old new said out taken = record {
  in_each = λ w place. by_turn (λ air n. call_turn (λ s. ask_transition n.config s to challenge)
      (send_told (length air)) n n.standing)
      air node place w old new said out taken;
}

pub receive_in : (air : List TelegramAt) (telegram node : ℕ) (old new : NodeAt) (said : StepOutcome) (out : List ℕ)
    → IsTaken (receive_turn (length air) (heard (telegram_in air telegram)) old old.standing) said new out
    → IsTakenBy (event.Deliver telegram node) air old said new out
receive_in air telegram node old new said out taken = record {
  in_each = λ w place. by_turn (λ air n. receive_turn (length air) (heard (telegram_in air telegram)) n n.standing) air
      node place w old new said out taken;
}
