-- A memory that restores some numbers restores those that are read from it.
use Rattle.std.proofs.Common.{◌≡◌, inl, inr, ℕ, List, [], ◌∷◌, length, refl, sym, ap, ◌∙◌, subst}
use Rattle.std.proofs.lemmas.List.{length-set}
use Rattle.std.specs.Prelude.{◌↔◌, ◌≢◌, ◌≤◌, ◌^◌, Bool, Option, Some, None, true, false, Result, Ok, Err, IfOk, slice_get, unwrap_or}
use Rattle.nvm_model.specs.declared.fault.NvmFault.{NvmFault}
use Rattle.seq_store.specs.Laws.{IsUnformattedAt}
use Rattle.seq_store.specs.Layout.{store_size}
use Rattle.seq_store.specs.Refusal.{has_read}
use Rattle.seq_store.specs.declared.fault.StoreFault.{StoreFault}
use Rattle.seq_store.specs.declared.fault.StoreFault.TheVariants.{Unformatted, Memory, NoMemory}
use Rattle.seq_store.proofs.Starts.{restores_all}
use Rattle.nvm_model.specs.SimNvm.{sim_state}
use Rattle.nvm_model.specs.declared.sim.SimNvm.{SimNvm}
use Rattle.seq_store.specs.Runs.{Numbers, RestoresNumbers, numbers_in, Raise, Reserve, Mark, after_raise, RestoresSome}
use Rattle.seq_store.proofs.Keeping.{has_its_numbers}
use Rattle.node_core.specs.Node.{NodeState}
use Rattle.nvm_model.specs.Nvm.{State}
use Rattle.nvm_model.specs.declared.plan.Plan.{Plan}
use Rattle.seq_store.specs.Agrees.{Agrees}
use Rattle.group_objects.specs.Objects.{set_refusal}
use Rattle.group_objects.specs.Value.{ObjectValue}
use Rattle.group_objects.specs.declared.objects.SetFault.{SetFault}
use Rattle.node_core.specs.Node.{node_state}
use Rattle.node_core.specs.Standing.{ConfigState, Standing, with_value}
use Rattle.node_core.specs.Sending.{set_unless, set_transition}
use Rattle.script_text.specs.declared.event.Event.{Event}
use Rattle.install_run.specs.Holding.{Stands, raises_of, RestoresRaised, IsHeld}
use Rattle.install_run.specs.Machine.{TelegramAt}
use Rattle.install_run.specs.Turn.{NodeAt, struck_by, turn_by, call_turn, set_told, off_turn, on_turn, arm_turn}
use Rattle.install_run.specs.declared.slot.Slot.{Slot}
use Rattle.install_run.specs.declared.slot.Slot.TheVariants.{Started, Stopped, Empty}
use Rattle.install_run.specs.Slot.{IsSound, standing_of, node_at, slot_at, at_node_state}

IsRestored : ℕ → List ℕ → Type 0
IsRestored lanes image = RestoresNumbers (numbers_in lanes image) image

restored : (numbers : Numbers) (image : List ℕ) → RestoresNumbers numbers image
    → IsRestored (length numbers.marks) image
unfolding IsRestored
restored numbers image is = subst (λ ns. RestoresNumbers ns image) (sym ((has_its_numbers image).those numbers is)) is

same_lanes : (r : Raise) (numbers : Numbers) → length (after_raise r numbers).marks ≡ length numbers.marks
same_lanes (Reserve n) numbers = refl
same_lanes (Mark lane n) numbers = length-set numbers.marks lane n

some_restored : (raises : List Raise) (numbers : Numbers) (image : List ℕ) → RestoresSome raises numbers image
    → IsRestored (length numbers.marks) image
some_restored [] numbers image is = restored numbers image is
some_restored (r ∷ rs) numbers image (inl is) = restored numbers image is
some_restored (r ∷ rs) numbers image (inr rest) =
    subst (λ n. IsRestored n image) (same_lanes r numbers) (some_restored rs (after_raise r numbers) image rest)

-- so a node is sound whose memory restores the numbers that some raises of another left
pub sound_call : (raises : List Raise) (old new : NodeState SimNvm)
    → length old.standing.numbers.marks ≡ length old.config.lanes → new.config ≡ old.config
    → RestoresSome raises old.standing.numbers (sim_state new.memory).octets → IsSound (at_node_state new)
unfolding IsRestored
sound_call raises old new lanes config some =
    subst (λ n. IsRestored n (sim_state new.memory).octets) (lanes ∙ sym (ap (λ c. length c.lanes) config))
    (some_restored raises old.standing.numbers (sim_state new.memory).octets some)

-- ---- starts

pub sized : (lanes : ℕ) (image : List ℕ) → RestoresNumbers (numbers_in lanes image) image
    → length image ≡ store_size lanes
sized lanes image is = is.size ∙ ap store_size ((has_its_numbers image).lanes lanes)

-- A memory with its plan told that restores its numbers is refused for want of memory alone.
pub only_memory : (lanes : ℕ) (image : List ℕ) (fault : StoreFault) → RestoresNumbers (numbers_in lanes image) image
    → ((place : ℕ) → (Some fault ≡ Some (Unformatted place))
    ↔ (IsUnformattedAt lanes image place × (has_read (Some fault) ≡ true)))
    → ((cause : NvmFault) → fault ≢ Memory cause) → fault ≡ NoMemory
only_memory lanes image (Unformatted place) is unformatted told =
    let missing : IsUnformattedAt lanes image place = ((unformatted place).0 refl).0 in
    absurd (restores_all image (numbers_in lanes image).reserved (numbers_in lanes image).marks place is
    (subst (λ n. IsUnformattedAt n image place) (sym ((has_its_numbers image).lanes lanes)) missing))
only_memory lanes image (Memory cause) is unformatted told = absurd (told cause refl)
only_memory lanes image NoMemory is unformatted told = refl

-- ---- what stands in a memory beside a node

pub some_same : {A : Type 0} (a b : A) → Some a ≡ Some b → a ≡ b
some_same a b is = ap (λ o. unwrap_or o a) is

stands_by : (running : Bool) (st s : Standing) (config : ConfigState) (memory : State)
    → (running ≡ true → Agrees memory st.numbers.marks st.numbers.reserved)
    → length st.numbers.marks ≡ length config.lanes → st.next ≤ 2 ^ 48 → length st.values ≡ length config.objects
    → standing_of running st ≡ Some s
    → Stands s (node_at config (standing_of running st) memory)
stands_by true st s config memory agrees lanes fits values is =
    subst (λ s. Stands s (node_at config (Some st) memory)) (some_same st s is)
    (record { restores = (agrees refl).restores; each_lane = lanes; next_fits = fits; each_value = values })
stands_by false st s config memory agrees lanes fits values is = absurd cc

pub slot_stands : (slot : Slot) (s : Standing) → (slot_at slot).standing ≡ Some s → Stands s (slot_at slot)
slot_stands (Started node) s is =
    stands_by node.store.sound (node_state node).standing s (node_state node).config (sim_state node.store.memory)
    node.store.agrees node.lanes node.store.next_fits node.config.values is
slot_stands (Stopped config memory) s is = absurd cc
slot_stands Empty s is = absurd cc

-- ---- the memory of a node that ran

pub raised_call : (raises : ConfigState → Standing → List Raise) (slot : Slot) (old new : NodeState SimNvm)
    → slot_at slot ≡ at_node_state old → old.running ≡ true
    → RestoresSome (raises old.config old.standing) old.standing.numbers (sim_state new.memory).octets
    → RestoresRaised raises (slot_at slot) (at_node_state new)
raised_call raises slot old new is runs some =
    subst (λ n. RestoresRaised raises n (at_node_state new)) (sym is) (record {
      some = λ s now. subst (λ s. RestoresSome (raises old.config s) s.numbers (sim_state new.memory).octets)
          (some_same old.standing s (ap (λ r. standing_of r old.standing) (sym runs) ∙ now)) some;
    })

-- an event of a slot that makes no raises and leaves the octets
pub raised_none : (slot : Slot) (new : NodeAt) → new.octets ≡ (slot_at slot).octets
    → RestoresRaised (λ c s. []) (slot_at slot) new
raised_none slot new same = record {
  some = λ s is. subst (RestoresNumbers s.numbers) (sym same) (slot_stands slot s is).restores;
}

set_by : (fault : Option SetFault) (s after : Standing) (n : NodeAt)
    → (let t = set_unless fault s after in let struck = struck_by t s n in
    turn_by struck.answer struck t set_told n).node.octets ≡ n.octets
set_by None s after n = refl
set_by (Some fault) s after n = refl

set_octets : (object : ℕ) (value : ObjectValue) (n : NodeAt) (standing : Option Standing)
    → (call_turn (λ s. set_transition s object value) set_told n standing).node.octets ≡ n.octets
set_octets object value n None = refl
set_octets object value n (Some s) =
    set_by (set_refusal (slice_get s.values object) value) s (with_value object value s) n

off_octets : (n : NodeAt) (standing : Option Standing) → (off_turn n standing).node.octets ≡ n.octets
off_octets n None = refl
off_octets n (Some s) = refl

on_octets : (n : NodeAt) (standing : Option Standing) → (on_turn n standing).node.octets ≡ n.octets
on_octets n None = refl
on_octets n (Some s) = refl

pub set_raised : (slot : Slot) (object : ℕ) (value : ObjectValue) (new : NodeAt)
    → new ≡ (call_turn (λ s. set_transition s object value) set_told (slot_at slot) (slot_at slot).standing).node
    → RestoresRaised (λ c s. []) (slot_at slot) new
set_raised slot object value new is =
    raised_none slot new (ap (λ (n : NodeAt). n.octets) is ∙ set_octets object value (slot_at slot)
    (slot_at slot).standing)

pub off_raised : (slot : Slot) (new : NodeAt) → new ≡ (off_turn (slot_at slot) (slot_at slot).standing).node
    → RestoresRaised (λ c s. []) (slot_at slot) new
off_raised slot new is =
    raised_none slot new (ap (λ (n : NodeAt). n.octets) is ∙ off_octets (slot_at slot) (slot_at slot).standing)

pub on_raised : (slot : Slot) (new : NodeAt) → new ≡ (on_turn (slot_at slot) (slot_at slot).standing).node
    → RestoresRaised (λ c s. []) (slot_at slot) new
on_raised slot new is =
    raised_none slot new (ap (λ (n : NodeAt). n.octets) is ∙ on_octets (slot_at slot) (slot_at slot).standing)

pub arm_raised : (slot : Slot) (arms : Plan → Plan) (new : NodeAt) → new ≡ (arm_turn arms (slot_at slot)).node
    → RestoresRaised (λ c s. []) (slot_at slot) new
arm_raised slot arms new is = raised_none slot new (ap (λ (n : NodeAt). n.octets) is)

-- so it is held
pub held_by : (slot : Slot) (e : Event) (air : List TelegramAt) (old : NodeAt) → IsSound (slot_at slot)
    → RestoresRaised (raises_of e air) old (slot_at slot) → IsHeld e air old (slot_at slot)
held_by slot e air old sound raised = record { sound = sound; stands = slot_stands slot; raised = raised }

pub if_ok : {A E : Type 0} {P : A → Type 0} {Q : Type 0} (r : Result A E) → ((a : A) → P a → Q) → IfOk r P
    → IfOk r (λ a. Q)
if_ok (Ok a) gives is = gives a is
if_ok (Err e) gives is = tt
