-- A number that is kept is kept on a lane of the node: its sender has a role, and so a lane.
use Rattle.std.proofs.Common.{◌≡◌, ℕ, ◌&&◌, ◌||◌, List, [], ◌∷◌, map, nat_lt, Bool, true, false, Option, Some, None, refl, sym, ap, subst, ◌∙◌}
use Rattle.std.specs.Prelude.{◌==◌, position, if◌then◌else◌}
use Rattle.std.specs.Option.{is_some, option_map}
use Rattle.std.specs.List.{list_any}
use Rattle.knx_base.specs.declared.address.IndAddr.{IndAddr}
use Rattle.cemi_frames.specs.Frames.{Telegram}
use Rattle.key_tables.specs.declared.types.Channel.{Channel}
use Rattle.key_tables.specs.declared.types.Lane.{Lane}
use Rattle.key_tables.specs.declared.types.Row.{Row}
use Rattle.key_tables.specs.Rows.{role_of, receiver_may, lane_of, channel_of}
use Rattle.key_tables.specs.Lanes.{is_to, lanes_of, has_lane, is_group_of, SendersHaveLanes}
use Rattle.judge_rules.specs.declared.verdict.Verdict.{Verdict}
use Rattle.judge_rules.specs.declared.verdict.Verdict.TheVariants as verdict
use Rattle.judge_rules.specs.Parts.{is_group, has_tool_access, source_of, sync_service, number_in, channel_in}
use Rattle.judge_rules.specs.Checks.{Kept, first_failing, entry_checks, code_checks, check_code, check_payload, check_sender, apdu_in, key_on, on_channel, kept_by, kept_on, kept_of}
use Rattle.group_objects.specs.declared.row.ObjectRow.{ObjectRow}
use Rattle.group_objects.specs.Objects.{is_of, place_of}
use Rattle.node_core.specs.declared.outcome.Addressee.{Addressee}
use Rattle.node_core.specs.declared.outcome.Addressee.TheVariants.{Device, Object}
use Rattle.node_core.specs.Standing.{ConfigState}
use Rattle.node_core.specs.Config.{configured, groups_of}
use Rattle.node_core.specs.Receiving.{addressee}
use Rattle.node_core.specs.Laws.{KeepsOnLanes}
use Rattle.node_core.proofs.Starting.{there_where}

-- ---- what is kept, and of whom

unless_failed : (failed : Bool) (kept : Lane × ℕ) (then_kept : Kept) → (if failed then None else then_kept) ≡ Some kept
    → (failed ≡ false) × (then_kept ≡ Some kept)
unless_failed true kept then_kept is = absurd cc
unless_failed false kept then_kept is = (refl, is)

of_channel : (found : Option Channel) (kept : Lane × ℕ) (then_kept : Channel → Kept)
    → on_channel None found then_kept ≡ Some kept
    → (c : Channel) × (found ≡ Some c) × (then_kept c ≡ Some kept)
of_channel None kept then_kept is = absurd cc
of_channel (Some c) kept then_kept is = (c, refl, is)

third_passes : (first second third : Option Verdict) → is_some (first_failing (first ∷ second ∷ third ∷ [])) ≡ false
    → third ≡ None
third_passes None None None is = refl
third_passes None None (Some _) is = absurd cc
third_passes None (Some _) third is = absurd cc
third_passes (Some _) second third is = absurd cc

sender_passes : (may : Bool) (refusal : Verdict) → (if may then None else Some refusal) ≡ None → may ≡ true
sender_passes true refusal is = refl
sender_passes false refusal is = absurd cc

both : (a b : Bool) → (a && b) ≡ true → (a ≡ true) × (b ≡ true)
both true true is = (refl, refl)
both true false is = absurd cc
both false b is = absurd cc

abbrev lane_kept : Lane → Kept → Lane
lane_kept other None = other
lane_kept other (Some kept) = kept.0

kept_where : (request above : Bool) (lane : Lane) (number : ℕ) (kept : Lane × ℕ)
    → (if request then None else if above then Some (lane, number) else None) ≡ Some kept → lane ≡ kept.0
kept_where true above lane number kept is = absurd cc
kept_where false true lane number kept is = ap (lane_kept lane) is
kept_where false false lane number kept is = absurd cc

-- ---- whom it is for

some_mapped : {A B : Type 0} (f : A → B) (found : Option A) → is_some (option_map f found) ≡ is_some found
some_mapped f None = refl
some_mapped f (Some _) = refl

group_there : (destination : ℕ) (objects : List ObjectRow)
    → list_any (is_of (record { 0 = destination })) objects ≡ is_group_of (groups_of objects)
    (record { 0 = destination })
group_there destination [] = refl
group_there destination (object ∷ objects) =
    ap (λ rest. (object.group.0 == destination) || rest) (group_there destination objects)

is_own : (same : Bool) → is_some (if same then Some Device else None) ≡ true → same ≡ true
is_own true is = refl
is_own false is = absurd cc

for_node : (address : IndAddr) (objects : List ObjectRow) (group : Bool) (destination : ℕ)
    → is_some (if group then option_map Object (place_of (record { 0 = destination }) objects)
    else if destination == address.0 then Some Device else None) ≡ true
    → is_to address (groups_of objects) group destination ≡ true
for_node address objects true destination is =
    sym (group_there destination objects) ∙ sym (there_where (is_of (record { 0 = destination })) objects)
    ∙ sym (some_mapped Object (place_of (record { 0 = destination }) objects)) ∙ is
for_node address objects false destination is = is_own (destination == address.0) is

-- ---- both together

channel_parts : (rows : List Row) (t : Telegram)
    → channel_of rows (is_group t) (has_tool_access t) (source_of t) t.destination ≡ channel_in rows t
unfolding channel_in
channel_parts rows t = refl

pub keeps_on_lanes : (address : IndAddr) (rows : List Row) (objects : List ObjectRow)
    → SendersHaveLanes rows address (groups_of objects) → KeepsOnLanes (configured address rows objects)
unfolding kept_by
keeps_on_lanes address rows objects senders t mark asked kept is_for is_kept =
    let number = number_in asked t in
    let entered = unless_failed (is_some (first_failing (entry_checks rows asked t))) kept
    (on_channel None (channel_in rows t) (λ c. kept_on rows mark number c t)) is_kept in
    let found = of_channel (channel_in rows t) kept (λ c. kept_on rows mark number c t) entered.1 in
    let c = found.0 in
    let opened =
    unless_failed (is_some (first_failing (code_checks rows number c t))) kept (kept_of mark number c t) found.2 in
    let passed =
    third_passes (check_code (key_on rows c) number t) (check_payload number t (apdu_in (key_on rows c) number t))
    (check_sender rows c t) opened.0 in
    let may = both (is_some (role_of rows c (source_of t))) (receiver_may rows t.destination c)
    (sender_passes (is_some (role_of rows c (source_of t)) && receiver_may rows t.destination c) verdict.Sender
    passed) in
    let lane = kept_where (sync_service t == 2) (nat_lt mark number) (lane_of c (source_of t)) number kept opened.1 in
    subst (λ l. has_lane (lanes_of rows address (groups_of objects)) l ≡ true) lane
    (senders (is_group t) (has_tool_access t) (source_of t) t.destination c
    (for_node address objects (is_group t) t.destination is_for)
    (channel_parts rows t ∙ found.1) may.0 may.1)
