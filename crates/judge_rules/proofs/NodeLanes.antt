-- The sender of a telegram that is kept may send, and so it has a lane at the node.
use Rattle.std.proofs.Common.{◌≡◌, ℕ, true, false, List, [], ◌∷◌, Option, Some, None, refl, subst}
use Rattle.std.specs.List.{list_any}
use Rattle.std.specs.Option.{is_some}
use Rattle.std.proofs.lemmas.Option.{none-some}
use Rattle.cemi_frames.specs.Frames.{Telegram}
use Rattle.knx_base.specs.declared.address.GroupAddr.{GroupAddr}
use Rattle.knx_base.specs.declared.address.IndAddr.{IndAddr}
use Rattle.key_tables.specs.declared.types.Channel.{Channel}
use Rattle.key_tables.specs.declared.types.Lane.{Lane}
use Rattle.key_tables.specs.declared.types.Row.{Row}
use Rattle.key_tables.specs.Rows.{role_of, receiver_may, lane_of}
use Rattle.key_tables.specs.Lanes.{has_lane, is_any, is_to, lanes_of}
use Rattle.key_tables.proofs.SendersLanes.{lane_there}
use Rattle.judge_rules.specs.declared.verdict.Verdict.{Verdict}
use Rattle.judge_rules.specs.Parts.{is_group, has_tool_access, source_of, channel_in, number_in}
use Rattle.judge_rules.specs.Checks.{entry_checks, code_checks, first_failing, on_channel, kept_on, kept_by}
use Rattle.judge_rules.specs.NodeLanes.{KeptOnItsLanes}
use Rattle.judge_rules.proofs.Keeping.{on_other_way, kept_of-parts}
use Rattle.judge_rules.proofs.Entitling.{both_where}

third_passes : (code payload sender : Option Verdict) → is_some (first_failing (code ∷ payload ∷ sender ∷ [])) ≡ false
    → sender ≡ None
third_passes (Some _) payload sender passed = absurd cc
third_passes None (Some _) sender passed = absurd cc
third_passes None None (Some _) passed = absurd cc
third_passes None None None passed = refl

module _ (rows : List Row) (named : list_any is_any rows ≡ false) (node : IndAddr) (groups : List GroupAddr) where
  on_its_channel : (mark number : ℕ) (t : Telegram) (kept : Lane × ℕ)
      → is_to node groups (is_group t) t.destination ≡ true
      → (c : Option Channel) → channel_in rows t ≡ c → on_channel None c (λ c. kept_on rows mark number c t) ≡ Some kept
      → has_lane (lanes_of rows node groups) kept.0 ≡ true
  unfolding channel_in
  on_its_channel mark number t kept to None is said = elim (none-some kept said) [ ]
  on_its_channel mark number t kept to (Some c) is said =
      let passed = on_other_way (is_some (first_failing (code_checks rows number c t))) _ kept said in
      let may = both_where (is_some (role_of rows c (source_of t))) (receiver_may rows t.destination c) _
      (third_passes _ _ _ passed.0) in
      let there = lane_there rows named node groups (is_group t) (has_tool_access t) (source_of t) t.destination c to is
      may.0 may.1 in
      let lane_is : lane_of c (source_of t) ≡ kept.0 = cc ((kept_of-parts mark number c t kept passed.1).on_lane) in
      subst (λ lane. has_lane (lanes_of rows node groups) lane ≡ true) lane_is there

  pub kept_place : KeptOnItsLanes rows node groups
  unfolding kept_by
  kept_place mark asked t kept to said =
      on_its_channel mark (number_in asked t) t kept to (channel_in rows t) refl
      (on_other_way (is_some (first_failing (entry_checks rows asked t))) _ kept said).1
