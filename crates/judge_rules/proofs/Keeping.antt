-- What is kept of a telegram is kept on its lane, above the mark.
use Rattle.std.proofs.Common.{◌≡◌, ℕ, ◌<◌, Bool, true, false, List, Option, Some, None, refl, sym, ap, subst, ◌∷◌, [], ◌∙◌}
use Rattle.std.specs.Prelude.{if◌then◌else◌, ◌==◌, nat_lt}
use Rattle.std.specs.Option.{option_map, is_some, IfSome}
use Rattle.std.proofs.lemmas.Bool.{ltb-true, false≢true}
use Rattle.std.proofs.lemmas.Option.{none-some, cond_some}
use Rattle.cemi_frames.specs.Frames.{Telegram}
use Rattle.key_tables.specs.declared.types.Channel.{Channel}
use Rattle.key_tables.specs.declared.types.Lane.{Lane}
use Rattle.key_tables.specs.declared.types.Row.{Row}
use Rattle.key_tables.specs.Rows.{lane_of}
use Rattle.judge_rules.specs.declared.verdict.Verdict.{Verdict}
use Rattle.judge_rules.specs.Parts.{source_of, channel_in, number_in, sync_service}
use Rattle.judge_rules.specs.Checks.{lane_checks, entry_checks, check_pending, code_checks, lane_in, first_failing, on_channel, Kept, kept_of, kept_on, kept_by}
use Rattle.judge_rules.proofs.Failing.{first_failing-stays}

-- there is an answer on the other way alone
pub on_other_way : {A : Type 0} (b : Bool) (o : Option A) (x : A) → (if b then None else o) ≡ Some x → (b ≡ false)
    × (o ≡ Some x)
on_other_way true o x said = elim (none-some x said) [ ]
on_other_way false o x said = (refl, said)

-- this was kept of a telegram with this lane or none, above the mark
pub record IsKept (lane : Option Lane) (mark : ℕ) (kept : Lane × ℕ) : Type 0 where
  pub on_lane : lane ≡ Some kept.0
  pub above : mark < kept.1

pub kept_of-parts : (mark number : ℕ) (c : Channel) (t : Telegram) (kept : Lane × ℕ)
    → kept_of mark number c t ≡ Some kept
    → IsKept (Some (lane_of c (source_of t))) mark kept
kept_of-parts mark number c t kept said =
    let not_asked = on_other_way (sync_service t == 2) _ kept said in
    let above = cond_some (nat_lt mark number) _ kept not_asked.1 in
    record {
      on_lane = ap (λ k. Some k.0) above.1;
      above = subst (λ k. mark < k.1) above.1 (ltb-true mark number above.0);
    }

pub lanes_pass : (rows : List Row) (asked : Option (List ℕ)) (t : Telegram) (first : Option Verdict)
    → first_failing (lane_checks rows t) ≡ first
    → is_some (first_failing (entry_checks rows asked t)) ≡ false → is_some (first_failing (lane_checks rows t)) ≡ false
lanes_pass rows asked t None is passed = ap is_some is
lanes_pass rows asked t (Some failed) is passed =
    elim (false≢true (sym passed ∙ ap is_some (first_failing-stays (lane_checks rows t) (check_pending asked t ∷ [])
    failed is))) [ ]

on_its_channel : (rows : List Row) (mark : ℕ) (asked : Option (List ℕ)) (t : Telegram) (kept : Lane × ℕ)
    (c : Option Channel)
    → on_channel None c (λ c. kept_on rows mark (number_in asked t) c t) ≡ Some kept
    → IsKept (option_map (λ c. lane_of c (source_of t)) c) mark kept
on_its_channel rows mark asked t kept None said = elim (none-some kept said) [ ]
on_its_channel rows mark asked t kept (Some c) said =
    kept_of-parts mark (number_in asked t) c t kept (on_other_way
    (is_some (first_failing (code_checks rows (number_in asked t) c t))) _ kept said).1

-- what is kept of a telegram
pub kept_by-parts : (rows : List Row) (mark : ℕ) (asked : Option (List ℕ)) (t : Telegram) (kept : Lane × ℕ)
    → kept_by rows mark asked t ≡ Some kept → IsKept (lane_in rows t) mark kept
unfolding kept_by lane_in
kept_by-parts rows mark asked t kept said =
    let passed = on_other_way (is_some (first_failing (entry_checks rows asked t))) _ kept said in
    let on = on_its_channel rows mark asked t kept (channel_in rows t) passed.1 in
    record {
      on_lane = ap (λ b. if b then None else option_map (λ c. lane_of c (source_of t)) (channel_in rows t))
          (lanes_pass rows asked t _ refl passed.0) ∙ on.on_lane;
      above = on.above;
    }

-- the same, of what a call answers

pub keeps_on_lane : (rows : List Row) (mark : ℕ) (asked : Option (List ℕ)) (t : Telegram) (keeps : Kept)
    → keeps ≡ kept_by rows mark asked t
    → IfSome keeps (λ kept. lane_in rows t ≡ Some kept.0)
keeps_on_lane rows mark asked t None is = tt
keeps_on_lane rows mark asked t (Some kept) is = (kept_by-parts rows mark asked t kept (sym is)).on_lane

pub keeps_above : (rows : List Row) (mark : ℕ) (asked : Option (List ℕ)) (t : Telegram) (keeps : Kept)
    → keeps ≡ kept_by rows mark asked t
    → IfSome keeps (λ kept. mark < kept.1)
keeps_above rows mark asked t None is = tt
keeps_above rows mark asked t (Some kept) is = (kept_by-parts rows mark asked t kept (sym is)).above
