-- Nothing is kept of a request of a synchronisation.
use Rattle.std.proofs.Common.{◌≡◌, ℕ, ◌&&◌, Bool, true, false, List, [], ◌∷◌, Option, Some, None, refl, sym, ap, ◌∙◌}
use Rattle.std.specs.Prelude.{if◌then◌else◌, ◌==◌, nat_lt, slice_index}
use Rattle.std.specs.Option.{IfSome, is_some}
use Rattle.std.proofs.lemmas.Bool.{false≢true}
use Rattle.cemi_frames.specs.Frames.{Telegram}
use Rattle.key_tables.specs.declared.types.Channel.{Channel}
use Rattle.key_tables.specs.declared.types.Lane.{Lane}
use Rattle.key_tables.specs.declared.types.Role.{Role}
use Rattle.key_tables.specs.declared.types.Row.{Row}
use Rattle.key_tables.specs.Rows.{role_of, level_of, lane_of, is_enough}
use Rattle.plain_apdu.specs.Service as services
use Rattle.secure_apdu.specs.Secure.{algorithm_of}
use Rattle.secure_apdu.specs.Sync.{sync_values}
use Rattle.judge_rules.specs.declared.verdict.Verdict.{Verdict}
use Rattle.judge_rules.specs.declared.verdict.Verdict.TheVariants as verdict
use Rattle.judge_rules.specs.Parts.{source_of, field_in, sync_service, number_in, channel_in, service_in, bits_in}
use Rattle.judge_rules.specs.Checks.{needed_role, unless_enough, is_conf, is_service_on, check_upper, check_service, check_role, check_level, check_stale, first_failing, entry_checks, code_checks, data_checks, last_checks, key_on, apdu_in, good_verdict, verdict_or, verdict_on, verdict_of, on_channel, Kept, kept_of, kept_on, kept_by, is_ask}
use Rattle.judge_rules.proofs.Failing.{first_failing-after}

abbrev NoAsk : Option Verdict → Type 0
NoAsk check = IfSome check (λ failed. is_ask failed ≡ false)

unless_test : (b : Bool) (failed : Verdict) → is_ask failed ≡ false → NoAsk (if b then None else Some failed)
unless_test true failed other = tt
unless_test false failed other = other

where_test : (b : Bool) (failed : Verdict) → is_ask failed ≡ false → NoAsk (if b then Some failed else None)
where_test true failed other = other
where_test false failed other = tt

first_no_ask : (check : Option Verdict) (checks : List (Option Verdict)) → NoAsk check → NoAsk (first_failing checks)
    → NoAsk (first_failing (check ∷ checks))
first_no_ask None checks other others = others
first_no_ask (Some failed) checks other others = other

role_no_ask : (needs : Role) (has : Option Role) → NoAsk (unless_enough needs has)
role_no_ask needs None = tt
role_no_ask needs (Some has) = unless_test (is_enough has needs) (verdict.Role needs has) refl

data_no_ask : (rows : List Row) (mark number : ℕ) (c : Channel) (t : Telegram) (apdu : List ℕ)
    → NoAsk (first_failing (data_checks rows mark number c t apdu))
data_no_ask rows mark number c t apdu =
    first_no_ask (check_stale mark number) _ (unless_test (nat_lt mark number) _ refl)
    (first_no_ask (check_level rows c (field_in t)) _ (where_test
    (is_conf (level_of rows c) && algorithm_of (field_in t) == 0) _ refl)
    (first_no_ask (check_role rows c (source_of t) (service_in apdu)) _
    (role_no_ask (needed_role c (service_in apdu)) (role_of rows c (source_of t)))
    (first_no_ask (check_upper (slice_index apdu 0)) _ (where_test (nat_lt 3 (slice_index apdu 0)) _ refl)
    (first_no_ask (check_service c (bits_in apdu)) [] (unless_test
    (is_service_on c (services.service_of (bits_in apdu))) _ refl) tt))))

either_no_ask : (good : Verdict) (failing : Option Verdict) → is_ask good ≡ false → NoAsk failing
    → is_ask (verdict_or good failing) ≡ false
either_no_ask good None other others = other
either_no_ask good (Some failed) other others = others

nothing_else : {A : Type 0} (ask : Bool) (o : Option A) → ask ≡ false → ask ≡ true → o ≡ None
nothing_else ask o other is = elim (false≢true (sym other ∙ is)) [ ]

abbrev where_not : Bool → ℕ → ℕ → Lane → Kept
where_not request mark number lane = if request then None else if nat_lt mark number then Some (lane, number) else None

pub ask_keeps_nothing : (rows : List Row) (mark : ℕ) (asked : Option (List ℕ)) (t : Telegram)
    → is_ask (verdict_of rows mark asked t) ≡ true → kept_by rows mark asked t ≡ None
unfolding verdict_of kept_by
ask_keeps_nothing rows mark asked t = by_entry (first_failing (entry_checks rows asked t)) (channel_in rows t) where
  number : ℕ
  number = number_in asked t

  by_service : (c : Channel) (apdu : List ℕ) (is_data request : Bool)
      → is_ask (verdict_or (if is_data then verdict.Accepted number (service_in apdu)
      else if request then verdict.SyncAsk number apdu else verdict.SyncAnswer number (sync_values apdu).1)
      (first_failing (if is_data then data_checks rows mark number c t apdu else []))) ≡ true
      → where_not request mark number (lane_of c (source_of t)) ≡ None
  by_service c apdu is_data true is = refl
  by_service c apdu true false is = nothing_else _ _ (either_no_ask _ _ refl (data_no_ask rows mark number c t apdu)) is
  by_service c apdu false false is = nothing_else _ _ refl is

  by_code : (c : Channel) (first : Option Verdict) → first_failing (code_checks rows number c t) ≡ first
      → is_ask (verdict_on rows mark number c t) ≡ true → (if is_some first then None else kept_of mark number c t)
      ≡ None
  by_code c (Some failed) said is = refl
  by_code c None said is =
      let apdu = apdu_in (key_on rows c) number t in
      by_service c apdu (sync_service t == 0) (sync_service t == 2)
      (ap (λ first. is_ask (verdict_or (good_verdict number t apdu) first))
      (sym (first_failing-after (code_checks rows number c t) (last_checks rows mark number c t apdu) said)) ∙ is)

  by_entry : (first : Option Verdict) (c : Option Channel)
      → is_ask (verdict_or (on_channel verdict.NoKey c (λ c. verdict_on rows mark number c t)) first) ≡ true
      → (if is_some first then None else on_channel None c (λ c. kept_on rows mark number c t)) ≡ None
  by_entry (Some failed) c is = refl
  by_entry None None is = refl
  by_entry None (Some c) is = by_code c (first_failing (code_checks rows number c t)) refl is

-- the same, of what a call answers
pub said_ask_keeps_nothing : (rows : List Row) (mark : ℕ) (asked : Option (List ℕ)) (t : Telegram) (said : Verdict)
    (keeps : Kept)
    → said ≡ verdict_of rows mark asked t → keeps ≡ kept_by rows mark asked t → is_ask said ≡ true → keeps ≡ None
said_ask_keeps_nothing rows mark asked t said keeps is_said is_kept is =
    is_kept ∙ ask_keeps_nothing rows mark asked t (ap is_ask (sym is_said) ∙ is)
