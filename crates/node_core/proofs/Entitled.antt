-- A telegram whose verdict is good passes every check, and so has a channel with a key and a sender that may send
-- there.
use Rattle.std.proofs.Common.{◌≡◌, ℕ, ◌&&◌, ◌||◌, List, [], ◌∷◌, Bool, true, false, Option, Some, None, refl, sym, ap, ◌∙◌}
use Rattle.std.specs.Prelude.{◌==◌, ◌-◌, length, slice_index, nat_lt, if◌then◌else◌}
use Rattle.std.specs.Option.{is_some, option_map}
use Rattle.std.proofs.lemmas.Bool.{false≢true}
use Rattle.cemi_frames.specs.Frames.{Telegram}
use Rattle.key_tables.specs.declared.types.Channel.{Channel}
use Rattle.key_tables.specs.declared.types.Role.{Role}
use Rattle.key_tables.specs.declared.types.Row.{Row}
use Rattle.key_tables.specs.Rows.{key_of, role_of, is_enough, level_of}
use Rattle.plain_apdu.specs.declared.service.Service.{Service}
use Rattle.plain_apdu.specs.Service as services
use Rattle.secure_apdu.specs.declared.secure.BadSecure.{BadSecure}
use Rattle.secure_apdu.specs.declared.secure.BadSecure.TheVariants as secure
use Rattle.secure_apdu.specs.Secure.{algorithm_of, service_of, is_broadcast, is_unknown, is_sync, is_misfit, test, first_fault, bad_secure}
use Rattle.secure_apdu.specs.Sync.{sync_values}
use Rattle.judge_rules.specs.declared.verdict.Verdict.{Verdict}
use Rattle.judge_rules.specs.declared.verdict.Verdict.TheVariants as verdict
use Rattle.judge_rules.specs.declared.verdict.BadService.TheVariants as bad
use Rattle.judge_rules.specs.Parts.{is_group, source_of, sync_service, number_in, channel_in, field_in, service_in, bits_in}
use Rattle.judge_rules.specs.Checks.{check_control, check_plain, check_secure, check_key, check_pending, unless_opened, codes_in, check_code, check_payload, check_sender, check_stale, check_level, is_conf, check_role, needed_role, unless_enough, check_upper, check_service, is_service_on, first_failing, entry_checks, code_checks, data_checks, last_checks, good_verdict, verdict_or, verdict_on, on_channel, apdu_in, key_on, verdict_of, is_good, is_ask, IsEntitled}
use Rattle.judge_rules.proofs.Channels.{channel_in_has_key}
use Rattle.judge_rules.proofs.Entitling.{entitled}

-- ---- no check fails with a good verdict

abbrev pub IsBad : Option Verdict → Type 0
IsBad None = Unit {0}
IsBad (Some failed) = is_good failed ≡ false

bad_if : (passes : Bool) (failed : Verdict) → is_good failed ≡ false → IsBad (if passes then None else Some failed)
bad_if true failed is = tt
bad_if false failed is = is

bad_unless : (fails : Bool) (failed : Verdict) → is_good failed ≡ false → IsBad (if fails then Some failed else None)
bad_unless true failed is = is
bad_unless false failed is = tt

bad_where : (asks : Bool) (check : Option Verdict) → IsBad check → IsBad (if asks then check else None)
bad_where true check is = is
bad_where false check is = tt

bad_secures : (found : Option BadSecure) → IsBad (option_map verdict.BadSecure found)
bad_secures None = tt
bad_secures (Some _) = refl

bad_code : (apdu : Option (List ℕ)) (codes : _) → IsBad (unless_opened apdu codes)
bad_code (Some _) codes = tt
bad_code None codes = refl

bad_role : (needs : Role) (has : Option Role) → IsBad (unless_enough needs has)
bad_role needs None = tt
bad_role needs (Some has) = bad_if (is_enough has needs) (verdict.Role needs has) refl

bad_first : (check : Option Verdict) (rest : List (Option Verdict)) → IsBad check → IsBad (first_failing rest)
    → IsBad (first_failing (check ∷ rest))
bad_first None rest is others = others
bad_first (Some failed) rest is others = is

bad_entry : (rows : List Row) (asked : Option (List ℕ)) (t : Telegram)
    → IsBad (first_failing (entry_checks rows asked t))
bad_entry rows asked t =
    bad_first (check_control t) _ (bad_if _ _ refl)
    (bad_first (check_plain t) _ (bad_if _ _ refl)
    (bad_first (check_secure t) _ (bad_secures (bad_secure t.content (is_group t)))
    (bad_first (check_key rows t) _ (bad_if _ _ refl)
    (bad_first (check_pending asked t) [] (bad_where (sync_service t == 3) _
    (bad_if (is_some asked) verdict.NoPending refl)) tt))))

bad_data : (rows : List Row) (mark number : ℕ) (c : Channel) (t : Telegram) (apdu : List ℕ)
    → IsBad (first_failing (data_checks rows mark number c t apdu))
bad_data rows mark number c t apdu =
    bad_first (check_stale mark number) _ (bad_if (nat_lt mark number) (verdict.Stale mark number) refl)
    (bad_first (check_level rows c (field_in t)) _
    (bad_unless (is_conf (level_of rows c) && algorithm_of (field_in t) == 0) verdict.Level refl)
    (bad_first (check_role rows c (source_of t) (service_in apdu)) _
    (bad_role (needed_role c (service_in apdu)) (role_of rows c (source_of t)))
    (bad_first (check_upper (slice_index apdu 0)) _
    (bad_unless (nat_lt 3 (slice_index apdu 0)) (verdict.Service (bad.UpperBits (slice_index apdu 0))) refl)
    (bad_first (check_service c (bits_in apdu)) []
    (bad_if (is_service_on c (services.service_of (bits_in apdu))) (verdict.Service (bad.Code (bits_in apdu))) refl)
    tt))))

bad_last : (is_data : Bool) (checks : List (Option Verdict)) → IsBad (first_failing checks)
    → IsBad (first_failing (if is_data then checks else []))
bad_last true checks is = is
bad_last false checks is = tt

bad_on : (rows : List Row) (mark number : ℕ) (c : Channel) (t : Telegram) (apdu : List ℕ) (rest : List (Option Verdict))
    → IsBad (first_failing rest)
    → IsBad (first_failing (check_code (key_on rows c) number t ∷ check_payload number t apdu ∷ check_sender rows c t
    ∷ rest))
bad_on rows mark number c t apdu rest others =
    bad_first (check_code (key_on rows c) number t) _
    (bad_code _ (codes_in (key_on rows c) number t))
    (bad_first (check_payload number t apdu) _
    (bad_where (sync_service t == 3) _ (bad_if ((sync_values apdu).0 == number)
    (verdict.BadPayload (sync_values apdu).0 number) refl))
    (bad_first (check_sender rows c t) rest (bad_if _ verdict.Sender refl) others))

-- ---- so a good verdict is that of a telegram where none fails

good_where : (good : Verdict) (failed : Option Verdict) → IsBad failed → is_good (verdict_or good failed) ≡ true
    → failed ≡ None
good_where good None is_bad is = refl
good_where good (Some failed) is_bad is = elim (false≢true (sym is_bad ∙ is)) [ ]

third_passes : (first second third : Option Verdict) (rest : List (Option Verdict))
    → first_failing (first ∷ second ∷ third ∷ rest) ≡ None
    → third ≡ None
third_passes None None None rest is = refl
third_passes None None (Some _) rest is = absurd cc
third_passes None (Some _) third rest is = absurd cc
third_passes (Some _) second third rest is = absurd cc

-- the first three pass, and so do those after them
parts_pass : (first second third : Option Verdict) (rest : List (Option Verdict))
    → first_failing (first ∷ second ∷ third ∷ rest) ≡ None
    → (first_failing (first ∷ second ∷ third ∷ []) ≡ None) × (first_failing rest ≡ None)
parts_pass None None None rest is = (refl, is)
parts_pass None None (Some _) rest is = absurd cc
parts_pass None (Some _) third rest is = absurd cc
parts_pass (Some _) second third rest is = absurd cc

good_on : (found : Option Channel) (of : Channel → Verdict) → is_good (on_channel verdict.NoKey found of) ≡ true
    → (c : Channel) × (found ≡ Some c) × (on_channel verdict.NoKey found of ≡ of c)
good_on None of is = absurd cc
good_on (Some c) of is = (c, refl, refl)

-- A telegram of this channel that passes every check has this verdict.
pub record Passes (rows : List Row) (mark : ℕ) (asked : Option (List ℕ)) (t : Telegram) : Type 0 where
  pub channel : Channel
  pub channel_is : channel_in rows t ≡ Some channel
  pub entered : first_failing (entry_checks rows asked t) ≡ None
  pub coded : first_failing (code_checks rows (number_in asked t) channel t) ≡ None
  pub sender : check_sender rows channel t ≡ None
  pub last : first_failing (last_checks rows mark (number_in asked t) channel t
      (apdu_in (key_on rows channel) (number_in asked t) t)) ≡ None
  pub verdict_is : verdict_of rows mark asked t
      ≡ good_verdict (number_in asked t) t (apdu_in (key_on rows channel) (number_in asked t) t)

pub passes : (rows : List Row) (mark : ℕ) (asked : Option (List ℕ)) (t : Telegram)
    → is_good (verdict_of rows mark asked t) ≡ true
    → Passes rows mark asked t
unfolding verdict_of
passes rows mark asked t is =
    let number = number_in asked t in
    let of : Channel → Verdict = λ c. verdict_on rows mark number c t in
    let entry = first_failing (entry_checks rows asked t) in
    let entered = good_where (on_channel verdict.NoKey (channel_in rows t) of) entry (bad_entry rows asked t) is in
    let whole = ap (verdict_or (on_channel verdict.NoKey (channel_in rows t) of)) entered in
    let found = good_on (channel_in rows t) of (sym (ap is_good whole) ∙ is) in
    let c = found.0 in
    let apdu = apdu_in (key_on rows c) number t in
    let last = last_checks rows mark number c t apdu in
    let good = good_verdict number t apdu in
    let checks = first_failing (check_code (key_on rows c) number t ∷ check_payload number t apdu
    ∷ check_sender rows c t ∷ last) in
    let none = good_where good checks
    (bad_on rows mark number c t apdu last (bad_last (sync_service t == 0) (data_checks rows mark number c t apdu)
    (bad_data rows mark number c t apdu)))
    (sym (ap is_good found.2) ∙ sym (ap is_good whole) ∙ is) in
    let parts = parts_pass (check_code (key_on rows c) number t) (check_payload number t apdu) (check_sender rows c t)
    last none in
    record {
      channel = c;
      channel_is = found.1;
      entered = entered;
      coded = parts.0;
      last = parts.1;
      sender = third_passes (check_code (key_on rows c) number t) (check_payload number t apdu) (check_sender rows c t)
          last none;
      verdict_is = whole ∙ found.2 ∙ ap (verdict_or good) none;
    }

key_where : (rows : List Row) (c : Channel) (key : Option (List ℕ)) → key_of rows c ≡ key → (key_of rows c ≡ None → ⊥)
    → (k : List ℕ) × (key_of rows c ≡ Some k)
key_where rows c None is some = elim (some is) [ ]
key_where rows c (Some k) is some = (k, is)

pub good_is_entitled : (rows : List Row) (mark : ℕ) (asked : Option (List ℕ)) (t : Telegram)
    → is_good (verdict_of rows mark asked t) ≡ true
    → IsEntitled rows t
good_is_entitled rows mark asked t is =
    let p = passes rows mark asked t is in
    let key =
    key_where rows p.channel (key_of rows p.channel) refl (channel_in_has_key rows t p.channel p.channel_is) in
    entitled rows asked t p.channel key.0 p.entered p.channel_is key.1 p.sender

-- ---- a request is for a device

pub ask_is_good : (said : Verdict) → is_ask said ≡ true → is_good said ≡ true
ask_is_good (verdict.SyncAsk _ _) is = refl
ask_is_good (verdict.Accepted _ _) is = absurd cc
ask_is_good (verdict.SyncAnswer _ _) is = absurd cc
ask_is_good (verdict.NotFrame _) is = absurd cc
ask_is_good (verdict.Control _) is = absurd cc
ask_is_good (verdict.Plain _) is = absurd cc
ask_is_good (verdict.BadSecure _) is = absurd cc
ask_is_good verdict.NoKey is = absurd cc
ask_is_good verdict.NoPending is = absurd cc
ask_is_good (verdict.BadCode _) is = absurd cc
ask_is_good (verdict.BadPayload _ _) is = absurd cc
ask_is_good verdict.Sender is = absurd cc
ask_is_good (verdict.Stale _ _) is = absurd cc
ask_is_good verdict.Level is = absurd cc
ask_is_good (verdict.Role _ _) is = absurd cc
ask_is_good (verdict.Service _) is = absurd cc
ask_is_good (verdict.Object _) is = absurd cc

asks_by : (is_data is_request : Bool) (number kept : ℕ) (service : Service) (challenge : List ℕ)
    → is_ask (if is_data then verdict.Accepted number service
    else if is_request then verdict.SyncAsk number challenge else verdict.SyncAnswer number kept) ≡ true
    → is_request ≡ true
asks_by true is_request number kept service challenge is = absurd cc
asks_by false true number kept service challenge is = refl
asks_by false false number kept service challenge is = absurd cc

none_found : (found : Option BadSecure) → option_map verdict.BadSecure found ≡ None → found ≡ None
none_found None is = refl
none_found (Some fault) is = absurd cc

last_applies : (a b c d e : Bool) (fa fb fc fd fe : BadSecure)
    → first_fault (test a fa ∷ test b fb ∷ test c fc ∷ test d fd ∷ test e fe ∷ []) ≡ None → e ≡ false
last_applies true b c d e fa fb fc fd fe is = absurd cc
last_applies false true c d e fa fb fc fd fe is = absurd cc
last_applies false false true d e fa fb fc fd fe is = absurd cc
last_applies false false false true e fa fb fc fd fe is = absurd cc
last_applies false false false false true fa fb fc fd fe is = absurd cc
last_applies false false false false false fa fb fc fd fe is = refl

no_request : (request answer misfit plain group : Bool) → ((request || answer) && (misfit || plain || group)) ≡ false
    → request ≡ true
    → group ≡ false
no_request true answer misfit plain false is asks = refl
no_request true answer true plain true is asks = absurd cc
no_request true answer false true true is asks = absurd cc
no_request true answer false false true is asks = absurd cc
no_request false answer misfit plain group is asks = absurd cc

request_to_device : (content : List ℕ) (group : Bool) → bad_secure content group ≡ None
    → (service_of (slice_index content 2) == 2) ≡ true → group ≡ false
unfolding bad_secure
request_to_device content group is asks =
    let field = slice_index content 2 in
    no_request (service_of field == 2) (service_of field == 3) (is_misfit (service_of field) (length content - 13))
    (algorithm_of field == 0) group
    (last_applies (nat_lt (length content - 2) 13) (nat_lt 1 (algorithm_of field)) (is_broadcast field)
    (is_unknown (service_of field))
    (is_sync (service_of field) && (is_misfit (service_of field) (length content - 13) || algorithm_of field == 0
    || group))
    (secure.Short (length content - 2)) (secure.Algorithm (algorithm_of field)) secure.Broadcast
    (secure.Service (service_of field))
    (secure.Sync field (length content - 13)) is) asks

pub is_no_group : (rows : List Row) (mark : ℕ) (asked : Option (List ℕ)) (t : Telegram)
    → is_ask (verdict_of rows mark asked t) ≡ true
    → is_group t ≡ false
is_no_group rows mark asked t is =
    let p = passes rows mark asked t (ask_is_good (verdict_of rows mark asked t) is) in
    let number = number_in asked t in
    let apdu = apdu_in (key_on rows p.channel) number t in
    let asks = asks_by (sync_service t == 0) (sync_service t == 2) number (sync_values apdu).1 (service_in apdu) apdu
    (sym (ap is_ask p.verdict_is) ∙ is) in
    let is_secure = third_passes (check_control t) (check_plain t) (check_secure t)
    (check_key rows t ∷ check_pending asked t ∷ []) p.entered in
    request_to_device t.content (is_group t) (none_found (bad_secure t.content (is_group t)) is_secure) asks
