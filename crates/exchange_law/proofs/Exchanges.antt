-- A telegram that was sealed opens where it is judged under the key and the number of its sealing.
use Rattle.std.proofs.Common.{◌≡◌, ℕ, ◌+◌, ◌-◌, ◌*◌, ◌/◌, ◌%◌, ◌^◌, ◌<◌, ◌≤◌, ◌&&◌, ◌||◌, Bool, true, false, cond, eqb, nat_lt, nat_le, List, [], ◌∷◌, ◌++◌, length, drop, Option, Some, None, inl, inr, refl, sym, ap, subst, ◌∙◌, arith, length-append, length-drop}
use Rattle.std.specs.Prelude.{if◌then◌else◌, ◌==◌, slice_index, unwrap_or}
use Rattle.std.specs.Option.{is_some, option_map}
use Rattle.std.proofs.lemmas.Option.{none-some}
use Rattle.std.proofs.lemmas.List.{length-take}
use Rattle.std.proofs.lemmas.Bool.{eq-eqb}
use Rattle.knx_base.specs.Number.{octets_of, number_at}
use Rattle.knx_base.proofs.NumberLemmas.{length-octets_of, number_at-octets_of}
use Rattle.knx_ccm.specs.Sealing.{sealed, opened, line_of, said_apdu}
use Rattle.knx_ccm.proofs.SealingLemmas.{opens-found, opened-some, length-line, length-code_of}
use Rattle.knx_ccm.specs.declared.head.Head.{Head}
use Rattle.cemi_frames.specs.declared.frame.Code.TheVariants.{Ind}
use Rattle.cemi_frames.specs.Fields.{message, info_octets, long_octets}
use Rattle.cemi_frames.specs.Frames.{Telegram, said_by, repeat_mark}
use Rattle.cemi_frames.specs.Reading.{frame_at}
use Rattle.secure_apdu.specs.declared.sealing.SendHead.{SendHead}
use Rattle.plain_apdu.specs.Apdu.{apci_of}
use Rattle.plain_apdu.specs.Tpci as kinds
use Rattle.secure_apdu.specs.Secure.{bad_secure, first_fault, test, field_tests}
use Rattle.secure_apdu.specs.declared.secure.BadSecure.TheVariants as bad
use Rattle.secure_apdu.specs.Sync.{xor_number}
use Rattle.secure_apdu.specs.SealedFrame.{sealed_frame, sealed_head, sealed_fields, sealed_content}
use Rattle.key_tables.specs.declared.types.Channel.{Channel}
use Rattle.key_tables.specs.declared.types.Row.{Row}
use Rattle.key_tables.specs.Rows.{key_of, role_of, receiver_may, channel_of}
use Rattle.judge_rules.specs.declared.verdict.Verdict.{Verdict}
use Rattle.judge_rules.specs.declared.verdict.Verdict.TheVariants as verdict
use Rattle.judge_rules.specs.Parts.{sync_service, body_in, head_in, number_in, channel_in, source_of}
use Rattle.judge_rules.specs.Checks.{plain_service, check_payload, check_sender, first_failing, entry_checks, opened_checks, last_checks, key_on, good_verdict, verdict_or, verdict_on, verdict_of, on_channel}
use Rattle.judge_rules.proofs.Judging.{opened_verdict}
use Rattle.knx_base.specs.declared.address.IndAddr.{IndAddr}
use Rattle.sync_service.specs.Frames.{ask_head, answer_head, answer_payload}
use Rattle.exchange_law.specs.Exchange.{IsBetween, AreBetween, OrSender, RequestIsJudged, AnswerIsJudged}

-- ---- the telegram that a sealed frame is

abbrev pub sealed_telegram : List ℕ → SendHead → List ℕ → Telegram
sealed_telegram key head apdu =
    let fields = sealed_fields head (sealed_content key head apdu) in said_by Ind (repeat_mark fields.control) fields

word_back : (n : ℕ) → n / 256 * 256 + n % 256 ≡ n
word_back n = omega arith

sealed_frame_at : (key : List ℕ) (head : SendHead) (apdu : List ℕ)
    → frame_at (sealed_frame key head apdu) ≡ sealed_telegram key head apdu
unfolding sealed_frame message info_octets long_octets frame_at
sealed_frame_at key head apdu = λ i. record (sealed_telegram key head apdu)
    { source = word_back head.source.0 i; destination = word_back head.destination i }

-- it is a telegram between its devices, where it has tool access and is for no group
between : (key : List ℕ) (source destination : IndAddr) (head : SendHead) (apdu : List ℕ)
    → IsBetween source destination (sealed_telegram key head apdu)
    → IsBetween source destination (frame_at (sealed_frame key head apdu))
between key source destination head apdu is =
    subst (IsBetween source destination) (sym (sealed_frame_at key head apdu)) is

-- so its channel is the one between them
pub channel_between : (rows : List Row) (source destination : IndAddr) (t : Telegram) → IsBetween source destination t
    → channel_in rows t ≡ channel_of rows false true source destination.0
unfolding channel_in
channel_between rows source destination t is =
    λ i. channel_of rows (is.device i) (is.tool i) (is.source_is i) (is.destination_is i)

pub are_between : (key : List ℕ) (source destination : IndAddr) (number : ℕ) (challenge : List ℕ) (kept : ℕ)
    → AreBetween key source destination number challenge kept
are_between key source destination number challenge kept = record {
  request = between key source destination (ask_head source destination number) challenge
      (record { source_is = refl; destination_is = refl; device = refl; tool = refl });
  answer = between key source destination (answer_head source destination number challenge) (answer_payload number kept)
      (record { source_is = refl; destination_is = refl; device = refl; tool = refl });
}

opened_sealed : (key : List ℕ) (head : SendHead) (apdu : List ℕ)
    → opened key (sealed_head head) (sealed key (sealed_head head) apdu) ≡ Some apdu
opened_sealed key head apdu =
    let body = sealed key (sealed_head head) apdu in
    opened-some key (sealed_head head) body apdu
    (sym (opens-found key (sealed_head head) body (line_of key (sealed_head head) body) apdu refl refl).1) refl

sealed_opens : (rows : List Row) (c : Channel) (key : List ℕ) (head : SendHead) (apdu : List ℕ)
    → key_of rows c ≡ Some key
    → opened (key_on rows c) (head_in head.number (sealed_telegram key head apdu))
    (body_in (sealed_telegram key head apdu)) ≡ Some apdu
unfolding octets_of
sealed_opens rows c key head apdu is_key =
    (λ i. opened (unwrap_or (is_key i) []) (sealed_head head) (sealed key (sealed_head head) apdu))
    ∙ opened_sealed key head apdu

-- ---- its verdict

sync_judged : (rows : List Row) (mark : ℕ) (asked : Option (List ℕ)) (key : List ℕ) (head : SendHead) (apdu : List ℕ)
    (good : Verdict) (c : Channel)
    → channel_in rows (sealed_telegram key head apdu) ≡ Some c → key_of rows c ≡ Some key
    → first_failing (entry_checks rows asked (sealed_telegram key head apdu)) ≡ None
    → number_in asked (sealed_telegram key head apdu) ≡ head.number
    → check_payload head.number (sealed_telegram key head apdu) apdu ≡ None
    → last_checks rows mark head.number c (sealed_telegram key head apdu) apdu ≡ []
    → good_verdict head.number (sealed_telegram key head apdu) apdu ≡ good
    → OrSender good (verdict_of rows mark asked (sealed_telegram key head apdu))
unfolding verdict_of
sync_judged rows mark asked key head apdu good c is_channel is_key entered is_number payload last is_good =
    subst (OrSender good) (sym whole) (by_sender (is_some (role_of rows c (source_of t))
    && receiver_may rows t.destination c) refl) where
      t : Telegram
      t = sealed_telegram key head apdu

      whole : verdict_of rows mark asked t ≡ verdict_on rows mark head.number c t
      whole = λ i. verdict_or (on_channel verdict.NoKey (is_channel i) (λ c. verdict_on rows mark (is_number i) c t))
          (entered i)

      opens : opened (key_on rows c) (head_in head.number t) (body_in t) ≡ Some apdu
      opens = sealed_opens rows c key head apdu is_key

      by_sender : (may : Bool) → (is_some (role_of rows c (source_of t)) && receiver_may rows t.destination c) ≡ may
          → OrSender good (verdict_on rows mark head.number c t)
      by_sender true may =
          let first : first_failing (opened_checks rows head.number c t apdu) ≡ None =
          λ i. first_failing (payload i ∷ (if may i then None else Some verdict.Sender) ∷ []) in
          inl (sym (opened_verdict rows mark head.number c t apdu good opens
          (λ failed is. elim (none-some failed (sym first ∙ is)) [ ])
          (λ _. sym is_good ∙ ap (λ checks. verdict_or (good_verdict head.number t apdu) (first_failing checks))
          (sym last))))
      by_sender false may =
          let first : first_failing (opened_checks rows head.number c t apdu) ≡ Some verdict.Sender =
          λ i. first_failing (payload i ∷ (if may i then None else Some verdict.Sender) ∷ []) in
          inr (sym (opened_verdict rows mark head.number c t apdu verdict.Sender opens
          (λ failed is. ap (λ found. unwrap_or found verdict.Sender) (sym first ∙ is))
          (λ is. elim (none-some verdict.Sender (sym is ∙ first)) [ ])))

-- ---- lengths and numbers

length-sealed : (key : List ℕ) (head : Head) (apdu : List ℕ) → length (sealed key head apdu) ≡ length apdu + 4
length-sealed key head apdu =
    let body = sealed key head apdu in
    let line = line_of key head body in
    let found = opens-found key head body line apdu refl refl in
    omega (
      arith,
      length-line key head body line refl,
      ap length found.0,
      length-code_of key head apdu,
      ap length
          found.1,
      length-drop 4 line,
      length-take 4 line,
    )

length-content : (key : List ℕ) (head : SendHead) (apdu : List ℕ)
    → length (sealed_content key head apdu) ≡ length apdu + 13
length-content key head apdu =
    let body = sealed key (sealed_head head) apdu in
    omega (
      arith,
      length-append (octets_of head.shown) body,
      length-octets_of head.shown,
      length-sealed key
          (sealed_head head) apdu,
    )

number_shown : (a b c number : ℕ) (rest : List ℕ) → number < 2 ^ 48
    → number_at (a ∷ b ∷ c ∷ (octets_of number ++ rest)) 3 ≡ number
unfolding number_at octets_of
number_shown a b c number rest fits = omega arith

first_value : (number kept : ℕ) → number < 2 ^ 48 → number_at (octets_of number ++ octets_of kept) 0 ≡ number
unfolding number_at octets_of
first_value number kept fits = omega arith

second_value : (number kept : ℕ) → kept < 2 ^ 48 → number_at (octets_of number ++ octets_of kept) 6 ≡ kept
unfolding number_at octets_of
second_value number kept fits = omega arith

-- ---- the request and the answer

module _ (key : List ℕ) (source destination : IndAddr) (number : ℕ) (challenge : List ℕ) (fits : number < 2 ^ 48)
    (six : length challenge ≡ 6) where
  request_entered : (rows : List Row) (asked : Option (List ℕ)) (c : Channel)
      → channel_in rows (sealed_telegram key (ask_head source destination number) challenge) ≡ Some c
      → first_failing (entry_checks rows asked (sealed_telegram key (ask_head source destination number) challenge))
      ≡ None
  unfolding bad_secure octets_of kinds.tpci_of
  request_entered rows asked c is_channel =
      let content = sealed_content key (ask_head source destination number) challenge in
      let size : length content ≡ 19 =
      omega (arith, six, length-content key (ask_head source destination number) challenge) in
      λ i. first_failing (
      None
      ∷ (if nat_le 2 (size i) && apci_of 0x03 0xf1 == 0x3f1 then None else Some (verdict.Plain (plain_service content)))
      ∷ option_map verdict.BadSecure (first_fault (test (nat_lt (size i - 2) 13) (bad.Short (size i - 2))
      ∷ field_tests 0x92 (size i - 13) false))
      ∷ (if is_some (is_channel i) then None else Some verdict.NoKey)
      ∷ None
      ∷ [])

  pub request_judged : RequestIsJudged key source destination number challenge
  request_judged rows mark asked under =
      let head = ask_head source destination number in
      let is = sealed_frame_at key head challenge in
      let is_channel : channel_in rows (sealed_telegram key head challenge) ≡ Some under.channel =
      ap (channel_in rows) (sym is) ∙ under.channel_is in
      subst (λ t. OrSender (verdict.SyncAsk number challenge) (verdict_of rows mark asked t)) (sym is)
      (sync_judged rows mark asked key head challenge (verdict.SyncAsk number challenge) under.channel is_channel
      under.key_is
      (request_entered rows asked under.channel is_channel)
      (number_shown 0x03 0xf1 0x92 number (sealed key (sealed_head head) challenge) fits) refl refl refl)

module _ (key : List ℕ) (source destination : IndAddr) (number : ℕ) (challenge : List ℕ) (kept : ℕ)
    (fits : number < 2 ^ 48) (kept_fits : kept < 2 ^ 48)
    (shown_fits : xor_number challenge number < 2 ^ 48) (twice : xor_number challenge (xor_number challenge number)
    ≡ number) where
  answer_entered : (rows : List Row) (c : Channel) → channel_in rows
      (sealed_telegram key (answer_head source destination number challenge) (answer_payload number kept)) ≡ Some c
      → first_failing (entry_checks rows (Some challenge) (sealed_telegram key
      (answer_head source destination number challenge) (answer_payload number kept))) ≡ None
  unfolding bad_secure octets_of kinds.tpci_of
  answer_entered rows c is_channel =
      let head = answer_head source destination number challenge in
      let payload = answer_payload number kept in
      let content = sealed_content key head payload in
      let size : length content ≡ 25 = omega (
        arith,
        length-append (octets_of number) (octets_of kept),
        length-octets_of
            number,
        length-octets_of kept,
        length-content key head payload,
      ) in
      λ i. first_failing (
      None
      ∷ (if nat_le 2 (size i) && apci_of 0x03 0xf1 == 0x3f1 then None else Some (verdict.Plain (plain_service content)))
      ∷ option_map verdict.BadSecure (first_fault (test (nat_lt (size i - 2) 13) (bad.Short (size i - 2))
      ∷ field_tests 0x93 (size i - 13) false))
      ∷ (if is_some (is_channel i) then None else Some verdict.NoKey)
      ∷ None
      ∷ [])

  pub answer_judged : AnswerIsJudged key source destination number challenge kept
  answer_judged rows mark under =
      let head = answer_head source destination number challenge in
      let payload = answer_payload number kept in
      let is = sealed_frame_at key head payload in
      let is_channel : channel_in rows (sealed_telegram key head payload) ≡ Some under.channel =
      ap (channel_in rows) (sym is) ∙ under.channel_is in
      let said = first_value number kept fits in
      subst (λ t. OrSender (verdict.SyncAnswer number kept) (verdict_of rows mark (Some challenge) t)) (sym is)
      (sync_judged rows mark (Some challenge) key head payload (verdict.SyncAnswer number kept) under.channel is_channel
      under.key_is
      (answer_entered rows under.channel is_channel)
      (ap (xor_number challenge) (number_shown 0x03 0xf1 0x93 (xor_number challenge number)
      (sealed key (sealed_head head) payload) shown_fits) ∙ twice)
      (ap (λ (n : ℕ). if n == number then None else Some (verdict.BadPayload n number)) said
      ∙ ap (λ b. if b then None else Some (verdict.BadPayload number number)) (eq-eqb number number refl))
      refl (ap (verdict.SyncAnswer number) (second_value number kept kept_fits)))
