-- Statement: the verdict on a frame as a report prints it.
use Rattle.std.specs.Prelude.{ℕ, ◌/◌, ◌%◌, List, [], ◌∷◌, ◌++◌, drop, codes, Option, Some, None}
use Rattle.std.specs.Fmt.{decimal}
use Rattle.hex.specs.Hex.{encode_lower}
use Rattle.plain_apdu.specs.Service.{name_of}
use Rattle.plain_apdu.specs.declared.service.Service.{Service}
use Rattle.cemi_frames.specs.declared.frame.NotFrame.{NotFrame}
use Rattle.cemi_frames.specs.declared.frame.NotFrame.TheVariants as fault
use Rattle.secure_apdu.specs.declared.secure.BadSecure.{BadSecure}
use Rattle.secure_apdu.specs.declared.secure.BadSecure.TheVariants as bad
use Rattle.plain_apdu.specs.declared.object.BadObject.{BadObject}
use Rattle.plain_apdu.specs.declared.object.BadObject.TheVariants as object
use Rattle.key_tables.specs.declared.types.Role.{Role}
use Rattle.key_tables.specs.declared.types.Role.TheVariants.{Observe, Command, Manage}
use Rattle.judge_rules.specs.declared.verdict.BadService.{BadService}
use Rattle.judge_rules.specs.declared.verdict.BadService.TheVariants as badly
use Rattle.judge_rules.specs.declared.verdict.Verdict.{Verdict}
use Rattle.judge_rules.specs.declared.verdict.Verdict.TheVariants as verdict

-- an octet in two hexadecimal digits
abbrev pub octet_text : ℕ → List ℕ
octet_text octet = encode_lower (octet ∷ [])

abbrev pub not_frame_text : NotFrame → List ℕ
not_frame_text (fault.Short found) = codes "not-frame short " ++ decimal found
not_frame_text (fault.Code code) = codes "not-frame code " ++ octet_text code
not_frame_text (fault.Info place) = codes "not-frame info " ++ decimal place
not_frame_text (fault.Format control) = codes "not-frame format " ++ octet_text control
not_frame_text fault.Escape = codes "not-frame escape"
not_frame_text (fault.Length said found) = codes "not-frame length " ++ decimal said ++ 32 ∷ [] ++ decimal found
not_frame_text (fault.Check said computed) =
    codes "not-frame check " ++ octet_text said ++ 32 ∷ [] ++ octet_text computed
not_frame_text (fault.Acknowledge octet) = codes "not-frame acknowledge " ++ octet_text octet

abbrev pub bad_secure_text : BadSecure → List ℕ
bad_secure_text (bad.Short found) = codes "bad-secure short " ++ decimal found
bad_secure_text (bad.Algorithm algorithm) = codes "bad-secure algorithm " ++ decimal algorithm
bad_secure_text bad.Broadcast = codes "bad-secure broadcast"
bad_secure_text (bad.Service service) = codes "bad-secure service " ++ decimal service
bad_secure_text (bad.Sync field length) = codes "bad-secure sync " ++ octet_text field ++ 32 ∷ [] ++ decimal length

-- a frame of one octet has no octets for a service
abbrev pub service_text : Option Service → List ℕ
service_text (Some service) = name_of service
service_text None = codes "Short"

abbrev pub role_name : Role → List ℕ
role_name Observe = codes "observe"
role_name Command = codes "command"
role_name Manage = codes "manage"

-- ten bits in three digits
abbrev pub bits_text : ℕ → List ℕ
bits_text bits = drop 1 (encode_lower (bits / 256 ∷ bits % 256 ∷ []))

abbrev pub bad_service_text : BadService → List ℕ
bad_service_text (badly.UpperBits octet) = codes "service upper " ++ octet_text octet
bad_service_text (badly.Code bits) = codes "service " ++ bits_text bits

abbrev pub bad_object_text : BadObject → List ℕ
bad_object_text object.Flag = codes "object flag"
bad_object_text (object.Size found wanted) = codes "object size " ++ decimal found ++ 32 ∷ [] ++ decimal wanted

-- the text of a verdict, with the APDU that was opened
abbrev pub verdict_text : Verdict → List ℕ → List ℕ
verdict_text (verdict.Accepted number service) apdu =
    codes "accepted number " ++ decimal number ++ 32 ∷ [] ++ name_of service ++ 32 ∷ [] ++ encode_lower apdu
verdict_text (verdict.SyncAsk number challenge) apdu =
    codes "sync-ask number " ++ decimal number ++ codes " challenge " ++ encode_lower challenge
verdict_text (verdict.SyncAnswer number kept) apdu =
    codes "sync-answer number " ++ decimal number ++ codes " kept " ++ decimal kept
verdict_text (verdict.NotFrame found) apdu = not_frame_text found
verdict_text (verdict.Control octet) apdu = codes "control " ++ octet_text octet
verdict_text (verdict.Plain service) apdu = codes "plain " ++ service_text service
verdict_text (verdict.BadSecure found) apdu = bad_secure_text found
verdict_text verdict.NoKey apdu = codes "no-key"
verdict_text verdict.NoPending apdu = codes "no-pending"
verdict_text (verdict.BadCode found) apdu =
    codes "bad-code said " ++ encode_lower found.said ++ codes " computed " ++ encode_lower found.computed
verdict_text (verdict.BadPayload said number) apdu =
    codes "bad-payload said " ++ decimal said ++ codes " number " ++ decimal number
verdict_text verdict.Sender apdu = codes "sender"
verdict_text (verdict.Stale kept got) apdu = codes "stale kept " ++ decimal kept ++ codes " got " ++ decimal got
verdict_text verdict.Level apdu = codes "level"
verdict_text (verdict.Role needs has) apdu = codes "role needs " ++ role_name needs ++ codes " has " ++ role_name has
verdict_text (verdict.Service found) apdu = bad_service_text found
verdict_text (verdict.Object found) apdu = bad_object_text found
