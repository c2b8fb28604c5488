-- What a telegram's line tells of the challenges is what its verdict does to them.
use Rattle.std.proofs.Common.{◌≡◌, ℕ, ◌&&◌, Bool, true, false, List, None, refl}
use Rattle.std.specs.Prelude.{if◌then◌else◌, ◌==◌}
use Rattle.cemi_frames.specs.Frames.{Telegram}
use Rattle.key_tables.specs.declared.types.Row.{Row}
use Rattle.judge_rules.specs.declared.verdict.Verdict.{Verdict}
use Rattle.judge_rules.specs.declared.verdict.Verdict.TheVariants as verdict
use Rattle.judge_rules.specs.Parts.{source_of}
use Rattle.sync_service.specs.Open.{Asked}
use Rattle.audit_core.specs.Audit.{receiver_of, telegram_line}
use Rattle.audit_core.specs.State.{exchanged, noted}

turned : (a b : Bool) → (a && b) ≡ (b && a)
turned true true = refl
turned true false = refl
turned false true = refl
turned false false = refl

pub exchanged_is_noted : (rows : List Row) (index : ℕ) (t : Telegram) (said : Verdict) (asked : Asked)
    → exchanged (source_of t) (receiver_of t) said asked ≡ noted (telegram_line rows index t said) asked
exchanged_is_noted rows index t (verdict.SyncAsk number challenge) asked = refl
exchanged_is_noted rows index t (verdict.SyncAnswer number kept) asked = λ i requester responder.
    if turned (t.destination == requester.0) (t.source == responder.0) i then None else asked requester responder
exchanged_is_noted rows index t (verdict.Accepted number service) asked = refl
exchanged_is_noted rows index t (verdict.NotFrame fault) asked = refl
exchanged_is_noted rows index t (verdict.Control octet) asked = refl
exchanged_is_noted rows index t (verdict.Plain service) asked = refl
exchanged_is_noted rows index t (verdict.BadSecure fault) asked = refl
exchanged_is_noted rows index t verdict.NoKey asked = refl
exchanged_is_noted rows index t verdict.NoPending asked = refl
exchanged_is_noted rows index t (verdict.BadCode found) asked = refl
exchanged_is_noted rows index t (verdict.BadPayload said number) asked = refl
exchanged_is_noted rows index t verdict.Sender asked = refl
exchanged_is_noted rows index t (verdict.Stale kept got) asked = refl
exchanged_is_noted rows index t verdict.Level asked = refl
exchanged_is_noted rows index t (verdict.Role needs has) asked = refl
exchanged_is_noted rows index t (verdict.Service found) asked = refl
exchanged_is_noted rows index t (verdict.Object found) asked = refl
