-- A lane of a device without a colon.
use Rattle.std.proofs.Common.{◌≡◌, ℕ, List, [], length, Option, Some, None, Ok, Err, refl, sym, ap, ◌∙◌, arith}
use Rattle.std.specs.Prelude.{Result, MatchOption}
use Rattle.std.specs.List.{position_or_len, before_first, after_first}
use Rattle.std.proofs.Math.ListN.{drop_of_length-le}
use Rattle.knx_base.specs.declared.cause.Cause.{Cause}
use Rattle.knx_base.specs.declared.cause.Cause.TheVariants as cause
use Rattle.knx_base.specs.declared.address.IndAddr.{IndAddr}
use Rattle.knx_base.specs.Address.{individual_of}
use Rattle.knx_base.specs.Decimal.{decimal_up_to, decimal_number}
use Rattle.key_tables.specs.declared.types.Lane.{Lane}
use Rattle.key_tables.specs.declared.types.Lane.TheVariants as lane
use Rattle.key_tables.specs.Text.{◌>>=◌}
use Rattle.script_text.specs.Words.{is_colon, sender_at, lane_device, tool_lane}

abbrev lane_from : Result IndAddr Cause → Result IndAddr Cause → Result Lane Cause
lane_from first second = first >>= λ device. second >>= λ sender. Ok (lane.Tool device sender)

nothing : individual_of [] ≡ None
unfolding individual_of decimal_up_to decimal_number
nothing = refl

refused : (found : Option ℕ) → Err cause.Lane ≡ lane_from (sender_at found) (Err cause.Lane)
refused None = refl
refused (Some value) = refl

pub without_colon : (text : List ℕ) → position_or_len is_colon text ≡ length text → Err cause.Lane ≡ tool_lane text
without_colon text none =
    let empty : after_first is_colon text ≡ [] = drop_of_length-le text (omega (arith, none)) in
    let lost : lane_device (after_first is_colon text) ≡ Err cause.Lane = ap lane_device empty ∙ ap sender_at nothing in
    refused (individual_of (before_first is_colon text)) ∙ ap (lane_from (lane_device (before_first is_colon text)))
    (sym lost)

pub when_none : {A : Type 0} {P : Type 0} (Q : A → Type 0) (found : Option A) → found ≡ None → MatchOption found P Q → P
when_none Q None is holds = holds
when_none Q (Some x) is holds = absurd cc
