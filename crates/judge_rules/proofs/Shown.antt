-- The text of a verdict apart from the APDU that it shows.
use Rattle.std.proofs.Common.{◌≡◌, ℕ, List, [], ◌∷◌, ◌++◌, ap, append-nil}
use Rattle.std.specs.Prelude.{codes}
use Rattle.std.specs.Fmt.{decimal}
use Rattle.hex.specs.Hex.{encode_lower, encode_with}
use Rattle.knx_base.specs.Sink.{IsPrefixOf}
use Rattle.plain_apdu.specs.Service.{name_of}
use Rattle.plain_apdu.specs.declared.service.Service.{Service}
use Rattle.judge_rules.specs.declared.verdict.Verdict.{Verdict}
use Rattle.judge_rules.specs.declared.verdict.Verdict.TheVariants.{Accepted}
use Rattle.judge_rules.specs.Text.{verdict_text}

no_digits : (front digits : List ℕ) → front ++ encode_lower [] ++ digits ≡ front ++ digits
unfolding encode_with
no_digits front digits = ap (λ text. text ++ digits) (append-nil front)

pub accepted_parts : (number : ℕ) (service : Service) (apdu : List ℕ)
    → verdict_text (Accepted number service) [] ++ encode_lower apdu ≡ verdict_text (Accepted number service) apdu
accepted_parts number service apdu =
    no_digits (codes "accepted number " ++ decimal number ++ 32 ∷ [] ++ name_of service ++ 32 ∷ []) (encode_lower apdu)

pub text_begins : (verdict : Verdict) (apdu : List ℕ) → IsPrefixOf (verdict_text verdict []) (verdict_text verdict apdu)
text_begins (Accepted number service) apdu = (encode_lower apdu, accepted_parts number service apdu)
text_begins other apdu = ([], append-nil (verdict_text other []))
