-- What the encoding of a text answers. This is statement.
use Rattle.std.specs.Prelude.{ℕ, List, [], ◌∷◌, ◌++◌, codes, Option, Some, None}
use Rattle.hex.specs.Hex.{encode_lower}
use Rattle.datapoints.specs.declared.dpt.Dpt.{Dpt}
use Rattle.datapoints.specs.Apdus.{apdu_for}
use Rattle.knxsec_app.specs.declared.status.Status.TheVariants.{Done, Alarm}
use Rattle.knxsec_app.specs.Answer.{Answer}

-- an APDU in hexadecimal
abbrev pub apdu_answer : List ℕ → Answer
apdu_answer apdu = record { report = encode_lower apdu ++ 10 ∷ []; status = Done }

abbrev pub apdu_or_none : Option (List ℕ) → Answer
apdu_or_none (Some apdu) = apdu_answer apdu
apdu_or_none None = record { report = codes "no-value\n"; status = Alarm }

-- the ten bits of GroupValue_Write
abbrev pub write_bits : ℕ
write_bits = 0x080

-- the APDU of a write that carries the value of the text, or that the text is of none
abbrev pub encoding_answer : Dpt → List ℕ → Answer
encoding_answer dpt text = apdu_or_none (apdu_for dpt text write_bits)
