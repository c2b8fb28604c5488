-- What a report shows of the value that an APDU carries. This is statement.
use Rattle.std.specs.Prelude.{ℕ, ◌==◌, if◌then◌else◌, List, ◌++◌, length, codes, Option, Some, None}
use Rattle.datapoints.specs.declared.dpt.Dpt.{Dpt}
use Rattle.datapoints.specs.Apdus.{apdu_size, value_in}
use Rattle.datapoints.specs.Texts.{text_of}

-- the text of the value that an APDU carries
abbrev pub text_in : Dpt → List ℕ → Option (List ℕ)
text_in dpt apdu = if length apdu == apdu_size dpt then text_of dpt (value_in dpt apdu) else None

abbrev pub shown_text : Option (List ℕ) → List ℕ
shown_text (Some text) = codes " = " ++ text
shown_text None = codes " = bad-value"

-- what a line shows behind an APDU with a value of the type
unfoldable pub shown_value : Dpt → List ℕ → List ℕ
shown_value dpt apdu = shown_text (text_in dpt apdu)
