-- Statement: the texts of an audit: the line of a record, and the total.
use Rattle.std.specs.Prelude.{ℕ, ℤ, List, [], ◌∷◌, ◌++◌, codes, Bool, true, false, Option, Some, None}
use Rattle.std.specs.Fmt.{decimal, signed_decimal}
use Rattle.knx_base.specs.Address.{individual_text, group_text}
use Rattle.judge_rules.specs.Text.{verdict_text}
use Rattle.audit_core.specs.Audit.{Total}
use Rattle.audit_core.specs.declared.line.Addresses.{Addresses}
use Rattle.audit_core.specs.declared.line.Line.{Line}

abbrev pub time_text : Option ℤ → List ℕ
time_text None = []
time_text (Some time) = codes " @" ++ signed_decimal time

abbrev pub address_text : Bool → ℕ → List ℕ
address_text true address = group_text address
address_text false address = individual_text address

abbrev pub repeat_text : Bool → List ℕ
repeat_text true = codes " repeat"
repeat_text false = []

-- the addresses, and whether the frame was repeated; a dash where the record is no frame
abbrev pub place_text : Option Addresses → Bool → List ℕ
place_text None repeated = codes "-"
place_text (Some found) repeated =
    individual_text found.source.0 ++ codes " > " ++ address_text found.group found.destination ++ repeat_text repeated

abbrev pub end_text : Bool → List ℕ
end_text true = codes " !\n"
end_text false = codes "\n"

-- what stands before the verdict
abbrev pub head_text : Line → Option ℤ → List ℕ
head_text line time =
    decimal line.index ++ time_text time ++ 32 ∷ [] ++ place_text line.addresses line.repeated ++ 32 ∷ []

-- the line of a record, with its time, the APDU that was opened, and what stands behind that
abbrev pub line_text_with : Line → Option ℤ → List ℕ → List ℕ → List ℕ
line_text_with line time apdu behind =
    head_text line time ++ verdict_text line.verdict apdu ++ behind ++ end_text line.alarm

-- the line with nothing behind it
abbrev pub line_text : Line → Option ℤ → List ℕ → List ℕ
line_text line time apdu = line_text_with line time apdu []

abbrev pub total_text : Total → List ℕ
total_text total =
    codes "total " ++ decimal total.records ++ codes " accepted " ++ decimal total.accepted ++ codes " sync "
    ++ decimal total.synchronised
    ++ codes " alarms " ++ decimal total.alarms ++ 10 ∷ []
