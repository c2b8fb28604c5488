-- Statement: what the words of a command line ask for.
use Rattle.std.specs.Prelude.{ℕ, ◌/◌, ◌==◌, ◌&&◌, nat_le, nat_eq, if◌then◌else◌, List, [], ◌∷◌, length, codes, Option, Some, None}
use Rattle.std.specs.Result.{result_ok}
use Rattle.std.specs.Cmp.Lexicographic.{pointwise}
use Rattle.hex.specs.Hex.{decode_of}
use Rattle.knx_base.specs.Decimal.{decimal_up_to}
use Rattle.datapoints.specs.declared.dpt.Dpt.{Dpt}
use Rattle.datapoints.specs.Names.{type_named}

pub data Asked : Type 0 where
  -- open this frame under this key
  Open : (key frame : List ℕ) → Asked
  -- judge the records of one file under the tables of another
  Audit : (tables frames : List ℕ) → Asked
  -- the same under the rows of a keyring too, which a password opens
  AuditKeyring : (keyring password tables frames : List ℕ) → Asked
  -- step an installation through the script of a file
  Replay : (script : List ℕ) → Asked
  -- the same with the script that is made from a number, of so many events
  Make : (number count : ℕ) → Asked
  -- judge records under tables, and show the values of groups whose types a third file tells
  AuditValues : (tables types frames : List ℕ) → Asked
  -- print the APDU that writes the value of this text
  Encode : (dpt : Dpt) (text : List ℕ) → Asked

-- the octets that a word writes in hexadecimal, where they are so many
abbrev pub octets_between : ℕ → ℕ → List ℕ → Option (List ℕ)
octets_between least most word =
    if nat_le least (length word / 2) && nat_le (length word / 2) most then result_ok (decode_of word) else None

-- a key of 16 octets and a frame of 1 to 1,024
abbrev pub opening : Option (List ℕ) → Option (List ℕ) → Option Asked
opening (Some key) (Some frame) = Some (Open key frame)
opening (Some key) None = None
opening None frame = None

-- the number that a script is made from
abbrev pub number_of : List ℕ → Option ℕ
number_of word = decimal_up_to 4294967295 word

-- a count of events is not 0
abbrev pub above_zero : Option ℕ → Option ℕ
above_zero (Some count) = if count == 0 then None else Some count
above_zero None = None

abbrev pub count_of : List ℕ → Option ℕ
count_of word = above_zero (decimal_up_to 100000 word)

abbrev pub making : Option ℕ → Option ℕ → Option Asked
making (Some number) (Some count) = Some (Make number count)
making (Some number) None = None
making None count = None

-- a type and a text
abbrev pub encoding : Option Dpt → List ℕ → Option Asked
encoding (Some dpt) text = Some (Encode dpt text)
encoding None text = None

-- what the words ask for; None where they are of no form
abbrev pub command_of : List (List ℕ) → Option Asked
command_of (verb ∷ script ∷ []) = if pointwise nat_eq verb (codes "replay") then Some (Replay script) else None
command_of (verb ∷ first ∷ second ∷ []) =
    if pointwise nat_eq verb (codes "open") then opening (octets_between 16 16 first) (octets_between 1 1024 second)
    else if pointwise nat_eq verb (codes "audit") then Some (Audit first second)
    else if pointwise nat_eq verb (codes "make") then making (number_of first) (count_of second)
    else if pointwise nat_eq verb (codes "encode") then encoding (type_named first) second
    else None
command_of (verb ∷ tables ∷ types ∷ frames ∷ []) =
    if pointwise nat_eq verb (codes "audit-values") then Some (AuditValues tables types frames) else None
command_of (verb ∷ keyring ∷ password ∷ tables ∷ frames ∷ []) =
    if pointwise nat_eq verb (codes "audit-keyring") then Some (AuditKeyring keyring password tables frames) else None
command_of _ = None
