-- Statement: what a tables text says: each line one row.
use Rattle.std.specs.Prelude.{◌≡◌, ℕ, ◌+◌, ◌==◌, nat_eq, if◌then◌else◌, Bool, List, [], ◌∷◌, length, drop, codes, Option, Some, None, Result, Ok, Err}
use Rattle.std.specs.Option.{option_map, ok_or}
use Rattle.std.specs.Result.{result_ok}
use Rattle.std.specs.List.{filter_map, starts_with}
use Rattle.std.specs.Cmp.Lexicographic.{pointwise}
use Rattle.std.specs.Str.Lines.{lines}
use Rattle.hex.specs.Hex.{decode_sized}
use Rattle.knx_base.specs.declared.address.GroupAddr.{GroupAddr}
use Rattle.knx_base.specs.declared.address.IndAddr.{IndAddr}
use Rattle.knx_base.specs.declared.cause.Cause.{Cause}
use Rattle.knx_base.specs.declared.cause.Cause.TheVariants as cause
use Rattle.knx_base.specs.Address.{group_of, individual_of}
use Rattle.text_lines.specs.Lines.{line_of}
use Rattle.key_tables.specs.declared.types.Channel.{Channel}
use Rattle.key_tables.specs.declared.types.Channel.TheVariants as channel
use Rattle.key_tables.specs.declared.types.Level.{Level}
use Rattle.key_tables.specs.declared.types.Level.TheVariants.{Auth, Conf}
use Rattle.key_tables.specs.declared.types.Role.{Role}
use Rattle.key_tables.specs.declared.types.Role.TheVariants.{Observe, Command, Manage}
use Rattle.key_tables.specs.declared.types.Row.{Row}
use Rattle.key_tables.specs.declared.types.Row.TheVariants as row
use Rattle.key_tables.specs.declared.faults.BuildFault.{BuildFault}
use Rattle.key_tables.specs.declared.faults.BuildFault.TheVariants as build
use Rattle.key_tables.specs.declared.faults.TablesFault.{TablesFault}
use Rattle.key_tables.specs.declared.faults.TablesFault.TheVariants.{Line, Twice, TooMany, NoMemory}
use Rattle.key_tables.specs.First.{first_of}
use Rattle.key_tables.specs.Build.{row_fault, NoneTwice}

-- ---- words

abbrev pub is_word : List ℕ → List ℕ → Bool
is_word word text = pointwise nat_eq text word

-- a group other than 0
abbrev pub group_at : Option ℕ → Result GroupAddr Cause
group_at None = Err cause.Address
group_at (Some value) = if value == 0 then Err cause.Address else Ok (record { 0 = value })

abbrev pub group_named : List ℕ → Result GroupAddr Cause
group_named text = group_at (group_of text)

abbrev pub device_at : Option ℕ → Result IndAddr Cause
device_at None = Err cause.Address
device_at (Some value) = Ok (record { 0 = value })

abbrev pub device_named : List ℕ → Result IndAddr Cause
device_named text = device_at (individual_of text)

-- 32 hexadecimal digits
abbrev pub key_named : List ℕ → Result (List ℕ) Cause
key_named text = ok_or (result_ok (decode_sized text 16)) cause.Key

abbrev pub level_named : List ℕ → Result Level Cause
level_named text =
    if is_word (codes "auth") text then Ok Auth
    else if is_word (codes "conf") text then Ok Conf
    else Err cause.Level

abbrev pub role_named : List ℕ → Result Role Cause
role_named text =
    if is_word (codes "observe") text then Ok Observe
    else if is_word (codes "command") text then Ok Command
    else if is_word (codes "manage") text then Ok Manage
    else Err cause.Role

-- what follows where this is right
infixl 10 ◌>>=◌
abbrev pub ◌>>=◌ : {A B : Type 0} → Result A Cause → (A → Result B Cause) → Result B Cause
Ok x >>= f = f x
Err why >>= f = Err why

abbrev pub tool_channel : List ℕ → Result Channel Cause
tool_channel text = do
  device ← device_named text
  Ok (channel.Tool device)

abbrev pub group_channel : List ℕ → Result Channel Cause
group_channel text = do
  address ← group_named text
  Ok (channel.Group address)

-- `tool:` and a device, or a group
abbrev pub channel_named : List ℕ → Result Channel Cause
channel_named text =
    if starts_with nat_eq text (codes "tool:") then tool_channel (drop 5 text) else group_channel text

abbrev pub this_sender : List ℕ → Result (Option IndAddr) Cause
this_sender text = do
  device ← device_named text
  Ok (Some device)

-- `any` or a device
abbrev pub sender_named : List ℕ → Result (Option IndAddr) Cause
sender_named text = if is_word (codes "any") text then Ok None else this_sender text

-- ---- rows, whose first refused word is the cause

abbrev pub two_words : List (List ℕ) → Result (List ℕ × List ℕ) Cause
two_words (first ∷ second ∷ []) = Ok (first, second)
two_words _ = Err cause.Words

abbrev pub three_words : List (List ℕ) → Result (List ℕ × List ℕ × List ℕ) Cause
three_words (first ∷ second ∷ third ∷ []) = Ok (first, second, third)
three_words _ = Err cause.Words

-- `GROUP KEY LEVEL`
abbrev pub group_row : List (List ℕ) → Result Row Cause
group_row words = do
  three ← three_words words
  address ← group_named three.0
  key ← key_named three.1
  level ← level_named three.2
  Ok (row.Group address key level)

-- `DEVICE KEY`
abbrev pub tool_row : List (List ℕ) → Result Row Cause
tool_row words = do
  two ← two_words words
  device ← device_named two.0
  key ← key_named two.1
  Ok (row.Tool device key)

-- `CHANNEL SENDER ROLE`
abbrev pub role_row : List (List ℕ) → Result Row Cause
role_row words = do
  three ← three_words words
  channel ← channel_named three.0
  sender ← sender_named three.1
  role ← role_named three.2
  Ok (row.Role channel sender role)

-- the row of a line's words
abbrev pub row_of : List (List ℕ) → Result Row Cause
row_of [] = Err cause.Words
row_of (kind ∷ words) =
    if is_word (codes "group") kind then group_row words
    else if is_word (codes "tool") kind then tool_row words
    else if is_word (codes "role") kind then role_row words
    else Err cause.Words

-- what a line that was read says
abbrev pub row_in : Option (List (List ℕ)) → Result (Option Row) Cause
row_in None = Ok None
row_in (Some words) = do
  row ← row_of words
  Ok (Some row)

-- what a line says: nothing, a row, or the cause why it is refused
unfoldable pub line_says : List ℕ → Result (Option Row) Cause
line_says line = do
  words ← line_of line
  row_in words

-- ---- the whole text

abbrev pub row_said : Result (Option Row) Cause → Option Row
row_said (Ok row) = row
row_said (Err _) = None

-- the rows that lines say
abbrev pub rows_of : List (List ℕ) → List Row
rows_of lines = filter_map (λ line. row_said (line_says line)) lines

-- a row's fault, told by the number of its line
abbrev pub at_line : ℕ → BuildFault → TablesFault
at_line number (build.Twice _) = Twice number
at_line number (build.TooMany _) = TooMany number
at_line number build.NoMemory = NoMemory

-- why the line of this number, which says this after these rows, is refused
abbrev pub refusal : ℕ → List Row → Result (Option Row) Cause → Option TablesFault
refusal number rows (Err why) = Some (Line number why)
refusal number rows (Ok None) = None
refusal number rows (Ok (Some row)) = option_map (at_line number) (row_fault rows row)

-- it is this fault that the line has, or memory was wanting
abbrev pub IsRefusal : TablesFault → Option TablesFault → Type 0
IsRefusal NoMemory found = Unit {0}
IsRefusal fault found = found ≡ Some fault

-- why a line is refused right after these lines
unfoldable pub line_fault : List (List ℕ) → List ℕ → Option TablesFault
line_fault before line = refusal (length before + 1) (rows_of before) (line_says line)

abbrev pub unless : Option TablesFault → List Row → Result (List Row) TablesFault
unless None rows = Ok rows
unless (Some fault) rows = Err fault

-- the rows of a text, or the fault of its first refused line
unfoldable pub tables_of : List ℕ → Result (List Row) TablesFault
tables_of text = unless (first_of line_fault [] (lines text)) (rows_of (lines text))

-- no row of a text that is tables says again what another of them says
abbrev pub SaysNothingTwice : List ℕ → Type 0
SaysNothingTwice text = (rows : List Row) → tables_of text ≡ Ok rows → NoneTwice rows

-- it is this fault that the text has, or memory was wanting
abbrev pub IsTextFault : TablesFault → Result (List Row) TablesFault → Type 0
IsTextFault NoMemory found = Unit {0}
IsTextFault fault found = found ≡ Err fault
